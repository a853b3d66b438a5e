use Rattle.std.proofs.Common.{◌≡◌, ℕ, List, Option, Some, true, false, nat_eq, refl, sym, ap, ◌∙◌, subst}
use Rattle.std.specs.Option.{option_eq}
use Rattle.hub_record.specs.Kept.{Represents}
use Rattle.hub_record.specs.World.{after_publish}
use Rattle.hub_local.specs.Ends.{is_own_last, word_in}
use Rattle.hub_local.specs.Replies.{publish_reply}
use Rattle.hub_local.proofs.Willed.{told_plain, told_other, told_own}
use Rattle.hub_local.proofs.local_desk.LocalFifodir.tell_as_last.Goals as goal

pub returns-in-Plain-clause-after : goal.returns-in-Plain-clause-after
returns-in-Plain-clause-after c = λ w h. subst (Represents _) (sym (told_plain c.args.state w c.args.self.now.kept h (sym c.kind.ensures ∙ c.in-Plain.is))) h

pub returns-then-eq-clause-after : goal.returns-then-eq-clause-after
returns-then-eq-clause-after c = λ w h.
    let own : is_own_last w ≡ true = ap (λ (o : Option ℕ). option_eq nat_eq o (Some 1)) (sym (c.last_publisher.ensures w h)) ∙ sym c.eq.ensures ∙ c.if-eq.true in
    let published = subst (λ m. Represents c.publish.new.self.kept (after_publish w 1 m (publish_reply w m))) (c.letters.ensures ∙ c.word-word.ensures w h) (c.publish.ensures.after w h) in
    subst (Represents c.publish.new.self.kept) (sym (told_own c.args.state w c.args.self.now.kept h (sym c.kind.ensures ∙ c.in-Service.is) own)) published

pub returns-else-eq-clause-after : goal.returns-else-eq-clause-after
returns-else-eq-clause-after c = λ w h.
    let other : is_own_last w ≡ false = ap (λ (o : Option ℕ). option_eq nat_eq o (Some 1)) (sym (c.last_publisher.ensures w h)) ∙ sym c.eq.ensures ∙ c.if-eq.false in
    subst (Represents _) (sym (told_other c.args.state w c.args.self.now.kept h (sym c.kind.ensures ∙ c.in-Service.is) other)) h
