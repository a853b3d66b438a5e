use Rattle.std.proofs.Common.{Bool, false, List, ℕ, Option, refl, ap, subst, ◌∙◌}
use Rattle.std.specs.Map.{set_value}
use Rattle.std.specs.Str.{bytes_eq}
use Rattle.hub_record.specs.World.{after_publish}
use Rattle.hub_record.specs.Kept.{Represents}
use Rattle.hub_requests.specs.Refusals.{reply_to_publish}
use Rattle.hub_local.specs.DeskAnswers.{refusal_by_name}
use Rattle.hub_local.specs.Replies.{publish_reply}
use Rattle.hub_local.proofs.Asking.{same_parts, replaces, no_name, named, represents_next}
use Rattle.hub_local.proofs.AskingFifodirs.{published}
use Rattle.hub_local.proofs.local_desk.LocalDesk.publish.Goals as goal

pub returns-in_default : goal.returns-in_default
returns-in_default c =
    no_name _ c.args.self.now _ false c.args.name.now _ _ c.self.view_is (same_parts _ _ (ap (λ m. m.entries) c.get_mut.follows.holds-at-none) refl refl refl) c.in_default.ensures.value

pub returns : goal.returns
returns c =
    let put = replaces _ c.args.self.now _ c.args.name.now c.in-Some.fifodir.now c.publish.new.self.kept c.self.view_is c.in-Some.ensures.value
    ((c.get_mut.follows.holds _).0 ∙ ap (λ (o : Option Bool). set_value (bytes_eq c.args.name.now) c.self.inside.fifodirs.entries (record { kept = c.publish.new.self.kept; reports = o })) c.publish.ensures.reports) refl refl refl in
    published c.args.self.now _ c.args.name.now c.in-Some.fifodir.now c.publish.new.self.kept put (λ w. c.args.letters.now) (λ d. refusal_by_name d c.args.name.now) c.publish.result
    (λ d w at h. named d c.args.name.now w at)
    (λ w h. c.publish.ensures.reply w h ∙ ap (λ (m : List ℕ). reply_to_publish (publish_reply w m)) c.items.ensures)
    (λ w h. subst (λ (m : List ℕ). Represents c.publish.new.self.kept (after_publish w 1 m (publish_reply w m))) c.items.ensures (c.publish.ensures.after w h))
    c.publish.ensures.real

pub invariant_of-self-2 : goal.invariant_of-self-2
invariant_of-self-2 c = represents_next _ c.args.self.now _ _ _ _ _ _ c.self.view_is (returns c) c.self.invariant
