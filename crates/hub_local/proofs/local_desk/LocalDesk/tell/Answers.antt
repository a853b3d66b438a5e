use Rattle.std.proofs.Common.{Bool, List, ℕ, Option, refl, sym, ap, subst, ◌∙◌}
use Rattle.std.specs.Map.{set_value}
use Rattle.std.specs.Str.{bytes_eq}
use Rattle.hub_record.specs.World.{after_publish}
use Rattle.hub_record.specs.Kept.{Represents}
use Rattle.hub_requests.specs.Refusals.{reply_to_publish}
use Rattle.hub_requests.specs.Wills.{wills_in}
use Rattle.hub_local.specs.DeskAnswers.{refusal_to_tell}
use Rattle.hub_local.specs.Ends.{word_in}
use Rattle.hub_local.specs.Desks.{world_of}
use Rattle.hub_local.specs.Replies.{publish_reply}
use Rattle.hub_local.proofs.Asking.{same_parts, replaces, represents_next}
use Rattle.hub_local.proofs.AskingFifodirs.{published, untold, may_tell, tell_no_name}
use Rattle.hub_local.proofs.local_desk.LocalDesk.tell.Goals as goal
use Rattle.hub_local.proofs.local_desk.LocalDesk.tell.Goals.{in-Plain, in-Service}

pub returns-in_default : goal.returns-in_default
returns-in_default c =
    tell_no_name _ c.args.self.now _ c.args.name.now _ _ c.self.view_is (same_parts _ _ (ap (λ m. m.entries) c.get_mut.follows.holds-at-none) refl refl refl) c.in_default.ensures.value

pub returns : goal.returns
returns c = elim c.match-kind.branch [
  | in-Plain w ↦ (
      let put = replaces _ c.args.self.now _ c.args.name.now c.in-Some.fifodir.now c.in-Some.fifodir.now.kept c.self.view_is c.in-Some.ensures.value
      (ap (λ z. z.fifodirs.entries) w.self-inside-is ∙ (c.get_mut.follows.holds _).0) (ap (λ z. z.holdings.entries) w.self-inside-is) (ap (λ z. z.given) w.self-inside-is) (ap (λ z. wills_in z.wills) w.self-inside-is) in
      untold c.args.self.now _ c.args.name.now c.in-Some.fifodir.now c.in-Some.fifodir.now.kept put (word_in c.args.state) _ _ _ (sym c.kind.ensures ∙ w.in-Plain.is) refl w.result-is
      )
  | in-Service w ↦ (
      let put = replaces _ c.args.self.now _ c.args.name.now c.in-Some.fifodir.now w.publish.new.self.kept c.self.view_is c.in-Some.ensures.value
      (ap (λ z. z.fifodirs.entries) w.self-inside-is ∙ (c.get_mut.follows.holds _).0 ∙ ap (λ (o : Option Bool). set_value (bytes_eq c.args.name.now) c.self.inside.fifodirs.entries (record { kept = w.publish.new.self.kept; reports = o })) w.publish.ensures.reports)
      (ap (λ z. z.holdings.entries) w.self-inside-is) (ap (λ z. z.given) w.self-inside-is) (ap (λ z. wills_in z.wills) w.self-inside-is) in
      published c.args.self.now _ c.args.name.now c.in-Some.fifodir.now w.publish.new.self.kept put (word_in c.args.state) (λ d. refusal_to_tell (world_of d.fifodirs c.args.name.now)) c.match-kind.result
      (λ d v at h. may_tell d c.args.name.now v c.in-Some.fifodir.now.kept at h (sym c.kind.ensures ∙ w.in-Service.is))
      (λ v h. w.result-is ∙ w.publish.ensures.reply v h ∙ ap (λ (m : List ℕ). reply_to_publish (publish_reply v m)) (w.letters.ensures ∙ w.word-word.ensures v h))
      (λ v h. subst (λ (m : List ℕ). Represents w.publish.new.self.kept (after_publish v 1 m (publish_reply v m))) (w.letters.ensures ∙ w.word-word.ensures v h) (w.publish.ensures.after v h))
      (λ e. w.publish.ensures.real (sym w.result-is ∙ e))
      )
]

pub invariant_of-self-2 : goal.invariant_of-self-2
invariant_of-self-2 c = represents_next _ c.args.self.now _ _ _ _ _ _ c.self.view_is (returns c) c.self.invariant
