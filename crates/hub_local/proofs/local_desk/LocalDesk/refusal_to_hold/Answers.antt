use Rattle.std.proofs.Common.{ℕ, ap, sym, ◌∙◌}
use Rattle.hub_requests.specs.Room.{refusal_of_handle}
use Rattle.hub_local.proofs.Asking.{represents_same}
use Rattle.hub_local.proofs.AskingHolds.{hold_unnamed, hold_there}
use Rattle.hub_local.proofs.local_desk.LocalDesk.refusal_to_hold.Goals as goal

pub returns-then-not-contains_key : goal.returns-then-not-contains_key
returns-then-not-contains_key c = λ d st.
    hold_unnamed _ c.args.name.now d (represents_same _ _ d c.self.view_is st) (sym c.contains_key.ensures ∙ c.if-not-contains_key.true)

pub returns : goal.returns
returns c = λ d st.
    c.refusal_of_handle.ensures ∙ ap (λ (n : ℕ). refusal_of_handle n c.self.inside.given) c.len.ensures.len
    ∙ hold_there _ c.args.name.now d (represents_same _ _ d c.self.view_is st) (sym c.contains_key.ensures ∙ c.if-not-contains_key.false)
