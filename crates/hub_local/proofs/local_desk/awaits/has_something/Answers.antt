use Rattle.std.proofs.Common.{not, nat_eq, Some, sym, ap, ◌∙◌, true≢false}
use Rattle.std.specs.Option.{option_eq}
use Rattle.hub_local.proofs.AskingAwaits.{something_pending}
use Rattle.hub_local.proofs.local_desk.awaits.has_something.Goals as goal
use Rattle.hub_local.proofs.local_desk.awaits.has_something.Goals.{then-holds_letter, else-holds_letter}

pub returns-else-closed : goal.returns-else-closed
returns-else-closed c = λ w s st is. elim c.if-holds_letter.branch [
  | then-holds_letter b ↦ absurd (true≢false (sym b.if-holds_letter.true ∙ sym b.value-is ∙ c.if-closed.false))
  | else-holds_letter b ↦ c.ne.ensures ∙ ap (λ o. not (option_eq nat_eq o (Some 0))) (c.waiting.ensures w st)
      ∙ something_pending c.args.holding.now w s is (sym b.if-holds_letter.ensures) (sym st.closed ∙ sym b.closed.ensures ∙ sym b.value-is ∙ c.if-closed.false)
]
