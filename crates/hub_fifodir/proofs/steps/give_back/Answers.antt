use Rattle.std.proofs.Common.{rules, ◌∷◌, Some, ap, ◌∙◌}
use Rattle.atomic_table.specs.Table.{rest}
use Rattle.hub_fifodir.proofs.AllowedSteps.{asks_unlock}
use Rattle.hub_fifodir.proofs.steps.give_back.Goals as goal

pub store-requires : goal.store-requires
store-requires g c = (
  search rules,
  search rules,
  asks_unlock _ _ _ c.args.seat.now.at.me c.exchange.new.seat.me c.args.held.locked g.N.ViewAfter.view
      (c.exchange.ensures.3 ∙ ap (λ l. (c.args.seat.now.at.me.0, (0, Some c.args.held.locked) ∷ rest l)) c.requires.held) c.requires.gives,
)
