use Rattle.std.proofs.Common.{◌∷◌, [], refl, sym}
use Rattle.hub_ask.proofs.Exchanges.{one_line, some_byte}
use Rattle.hub_ask.proofs.exchanging.as_input.Goals as goal

pub returns-else-is_empty-clause-one : goal.returns-else-is_empty-clause-one
returns-else-is_empty-clause-one c = one_line c.args.line.now c.requires (some_byte c.args.line.now (sym (c.if-is_empty.ensures)))

pub returns-else-is_empty-clause-prefix : goal.returns-else-is_empty-clause-prefix
returns-else-is_empty-clause-prefix c = (10 ∷ [], refl)
