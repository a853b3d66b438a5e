use Rattle.std.proofs.Common.{◌≢◌, ℕ, List, subst}
use Rattle.hub_protocol.specs.Spelling.{Last, Nothing, EndsAs, fields_of, pieces_of_last}
use Rattle.hub_protocol.specs.declared.table.Ending.TheVariants as ending
use Rattle.hub_protocol.proofs.Splits.{no_fields}
use Rattle.hub_protocol.proofs.line.last_of_text.Goals as goal

some_text : (text : List ℕ) → (last : Last) → EndsAs ending.Nothing last → fields_of text ≢ pieces_of_last last
some_text text Nothing h e = no_fields text e
some_text text last h e = h

pub returns-in-Nothing : goal.returns-in-Nothing
returns-in-Nothing c = λ last h. some_text c.args.text.now last (subst (λ e. EndsAs e last) c.in-Nothing.is h)
