use Rattle.std.proofs.Common.{◌≢◌, ℕ, List, codes, true, false, rules}
use Rattle.hub_protocol.specs.Spelling.{Last, Nothing, Names, Pattern, Evict, EndsAs, fields_of, pieces_of_last}
use Rattle.hub_protocol.specs.declared.table.Ending.TheVariants as ending
use Rattle.hub_protocol.proofs.Splits.{no_fields, text_of_one}
use Rattle.hub_protocol.proofs.line.last_evict.Goals as goal

-- another text than `evict`
not_evict : (text : List ℕ) → text ≢ codes "evict" → (last : Last) → EndsAs ending.Evict last → fields_of text ≢ pieces_of_last last
not_evict text other (Evict true) h e = other (text_of_one text (codes "evict") e)
not_evict text other (Evict false) h e = no_fields text e
not_evict text other Nothing h e = h
not_evict text other (Names names) h e = h
not_evict text other (Pattern pattern) h e = h

pub returns-else-eq : goal.returns-else-eq
returns-else-eq c =
    let other : c.args.text.now ≢ codes "evict" = search rules in
    not_evict c.args.text.now other
