use Rattle.std.proofs.Common.{◌≢◌, map, take}
use Rattle.std.specs.Prelude.{All}
use Rattle.hub_protocol.specs.Meanings.{entry_shown}
use Rattle.hub_protocol.proofs.meanings.meaning_of.Given as goal

-- no entry so far has the word
abbrev pub invariant-loop-entry : goal.invariant-loop-entry
invariant-loop-entry g l = All (λ entry. l.word ≢ entry.0) (take l.entry-index (map entry_shown l.list))
