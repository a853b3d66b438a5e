use Rattle.std.proofs.Common.{ℕ, ◌<◌, get_or}
use Rattle.hub_protocol.specs.Reading.{IsTextByte}
use Rattle.hub_protocol.proofs.fields.is_text.Given as goal

-- each byte so far may be in a line
abbrev pub invariant-loop-b : goal.invariant-loop-b
invariant-loop-b l = (k : ℕ) → k < l.b-index → IsTextByte (get_or l.line k 0)
