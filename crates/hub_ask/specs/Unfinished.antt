-- The unfinished reply of a peer.
use Rattle.std.specs.Prelude.{ℕ}
use Rattle.hub_ask.specs.declared.bounded.Bounded.{Bounded}

-- how many bytes came since the last LF
abbrev pub unfinished_of : {S : Type 0} → Bounded S → ℕ
unfinished_of replies = replies.unfinished
