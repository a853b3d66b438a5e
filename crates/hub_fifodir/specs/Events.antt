-- Lists of events: prefixes, slices, and the front word of a list.
use Rattle.std.specs.Prelude.{◌≡◌, ◌==◌, ℕ, ◌+◌, ◌-◌, ◌*◌, Bool, not, List, ◌++◌, length, take, drop}
use Rattle.hub_letters.specs.declared.flags.Flags.{Flags}
use Rattle.hub_letters.specs.Flags.{flags_of, digit, code_of}
use Rattle.hub_record.specs.declared.Event.{Event}
use Rattle.hub_record.specs.World.{letters}

abbrev pub StartsWith : List Event → List Event → Type 0
StartsWith log seen = (rest : List Event) × (log ≡ seen ++ rest)

abbrev pub slice : ℕ → ℕ → List Event → List Event
slice from to xs = take (to - from) (drop from xs)

-- a closed mark is 0, or the number of the publisher that closed
abbrev pub is_closed : ℕ → Bool
is_closed mark = not (mark == 0)

abbrev pub packed_word : ℕ → Bool → Flags → ℕ
packed_word number closed flags = number * 32 + digit closed * 16 + code_of flags

abbrev pub front_word : List Event → ℕ → ℕ
front_word log mark = packed_word (length log) (is_closed mark) (flags_of (letters log))
