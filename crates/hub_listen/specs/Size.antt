-- How much a listener keeps for its pattern.
use Rattle.std.specs.Prelude.{ℕ, ◌≤◌, ◌*◌, ◌+◌, List, length, vec_len, vec_capacity}
use Rattle.regex_nfa.specs.declared.nfa.Nfa.{Nfa}
use Rattle.hub_listen.specs.Alive.{SearchesFor}
use Rattle.hub_listen.specs.declared.size.TheConstants.{MOST_BYTES}

-- The bytes of the NFA's tables, by the room that each has: 12 a state, 8 a transition, 4 a rank. Each of three lists of
-- states has two numbers of 4 bytes for each state.
abbrev pub bytes_for : Nfa → ℕ
bytes_for nfa =
    12 * vec_capacity nfa.states + 8 * vec_capacity nfa.transitions + 4 * vec_capacity nfa.ranks + 3 * (4 + 4) * vec_len nfa.states

-- a listener for the pattern keeps at most that much, with the pattern's text
pub record IsSmall (pattern : List ℕ) : Type 0 where
  pub nfa : Nfa
  pub searches : ∥ SearchesFor nfa pattern ∥₁
  pub small : bytes_for nfa + length pattern ≤ MOST_BYTES
