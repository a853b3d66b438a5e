use Rattle.std.proofs.Common.{◌≡◌, ℕ, ◌+◌, ◌≤◌, ◌++◌, false, length, take, string_bytes, vec_len}
use Rattle.std.specs.String.{string_capacity}
use Rattle.hub_letters.specs.declared.mode.TheConstants.{MOST_GATHERED}
use Rattle.hub_listen.specs.Hit.{finds}
use Rattle.hub_listen.specs.Letters.{AreLetters}
use Rattle.hub_listen.specs.Alive.{AreAlive, HasRoom}
use Rattle.hub_listen.proofs.search.first_hit.Given as goal

abbrev pub invariant-loop-i : goal.invariant-loop-i
invariant-loop-i l = record {
  grown : string_bytes l.text ≡ string_bytes l.initial.text ++ take l.i l.piece;
  short : length (string_bytes l.initial.text) + l.i ≤ MOST_GATHERED;
  letters : AreLetters (string_bytes l.text);
  room : MOST_GATHERED ≤ string_capacity l.text;
  states : HasRoom l.alive (vec_len l.pattern.nfa.states);
  kept : l.alive.kept ≡ l.initial.alive.kept;
  alive : AreAlive l.pattern.nfa (string_bytes l.text) (length (string_bytes l.text)) l.alive.states.items;
  quiet : 1 ≤ length (string_bytes l.text) → finds (string_bytes l.pattern.text) (string_bytes l.text) ≡ false;
  none : (j : ℕ) → 1 ≤ j → j ≤ l.i → finds (string_bytes l.pattern.text) (string_bytes l.initial.text ++ take j l.piece) ≡ false;
}
