-- What the fields of a listener keep.
use Rattle.std.specs.Prelude.{◌≡◌, ◌≤◌, false, length, string_bytes, vec_capacity, vec_len}
use Rattle.std.specs.String.{string_capacity}
use Rattle.hub_letters.specs.declared.mode.TheConstants.{MOST_GATHERED}
use Rattle.hub_listen.specs.Hit.{finds}
use Rattle.hub_listen.specs.Letters.{AreLetters}
use Rattle.hub_listen.specs.Alive.{AreAlive, HasRoom}
use Rattle.hub_listen.specs.Listening.{Listening}
use Rattle.hub_listen.specs.declared.listener.Listener.TheInside.{Inside}

abbrev pub listening_of : Inside → Listening
listening_of l = record {
  pattern = string_bytes l.pattern.text;
  mode = l.mode;
  gathered = l.letters.items;
  hit = l.hit.items;
}

-- The text has the letters' bytes, the states are those of its searches, and there is room for as many of each as it may
-- gather.
pub record IsKept (l : Inside) : Type 0 where
  pub same : string_bytes l.text ≡ l.letters.items
  pub letters : AreLetters (string_bytes l.text)
  pub states_room : HasRoom l.alive (vec_len l.pattern.nfa.states)
  pub alive : AreAlive l.pattern.nfa (string_bytes l.text) (length (string_bytes l.text)) l.alive.states.items
  pub quiet : 1 ≤ length (string_bytes l.text) → finds (string_bytes l.pattern.text) (string_bytes l.text) ≡ false
  pub short : length l.letters.items ≤ MOST_GATHERED
  pub hit_short : length l.hit.items ≤ MOST_GATHERED
  pub text_room : MOST_GATHERED ≤ string_capacity l.text
  pub letters_room : MOST_GATHERED ≤ vec_capacity l.letters
  pub hit_room : MOST_GATHERED ≤ vec_capacity l.hit
