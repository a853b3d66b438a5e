use Rattle.std.proofs.Common.{◌≡◌, ◌≤◌, length, take, vec_len, vec_capacity}
use Rattle.hub_protocol.proofs.requests.letters_of.Given as goal

abbrev pub invariant-loop-b : goal.invariant-loop-b
invariant-loop-b l = record {
  read : l.letters.items ≡ take l.b-index l.text;
  count : vec_len l.letters ≡ l.b-index;
  room : length l.text ≤ vec_capacity l.letters;
}
