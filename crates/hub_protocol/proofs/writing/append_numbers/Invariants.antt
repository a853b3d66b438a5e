use Rattle.std.proofs.Common.{◌≡◌, ◌++◌, ◌+◌, ◌≤◌, length, take, vec_len}
use Rattle.std.specs.Prelude.{vec_capacity}
use Rattle.hub_requests.specs.Texts.{numbers_text}
use Rattle.hub_protocol.proofs.writing.append_numbers.Given as goal

-- the numbers so far are appended
abbrev pub invariant-loop-number : goal.invariant-loop-number
invariant-loop-number l = record {
  appended : l.out.items ≡ l.initial.out.items ++ numbers_text (take l.number-index l.numbers);
  grown : vec_len l.out ≡ vec_len l.initial.out + length (numbers_text (take l.number-index l.numbers));
  capacity : vec_capacity l.initial.out ≤ vec_capacity l.out;
}
