use Rattle.std.proofs.Common.{◌≡◌, ◌++◌, ◌+◌, ◌≤◌, length, take, vec_len}
use Rattle.std.specs.Prelude.{vec_capacity}
use Rattle.hub_requests.specs.Names.{names_text}
use Rattle.hub_protocol.proofs.writing.append_names.Given as goal

-- the names so far are appended
abbrev pub invariant-loop-name : goal.invariant-loop-name
invariant-loop-name l = record {
  appended : l.out.items ≡ l.initial.out.items ++ names_text (take l.name-index l.names);
  grown : vec_len l.out ≡ vec_len l.initial.out + length (names_text (take l.name-index l.names));
  capacity : vec_capacity l.initial.out ≤ vec_capacity l.out;
}
