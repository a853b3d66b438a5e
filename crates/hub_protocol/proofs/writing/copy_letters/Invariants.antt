use Rattle.std.proofs.Common.{◌≡◌, length, take}
use Rattle.hub_protocol.proofs.writing.copy_letters.Given as goal

-- the letters so far are copied
abbrev pub invariant-loop-i : goal.invariant-loop-i
invariant-loop-i l = record {
  long : length l.bytes ≡ length l.letters;
  copied : take l.i l.bytes ≡ take l.i l.letters;
}
