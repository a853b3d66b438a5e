use Rattle.std.proofs.Common.{◌≡◌, length, take}
use Rattle.hub_record.specs.World.{letters}
use Rattle.hub_requests.proofs.letters.copy_letters.Given as goal

-- the letters so far are copied
abbrev pub invariant-loop-i : goal.invariant-loop-i
invariant-loop-i l = record {
  long : length l.room ≡ length l.events;
  copied : take l.i l.room ≡ letters (take l.i l.events);
}
