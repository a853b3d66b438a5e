use Rattle.std.proofs.Common.{refl}
use Rattle.hub_shared.proofs.shared_desk.SharedDeskDesk.end.Goals as goal

pub returns : goal.returns
returns g c = record {
  hub = refl;
  pause = refl;
  client = refl;
  ends = record { fifodirs = c.leave.ensures; handles = c.end.ensures.none; given = c.end.ensures.given };
  wills = (c.carry_out-self.new.self, c.carry_out-self.ensures);
  none_left = c.clear-2.ensures;
}
