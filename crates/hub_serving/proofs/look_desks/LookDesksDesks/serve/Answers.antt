use Rattle.std.proofs.Common.{subst, sym}
use Rattle.hub_shared.specs.Desks.{IsNewDesk}
use Rattle.hub_serving.proofs.Results.{no_desk}
use Rattle.hub_serving.proofs.look_desks.LookDesksDesks.serve.Goals as goal

pub returns-in_default : goal.returns-in_default
returns-in_default g c = no_desk _ _ _ _ _ _ _ _

pub returns : goal.returns
returns g c = record {
  served = λ other. record {
    old = c.over-desk.result;
    new = c.serve_staying-served.new.desk;
    begun = subst (IsNewDesk _ _) (sym c.over-desk.ensures) c.in-Ok.ensures;
    finished = c.serve_staying-served.ensures.finished;
    stopped = c.serve_staying-served.ensures.stopped;
  };
  untouched = c.serve_staying-served.ensures.memory;
  reads = c.serve_staying-served.ensures.reads;
  read_faults = c.serve_staying-served.ensures.read_faults;
  write_faults = c.serve_staying-served.ensures.write_faults;
}
