use Rattle.std.proofs.Common.{subst, sym, ap, ◌∙◌}
use Rattle.hub_rights.specs.Limits.{left_of}
use Rattle.hub_rights.specs.declared.limited.Limited.{Limited}
use Rattle.hub_shared.specs.Desks.{IsNewDesk}
use Rattle.hub_shared.specs.declared.shared_desk.SharedDesk.{SharedDesk}
use Rattle.hub_serving.proofs.Results.{no_desk}
use Rattle.hub_serving.proofs.living_desks.LivingDesksDesks.serve.Goals as goal

pub returns-in_default : goal.returns-in_default
returns-in_default g c = no_desk _ _ _ _ _ _ _ _

pub returns-in_default-open : goal.returns-in_default-open
returns-in_default-open g c = no_desk _ _ _ _ _ _ _ _

pub returns : goal.returns
returns g c = record {
  served = λ other. record {
    old = c.over-desk.result;
    new = c.serve_staying-served.new.desk;
    begun = (
      subst (IsNewDesk _ _) (sym (ap (λ (limited : Limited (SharedDesk _)). limited.below) c.over-desk.ensures ∙ c.over.ensures.below)) c.in-Ok-open.ensures,
      ap (λ (limited : Limited (SharedDesk _)). left_of limited) c.over-desk.ensures ∙ c.over.ensures.left,
    );
    finished = c.serve_staying-served.ensures.finished;
    stopped = c.serve_staying-served.ensures.stopped;
  };
  untouched = c.serve_staying-served.ensures.memory;
  reads = c.serve_staying-served.ensures.reads;
  read_faults = c.serve_staying-served.ensures.read_faults;
  write_faults = c.serve_staying-served.ensures.write_faults;
}
