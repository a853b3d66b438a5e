use Rattle.std.proofs.Common.{sym, ap, ◌∙◌}
use Rattle.hub_requests.proofs.AbsentNames.{set_nowhere}
use Rattle.hub_requests.specs.declared.will.Will.TheVariants as will
use Rattle.hub_requests.proofs.wills.Wills.take_back.Goals as goal

pub returns-in_default : goal.returns-in_default
returns-in_default c = ap (λ m. m.entries) c.get_mut.follows.holds-at-none ∙ sym (set_nowhere _ c.args.self.now.by_name.entries will.None (sym c.in_default.ensures.value))
