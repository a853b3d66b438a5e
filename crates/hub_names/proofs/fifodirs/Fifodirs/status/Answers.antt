use Rattle.std.proofs.Common.{◌∙◌, refl, sym, subst, ap, Option, IsSome}
use Rattle.std.proofs.lemmas.Map.Steps.{set_value_same}
use Rattle.std.specs.Map.{set_value}
use Rattle.std.specs.Str.{bytes_eq}
use Rattle.hub_names.specs.declared.joined.Joined.{Joined}
use Rattle.hub_names.proofs.KeptFifodirs.{status_known, status_silent}
use Rattle.hub_names.proofs.fifodirs.Fifodirs.status.Goals as goal

pub returns-clause-step : goal.returns-clause-step
returns-clause-step c =
    let put = (c.get_mut.follows.holds c.status.new.self).3 (subst (λ (o : Option Joined). IsSome o) c.in-Some.ensures.value refl) in
    status_known c.args.self.now _ c.args.name.now c.in-Some.joined.now c.status.new.self c.status.result (sym c.in-Some.ensures.value) put.1 put.2 c.status.ensures.step

pub returns-clause-none : goal.returns-clause-none
returns-clause-none c =
    let was = c.in-Some.joined.now in
    status_silent c.args.self.now (record c.args.self.now { by_name = c.get_mut.follows.lender c.status.new.self }) c.args.name.now was c.status.new.self c.status.result (sym c.in-Some.ensures.value)
    (λ same. (c.get_mut.follows.holds c.status.new.self).0
    ∙ ap (set_value (bytes_eq c.args.name.now) c.args.self.now.by_name.entries) same
    ∙ set_value_same (bytes_eq c.args.name.now) _ _ (sym c.in-Some.ensures.value))
    c.status.ensures.none
