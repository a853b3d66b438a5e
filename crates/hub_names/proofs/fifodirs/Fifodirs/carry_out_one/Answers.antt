use Rattle.std.proofs.Common.{◌∙◌, Option, IsSome, inl, refl, sym, subst}
use Rattle.hub_letters.specs.declared.state.State.{State}
use Rattle.hub_names.specs.declared.joined.Joined.{Joined}
use Rattle.hub_names.specs.Wills.{TellsState}
use Rattle.hub_names.proofs.fifodirs.Fifodirs.carry_out_one.Goals as goal

pub returns-in-Some-get_mut : goal.returns-in-Some-get_mut
returns-in-Some-get_mut g c =
    let put = (c.get_mut.follows.holds c.carry_out.new.self).3 (subst (λ (o : Option Joined). IsSome o) c.in-Some-get_mut.ensures.value refl) in
    let state = sym c.state.ensures ∙ c.in-Some.is in
    subst (λ (o : Option State). TellsState o c.args.self.now c.args.name.now c.carry_out.result (record c.args.self.now { by_name = c.get_mut.follows.lender c.carry_out.new.self })) (sym state)
    (inl (record {
      before = c.in-Some-get_mut.joined.now;
      after = c.carry_out.new.self;
      kept_is = sym c.in-Some-get_mut.ensures.value;
      tells = c.carry_out.ensures;
      keeps = record { here = put.1; others = put.2 };
    }))
