use Rattle.std.proofs.Common.{ℕ, List, Option, Some, ap, sym, subst, ◌≡◌, ◌∙◌}
use Rattle.std.specs.Map.{set_value}
use Rattle.std.specs.Str.{bytes_eq}
use Rattle.hub_letters.specs.declared.state.State.{State}
use Rattle.hub_requests.specs.Wills.{state_of}
use Rattle.hub_local.specs.Ends.{after_one}
use Rattle.hub_local.specs.Representing.{AreKept}
use Rattle.hub_local.specs.declared.local_desk.LocalFifodir.{LocalFifodir}
use Rattle.hub_local.proofs.Willed.{told_nowhere, told_there}
use Rattle.hub_local.proofs.local_desk.wills.carry_out_one.Goals as goal

pub returns-in_default-get_mut : goal.returns-in_default-get_mut
returns-in_default-get_mut c = λ model kept.
    let state : state_of c.args.will ≡ Some c.in-Some.state = sym c.state.ensures ∙ c.in-Some.is in
    subst (λ (es : List (List ℕ × LocalFifodir)). AreKept es (after_one model c.args.name.now (state_of c.args.will))) (sym (ap (λ m. m.entries) c.get_mut.follows.holds-at-none))
    (subst (λ (o : Option State). AreKept c.args.fifodirs.now.entries (after_one model c.args.name.now o)) (sym state)
    (told_nowhere c.args.fifodirs.now.entries model c.args.name.now c.in-Some.state kept (sym c.in_default-get_mut.ensures.value)))

pub returns-in-Some-get_mut : goal.returns-in-Some-get_mut
returns-in-Some-get_mut c = λ model kept.
    let state : state_of c.args.will ≡ Some c.in-Some.state = sym c.state.ensures ∙ c.in-Some.is in
    subst (λ (es : List (List ℕ × LocalFifodir)). AreKept es (after_one model c.args.name.now (state_of c.args.will))) (sym (c.get_mut.follows.holds _).0)
    (subst (λ (o : Option State). AreKept (set_value (bytes_eq c.args.name.now) c.args.fifodirs.now.entries c.tell_as_last.new.self) (after_one model c.args.name.now o)) (sym state)
    (told_there c.args.fifodirs.now.entries model c.args.name.now c.in-Some.state c.in-Some-get_mut.fifodir.now c.tell_as_last.new.self kept (sym c.in-Some-get_mut.ensures.value) c.tell_as_last.ensures.reports c.tell_as_last.ensures.after))
