use Rattle.std.proofs.Common.{◌≡◌, ℕ, List, Some, refl, sym, ap, ◌∙◌}
use Rattle.std.specs.Map.{lookup}
use Rattle.std.specs.Str.{bytes_eq}
use Rattle.hub_requests.specs.Wills.{with_will}
use Rattle.hub_requests.specs.declared.will.Will.{Will}
use Rattle.hub_local.specs.Representing.{Local}
use Rattle.hub_local.proofs.Asking.{represents_next}
use Rattle.hub_local.proofs.Willed.{will_no_name, will_plain, will_lacks, will_done}
use Rattle.hub_local.proofs.local_desk.LocalDesk.will.Goals as goal

pub returns-in_default : goal.returns-in_default
returns-in_default c = will_no_name c.args.self.now _ c.args.name.now c.args.will refl (c.in_default.ensures.value ∙ ap (λ (z : Local). lookup (bytes_eq c.args.name.now) z.fifodirs) c.self.view_is)

pub returns-in-Plain : goal.returns-in-Plain
returns-in-Plain c =
    let there = c.in-Some.ensures.value ∙ ap (λ (z : Local). lookup (bytes_eq c.args.name.now) z.fifodirs) c.self.view_is in
    will_plain c.args.self.now _ c.args.name.now c.args.will c.in-Some.fifodir.now there refl (sym c.kind.ensures ∙ c.in-Plain.is)

pub returns-in_default-room_for : goal.returns-in_default-room_for
returns-in_default-room_for c =
    let there = c.in-Some.ensures.value ∙ ap (λ (z : Local). lookup (bytes_eq c.args.name.now) z.fifodirs) c.self.view_is in
    let same = ap (λ (ws : List (List ℕ × Will)). record { fifodirs = c.self.inside.fifodirs.entries; holdings = c.self.inside.holdings.entries; given = c.self.inside.given; wills = ws }) c.room_for.ensures.same ∙ c.self.view_is in
    will_lacks c.args.self.now _ c.args.name.now c.args.will c.in-Some.fifodir.now there same (sym c.kind.ensures ∙ c.in-Service.is)

pub returns : goal.returns
returns c =
    let there = c.in-Some.ensures.value ∙ ap (λ (z : Local). lookup (bytes_eq c.args.name.now) z.fifodirs) c.self.view_is in
    let wills = c.put.ensures ∙ ap (λ (ws : List (List ℕ × Will)). with_will ws c.in-Ok.key c.args.will) (c.room_for.ensures.same ∙ ap (λ (z : Local). z.wills) c.self.view_is)
    ∙ ap (λ (key : List ℕ). with_will c.args.self.now.wills key c.args.will) c.in-Ok.ensures.key in
    will_done c.args.self.now _ c.args.name.now c.args.will c.in-Some.fifodir.now there (ap (λ (z : Local). z.fifodirs) c.self.view_is) (ap (λ (z : Local). z.holdings) c.self.view_is) (ap (λ (z : Local). z.given) c.self.view_is)
    wills (sym c.kind.ensures ∙ c.in-Service.is)

pub invariant_of-self-2 : goal.invariant_of-self-2
invariant_of-self-2 c = represents_next _ c.args.self.now _ _ _ _ _ _ c.self.view_is (returns c) c.self.invariant
