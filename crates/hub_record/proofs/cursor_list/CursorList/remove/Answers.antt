use Rattle.std.proofs.Common.{nat_eq, sym, ap, subst, ◌∙◌, arith}
use Rattle.std.proofs.lemmas.Option.{slice_get_within}
use Rattle.std.specs.List.{slice_get}
use Rattle.std.specs.Map.{remove_entry}
use Rattle.hub_record.specs.Backlog.{IsRising}
use Rattle.hub_record.proofs.Rising.{remove_entry-found, remove_entry-none, rising-remove_entry}
use Rattle.hub_record.proofs.cursor_list.CursorList.remove.Goals as goal

pub returns-in_err-place-clause-entries : goal.returns-in_err-place-clause-entries
returns-in_err-place-clause-entries c = sym (remove_entry-none (nat_eq c.args.id) _ (sym c.in_err-place.ensures.next))

pub remove-removed-requires : goal.remove-removed-requires
remove-removed-requires c =
    let within = slice_get_within c.self.inside.list.items c.in_ok-place.place (c.args.id, c.in_ok-place.next) (ap (λ cs. slice_get cs c.in_ok-place.place) c.self.view_is ∙ c.in_ok-place.ensures.place) in
    omega (arith, within, c.self.inside.list.ok.0)

pub invariant_of-self : goal.invariant_of-self
invariant_of-self c =
    let found = ap (λ cs. slice_get cs c.in_ok-place.place) c.self.view_is ∙ c.in_ok-place.ensures.place in
    subst IsRising (sym (c.remove-removed.ensures.items ∙ remove_entry-found _ _ c.args.id _ c.self.invariant found)) (rising-remove_entry (nat_eq c.args.id) _ c.self.invariant)

pub returns-clause-entries : goal.returns-clause-entries
returns-clause-entries c =
    let found = ap (λ cs. slice_get cs c.in_ok-place.place) c.self.view_is ∙ c.in_ok-place.ensures.place in
    c.remove-removed.ensures.items ∙ remove_entry-found _ _ c.args.id _ c.self.invariant found ∙ ap (remove_entry (nat_eq c.args.id)) c.self.view_is
