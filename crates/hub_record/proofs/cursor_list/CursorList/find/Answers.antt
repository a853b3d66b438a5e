use Rattle.std.proofs.Common.{◌≡◌, true, false, true≢false, nat_lt, sym, ap, subst, ◌∙◌}
use Rattle.std.specs.List.Sorted.{IsPartitionPoint}
use Rattle.std.specs.Option.{option_map}
use Rattle.hub_record.specs.Backlog.{IsRising}
use Rattle.hub_record.proofs.Rising.{lookup-found, lookup-missed}
use Rattle.hub_record.proofs.cursor_list.CursorList.find.Goals as goal

pub search-place-requires : goal.search-place-requires
search-place-requires c = subst IsRising (sym c.as_slice-list.ensures.value) c.self.invariant

pub returns-in-Some-clause-next : goal.returns-in-Some-clause-next
returns-in-Some-clause-next c = sym (lookup-found _ _ c.args.id _ (subst IsRising c.self.view_is c.self.invariant) c.in-Some.ensures.some)

pub returns-in_err-next-clause-next : goal.returns-in_err-next-clause-next
returns-in_err-next-clause-next c =
    ap (option_map (λ f. f.1)) c.from_residual.ensures
    ∙ sym (lookup-missed _ _ c.args.id (subst IsRising c.self.view_is c.self.invariant) (subst (λ cs. IsPartitionPoint (λ p. nat_lt p.0 c.args.id ≡ true) (λ p. nat_lt p.0 c.args.id ≡ false) cs c.search-place.result) (c.as_slice-list.ensures.value ∙ c.self.view_is) c.search-place.ensures) (λ v e. true≢false (sym (c.in_err-next.ensures.none v e))))

pub returns-clause-next : goal.returns-clause-next
returns-clause-next c = sym (lookup-found _ _ c.args.id _ (subst IsRising c.self.view_is c.self.invariant) c.in_ok-next.ensures.some)
