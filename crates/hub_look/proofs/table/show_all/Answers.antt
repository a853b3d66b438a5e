use Rattle.std.proofs.Common.{◌≡◌, inl, map, subst, sym}
use Rattle.hub_look.proofs.Judged.{fails_to_show_all, memory_is_own, nothing_shown, shows_all}
use Rattle.hub_look.proofs.table.show_all.Goals as goal

pub returns-in_err-listed-clause-err : goal.returns-in_err-listed-clause-err
returns-in_err-listed-clause-err g c = nothing_shown c.args.is_json _ _ _ _ c.in_err-listed.field-0.0 c.from_residual.ensures.1 c.in_err-listed.ensures.err

pub returns-in_err-names-clause-err : goal.returns-in_err-names-clause-err
returns-in_err-names-clause-err g c = nothing_shown c.args.is_json _ _ _ _ _ c.from_residual-in_err-names.ensures.1 (inl memory_is_own)

pub returns-clause-ok : goal.returns-clause-ok
returns-clause-ok g c = shows_all (λ name. name.now) c.args.is_json _ _ _ _ _ _ _ c.show_each.result (subst (λ it. map (λ word. word.now) it ≡ map (λ name. name.bytes.items) c.in_ok-listed.listed.items) (sym c.deref-2.ensures.value) (subst (λ it. map (λ word. word.now) c.in_ok-names.names.items ≡ map (λ name. name.bytes.items) it) c.deref.ensures.value c.in_ok-names.ensures)) c.in_ok-listed.ensures.ok c.show_each.ensures.ok

pub returns-clause-err : goal.returns-clause-err
returns-clause-err g c = fails_to_show_all (λ name. name.now) c.args.is_json _ _ _ _ _ _ _ c.show_each.result (subst (λ it. map (λ word. word.now) it ≡ map (λ name. name.bytes.items) c.in_ok-listed.listed.items) (sym c.deref-2.ensures.value) (subst (λ it. map (λ word. word.now) c.in_ok-names.names.items ≡ map (λ name. name.bytes.items) it) c.deref.ensures.value c.in_ok-names.ensures)) c.in_ok-listed.ensures.ok c.show_each.ensures.err
