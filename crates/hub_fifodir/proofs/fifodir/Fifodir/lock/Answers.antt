use Rattle.std.proofs.Common.{rules, ◌∷◌, Some, refl, ap, sym, subst, ◌∙◌}
use Rattle.std.specs.Option.{IsSome}
use Rattle.atomic_table.specs.Table.{rest}
use Rattle.hub_fifodir.specs.Steps.{Holding}
use Rattle.hub_fifodir.proofs.AllowedSteps.{asks_lock, taken_out, found_it}
use Rattle.hub_fifodir.proofs.fifodir.Fifodir.lock.Goals as goal

pub swap-found-requires : goal.swap-found-requires
swap-found-requires g c = (search rules, search rules, asks_lock _ _ _ c.args.seat.now.at.me c.loop.seat.at.me c.loop.invariant.2 c.requires.idle)

pub exchange-requires : goal.exchange-requires
exchange-requires g c = let t = c.swap-found.ensures.2.0 c.if-found-eq0.true in (search rules, (Some t.0, t.1 ∙ ap (λ l. (0, Some t.0) ∷ rest l) (sym t.1)))

pub unwrap-locked-requires : goal.unwrap-locked-requires
unwrap-locked-requires g c = let t = c.swap-found.ensures.2.0 c.if-found-eq0.true in subst IsSome (sym (found_it c.loop.seat.at.me c.swap-found.new.seat.me _ t c.exchange.ensures.2)) refl

pub returns-then-found-eq0-clause-holding : goal.returns-then-found-eq0-clause-holding
returns-then-found-eq0-clause-holding g c = let t = c.swap-found.ensures.2.0 c.if-found-eq0.true in
    let out = taken_out c.loop.seat.at.me c.swap-found.new.seat.me c.exchange.new.seat.me c.exchange.result c.unwrap-locked.result t c.exchange.ensures.2 c.exchange.ensures.3 c.unwrap-locked.ensures in
    subst (λ m. Holding m c.unwrap-locked.result c.exchange.new.seat.me) c.loop.invariant.2 out
