use Rattle.std.proofs.Common.{subst, List, ℕ, Err}
use Rattle.std.proofs.lemmas.Result.{err_from_is_err_and}
use Rattle.hub_local.specs.Desks.{Fifodir}
use Rattle.hub_local.specs.Representing.{AreKept}
use Rattle.hub_local.specs.Opening.{OpensPost}
use Rattle.hub_local.proofs.Posts.{opens_until}
use Rattle.hub_local.proofs.local_desk.waits.open_all.Goals as goal

pub returns-in_err-post-clause-opens : goal.returns-in_err-post-clause-opens
returns-in_err-post-clause-opens c = λ model kept.
    let t = opens_until c.args.want c.args.names.now c.loop-name.name-index c.name-item.result model c.loop-name.fifodirs.entries c.open.new.fifodirs.entries c.loop-name.posts.items
    c.in_err-post.field-0.0 c.loop-name-test.true (c.loop-name.invariant.opens model kept)
    (λ (now : List Fifodir) (k : AreKept c.loop-name.fifodirs.entries now).
    subst (λ (n : List ℕ). OpensPost c.args.want n now (Err c.in_err-post.field-0.0) c.open.new.fifodirs.entries) c.name-item.is (c.in_err-post.ensures now k)) in
    let p = err_from_is_err_and c.from_residual.result c.from_residual.ensures.1 in rw (p.1, p.2) t
