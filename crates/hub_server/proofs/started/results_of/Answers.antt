use Rattle.std.proofs.Common.{◌++◌, ◌∷◌, [], subst, sym}
use Rattle.std.specs.List.{AllZip}
use Rattle.hub_server.proofs.Joined.{AllZip-push}
use Rattle.hub_server.proofs.started.results_of.Goals as goal

pub threads-preserved : goal.threads-preserved
threads-preserved g c =
    subst (AllZip g.P.Promise.kept_by (c.threads.yielded ++ c.in-Some.thread ∷ [])) (sym c.in_ok-push.ensures.items)
    (AllZip-push g.P.Promise.kept_by _ _ c.in-Some.thread c.end.result c.threads.invariant c.end.ensures)
