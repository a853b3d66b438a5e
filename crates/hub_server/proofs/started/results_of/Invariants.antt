use Rattle.std.proofs.Common.{◌≡◌}
use Rattle.std.specs.List.{AllZip}
use Rattle.hub_server.proofs.started.results_of.Given as goal

abbrev pub invariant-joins : goal.invariant-joins
invariant-joins g l = l.thread-items ≡ l.fn.started.items

abbrev pub invariant-threads : goal.invariant-threads
invariant-threads g l = AllZip g.P.Promise.kept_by l.yielded l.results.items
