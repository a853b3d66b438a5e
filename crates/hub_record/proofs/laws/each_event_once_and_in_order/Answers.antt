use Rattle.hub_record.specs.World.{empty_world}
use Rattle.hub_record.proofs.Since.{run_follows, run_published}
use Rattle.hub_record.proofs.laws.each_event_once_and_in_order.Goals as goal

pub returns-clause-since : goal.returns-clause-since
returns-clause-since c = λ kind limits calls replies run. run_follows (empty_world kind limits) calls replies tt

pub returns-clause-own : goal.returns-clause-own
returns-clause-own c = λ kind limits calls replies p run. run_published p (empty_world kind limits) calls replies
