use Rattle.hub_listen.proofs.Lengths.{length_is_hit, no_length_is_no_hit}
use Rattle.hub_listen.proofs.laws.length_is_the_hit.Goals as goal

pub returns-clause-hit : goal.returns-clause-hit
returns-clause-hit c = length_is_hit

pub returns-clause-none : goal.returns-clause-none
returns-clause-none c = no_length_is_no_hit
