use Rattle.hub_listen.proofs.Prefixes.{IsHit-append, HasNoHit-append}
use Rattle.hub_listen.proofs.laws.prefixes_show_the_whole.Goals as goal

pub returns-clause-hit : goal.returns-clause-hit
returns-clause-hit c = IsHit-append

pub returns-clause-none : goal.returns-clause-none
returns-clause-none c = HasNoHit-append
