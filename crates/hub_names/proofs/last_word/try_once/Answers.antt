use Rattle.hub_names.proofs.LastWords.{says_last}
use Rattle.hub_names.proofs.last_word.try_once.Goals as goal

pub returns-clause-said : goal.returns-clause-said
returns-clause-said g c = let own = c.tell_as_last.ensures in says_last c.args.state c.args.me.now c.tell_as_last.new.me c.tell_as_last.result own.last own.ok own.there own.err own.refused own.none own.own
