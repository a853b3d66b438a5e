use Rattle.std.proofs.Common.{List, ◌++◌, drop, ap, ◌∙◌}
use Rattle.hub_record.specs.declared.Event.{Event}
use Rattle.hub_fifodir.proofs.RuleLaws.{since_mark}
use Rattle.hub_fifodir.proofs.laws.takes_each_once.Goals as goal

pub returns : goal.returns
returns c = let t = c.args._ticket.now in ap (λ (l : List Event). l ++ drop t.next t.seat.at.me.0.sight.seen) t.is_taker.got ∙ since_mark t.mark t.next t.seat.at.me.0.sight.seen t.is_taker.began
