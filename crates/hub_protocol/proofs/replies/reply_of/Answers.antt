use Rattle.hub_protocol.proofs.ReplyReadings.{alone_head}
use Rattle.hub_protocol.proofs.replies.reply_of.Goals as goal

pub returns-in-Nothing : goal.returns-in-Nothing
returns-in-Nothing c = alone_head _ _ _ _ _ c.in-Nothing.is tt c.alone.ensures

pub returns-in-End : goal.returns-in-End
returns-in-End c = alone_head _ _ _ _ _ c.in-End.is tt c.alone-in-End.ensures

pub returns-in-Evicted : goal.returns-in-Evicted
returns-in-Evicted c = alone_head _ _ _ _ _ c.in-Evicted.is tt c.alone-in-Evicted.ensures

pub returns-in-Never : goal.returns-in-Never
returns-in-Never c = alone_head _ _ _ _ _ c.in-Never.is tt c.alone-in-Never.ensures

pub returns-in-Late : goal.returns-in-Late
returns-in-Late c = alone_head _ _ _ _ _ c.in-Late.is tt c.alone-in-Late.ensures
