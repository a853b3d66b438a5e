use Rattle.std.proofs.Common.{refl, ap}
use Rattle.hub_requests.specs.declared.reply.Reply.TheVariants.{Done}
use Rattle.hub_protocol.specs.Lines.{pieces_of}
use Rattle.hub_protocol.proofs.replies.read_ok.Goals as goal

pub returns-in_default : goal.returns-in_default
returns-in_default c = record { reply = Done; sound = tt; head = refl; behind = ap pieces_of c.in_default.is; shows = tt }
