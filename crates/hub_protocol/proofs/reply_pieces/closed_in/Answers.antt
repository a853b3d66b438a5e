use Rattle.std.proofs.Common.{ap}
use Rattle.hub_protocol.specs.Lines.{pieces_of}
use Rattle.hub_protocol.proofs.ReplyReadings.{closed_said}
use Rattle.hub_protocol.proofs.reply_pieces.closed_in.Goals as goal

pub returns-in-Text : goal.returns-in-Text
returns-in-Text c = closed_said c.in-Text.text.now (pieces_of c.args.rest) c.closed_of.result (ap pieces_of c.in-Text.is) c.closed_of.ensures
