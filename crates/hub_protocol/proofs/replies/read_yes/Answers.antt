use Rattle.std.proofs.Common.{[], refl, ap, arith}
use Rattle.std.proofs.lemmas.List.Elements.{All-nil}
use Rattle.hub_requests.specs.declared.reply.Reply.TheVariants.{Yes}
use Rattle.hub_protocol.specs.Replies.{IsCountOrNone}
use Rattle.hub_protocol.specs.Lines.{pieces_of}
use Rattle.hub_protocol.proofs.replies.read_yes.Goals as goal

pub returns-in-Nothing : goal.returns-in-Nothing
returns-in-Nothing c =
    record { reply = Yes []; sound = record { few = omega arith; each = All-nil IsCountOrNone }; head = refl; behind = ap pieces_of c.in-Nothing.is; shows = refl }
