use Rattle.std.proofs.Common.{[], refl, ap}
use Rattle.std.proofs.lemmas.List.Elements.{All-nil}
use Rattle.hub_requests.specs.declared.reply.Reply.TheVariants.{Listed}
use Rattle.hub_protocol.specs.Spelling.{IsName}
use Rattle.hub_protocol.specs.Lines.{pieces_of}
use Rattle.hub_protocol.proofs.replies.read_names.Goals as goal

pub returns-in-Nothing : goal.returns-in-Nothing
returns-in-Nothing c = record { reply = Listed []; sound = All-nil IsName; head = refl; behind = ap pieces_of c.in-Nothing.is; shows = refl }
