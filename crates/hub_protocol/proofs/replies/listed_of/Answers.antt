use Rattle.std.proofs.Common.{refl, sym}
use Rattle.std.proofs.lemmas.List.Splits.{join_with_byte-slice_split}
use Rattle.hub_requests.specs.declared.reply.Reply.TheVariants.{Listed}
use Rattle.hub_protocol.specs.Spelling.{fields_of}
use Rattle.hub_protocol.proofs.replies.listed_of.Goals as goal

pub returns-then-fields_are_names : goal.returns-then-fields_are_names
returns-then-fields_are_names c =
    record { reply = Listed (fields_of c.args.text.now); sound = c.if-fields_are_names.ensures; head = refl; behind = refl; shows = sym (join_with_byte-slice_split 32 c.args.text.now) }
