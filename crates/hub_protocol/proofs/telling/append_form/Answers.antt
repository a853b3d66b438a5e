use Rattle.std.proofs.Common.{map, subst}
use Rattle.hub_protocol.specs.Writing.{Appends, field_told, last_told}
use Rattle.hub_protocol.proofs.RequestTexts.{spelling-pieces}
use Rattle.hub_protocol.proofs.telling.append_form.Goals as goal

pub returns : goal.returns
returns c =
    subst (Appends c.args.out.now c.append_pieces.new.out c.append_pieces.result) (spelling-pieces c.args.word.now (map field_told c.args.fields.now) (last_told c.args.end)) c.append_pieces.ensures
