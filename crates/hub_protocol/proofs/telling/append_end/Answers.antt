use Rattle.std.proofs.Common.{sym, ◌∙◌, ap, subst}
use Rattle.hub_requests.specs.Names.{names_text}
use Rattle.hub_protocol.specs.Spelling.{pieces_of_last}
use Rattle.hub_protocol.specs.Writing.{Appends, last_told}
use Rattle.hub_protocol.proofs.RequestTexts.{text_of_pieces}
use Rattle.hub_protocol.proofs.telling.append_end.Goals as goal

pub returns-in-Pattern : goal.returns-in-Pattern
returns-in-Pattern c =
    let text = text_of_pieces c.in-Pattern.pattern.now in
    subst (Appends c.args.out.now c.append_pattern.new.out c.append_pattern.result) (sym text ∙ sym (ap (λ e. names_text (pieces_of_last (last_told e))) c.in-Pattern.is)) c.append_pattern.ensures
