use Rattle.std.proofs.Common.{sym, ap, ◌∙◌}
use Rattle.hub_protocol.specs.Lines.{pieces_of}
use Rattle.hub_protocol.proofs.ReplyReadings.{behind_first}
use Rattle.hub_protocol.proofs.Splits.{no_fields}
use Rattle.hub_protocol.proofs.about.last_number.Goals as goal

pub returns-in-Text : goal.returns-in-Text
returns-in-Text c = λ n h e. no_fields c.in-Text.field-0.now (sym (ap pieces_of c.in-Text.is) ∙ behind_first _ _ _ _ (sym c.in_ok-number.ensures.1 ∙ e))
