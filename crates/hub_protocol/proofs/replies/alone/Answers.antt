use Rattle.std.proofs.Common.{sym, ap, ◌∙◌}
use Rattle.hub_protocol.specs.Lines.{pieces_of}
use Rattle.hub_protocol.proofs.Splits.{no_fields}
use Rattle.hub_protocol.proofs.replies.alone.Goals as goal

pub returns-in-Text : goal.returns-in-Text
returns-in-Text c = λ e. no_fields c.in-Text.field-0.now (sym (ap pieces_of c.in-Text.is) ∙ e)
