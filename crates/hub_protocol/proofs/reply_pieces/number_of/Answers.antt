use Rattle.std.proofs.Common.{◌≡◌, ◌∙◌, sym, ap, subst}
use Rattle.std.specs.Fmt.{decimal}
use Rattle.std.specs.Str.{IsUtf8}
use Rattle.std.proofs.lemmas.Fmt.{IsAscii-decimal, parse-decimal}
use Rattle.std.proofs.lemmas.Str.{IsUtf8-from_ascii}
use Rattle.hub_protocol.proofs.reply_pieces.number_of.Goals as goal

pub returns-in_default : goal.returns-in_default
returns-in_default c = λ n h e. c.in_default.ensures.cases.0 (subst IsUtf8 (sym e) (IsUtf8-from_ascii (decimal n) (IsAscii-decimal n h)))

pub returns-in_default-parse : goal.returns-in_default-parse
returns-in_default-parse c = λ n h e. c.in_default-parse.not-Ok n (parse-decimal 64 n _ c.parse.result h h (c.in-Ok.ensures.cases.0 ∙ e) c.parse.ensures.value.0)

pub returns-else-is_numeral_of : goal.returns-else-is_numeral_of
returns-else-is_numeral_of c = λ n h e.
    let read = parse-decimal 64 n _ c.parse.result h h (c.in-Ok.ensures.cases.0 ∙ e) c.parse.ensures.value.0 in
    let same : c.in-Ok-parse.number ≡ n = cc in
    c.if-is_numeral_of.ensures (e ∙ ap decimal (sym same))
