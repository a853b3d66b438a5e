use Rattle.std.proofs.Common.{◌<◌, All, Result, Ok, Err, MatchResult, refl, arith}
use Rattle.std.specs.Result.{IsOk}
use Rattle.std.proofs.lemmas.Str.{IsUtf8-from_ascii}
use Rattle.std.proofs.lemmas.Str.Ascii.{IsAscii-from_all}
use Rattle.std.proofs.lemmas.List.Elements.{All-weaker}
use Rattle.hub_protocol.specs.Reading.{IsTextByte}
use Rattle.hub_protocol.proofs.requests.pattern_of.Goals as goal

read_whole : {T E P : Type 0} (Q : T → Type 0) (R : E → Type 0) (r : Result T E) → MatchResult r Q (λ e. (P → ⊥) × R e) → P → IsOk r
read_whole Q R (Ok x) cases p = refl
read_whole Q R (Err e) cases p = absurd (cases.0 p)

pub unwrap-text-requires : goal.unwrap-text-requires
unwrap-text-requires c =
    let text = c.args.text.now in
    let ascii : All (λ b. b < 128) text = All-weaker IsTextByte (λ b. b < 128) (λ b range. omega (arith, range.1)) text c.requires.plain in
    read_whole _ _ c.from_utf8.result c.from_utf8.ensures.cases (IsUtf8-from_ascii text (IsAscii-from_all text ascii))
