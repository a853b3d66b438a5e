use Rattle.std.proofs.Common.{ℕ, List, map, refl, rules}
use Rattle.hub_letters.specs.declared.span.Span.{Span}
use Rattle.hub_letters.specs.declared.span.Span.TheVariants as span
use Rattle.hub_protocol.specs.declared.words.TheConstants.{SPANS}
use Rattle.hub_protocol.specs.Meanings.{HasWord}
use Rattle.hub_protocol.specs.Spelling.{text_of_span}
use Rattle.hub_protocol.proofs.WordMeanings.{meant}
use Rattle.hub_protocol.proofs.words.SpanSpelled.of_word.Goals as goal

abbrev spans : List (List ℕ × Span)
spans = map (λ entry. (entry.0.now, entry.1)) SPANS.now

has_word : (x : Span) → HasWord spans (text_of_span x)
has_word span.All = refl
has_word x = refl

pub returns : goal.returns
returns c = meant text_of_span spans c.args.text.now c.meaning_of.result has_word (search rules) c.meaning_of.ensures
