use Rattle.std.proofs.Common.{ℕ, List, map, refl, rules}
use Rattle.hub_record.specs.declared.Kind.{Kind}
use Rattle.hub_record.specs.declared.Kind.TheVariants as kind
use Rattle.hub_requests.specs.Texts.{word_of_kind}
use Rattle.hub_protocol.specs.declared.about.TheConstants.{KINDS}
use Rattle.hub_protocol.specs.Meanings.{HasWord}
use Rattle.hub_protocol.proofs.WordMeanings.{meant}
use Rattle.hub_protocol.proofs.about.kind_of.Goals as goal

abbrev kinds : List (List ℕ × Kind)
kinds = map (λ entry. (entry.0.now, entry.1)) KINDS.now

has_word : (x : Kind) → HasWord kinds (word_of_kind x)
has_word kind.Plain = refl
has_word x = refl

pub returns : goal.returns
returns c = meant word_of_kind kinds c.args.word.now c.meaning_of.result has_word (search rules) c.meaning_of.ensures
