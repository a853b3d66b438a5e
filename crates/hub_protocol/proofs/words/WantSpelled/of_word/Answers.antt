use Rattle.std.proofs.Common.{ℕ, List, map, refl, rules}
use Rattle.hub_letters.specs.declared.want.Want.{Want}
use Rattle.hub_letters.specs.declared.want.Want.TheVariants as want
use Rattle.hub_protocol.specs.declared.words.TheConstants.{WANTS}
use Rattle.hub_protocol.specs.Meanings.{HasWord}
use Rattle.hub_protocol.specs.Spelling.{text_of_want}
use Rattle.hub_protocol.proofs.WordMeanings.{meant}
use Rattle.hub_protocol.proofs.words.WantSpelled.of_word.Goals as goal

abbrev wants : List (List ℕ × Want)
wants = map (λ entry. (entry.0.now, entry.1)) WANTS.now

has_word : (x : Want) → HasWord wants (text_of_want x)
has_word want.Up = refl
has_word x = refl

pub returns : goal.returns
returns c = meant text_of_want wants c.args.text.now c.meaning_of.result has_word (search rules) c.meaning_of.ensures
