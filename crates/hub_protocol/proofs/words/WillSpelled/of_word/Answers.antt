use Rattle.std.proofs.Common.{ℕ, List, map, refl, rules}
use Rattle.hub_requests.specs.declared.will.Will.{Will}
use Rattle.hub_requests.specs.declared.will.Will.TheVariants as will
use Rattle.hub_protocol.specs.declared.words.TheConstants.{WILLS}
use Rattle.hub_protocol.specs.Meanings.{HasWord}
use Rattle.hub_protocol.specs.Spelling.{text_of_will}
use Rattle.hub_protocol.proofs.WordMeanings.{meant}
use Rattle.hub_protocol.proofs.words.WillSpelled.of_word.Goals as goal

abbrev wills : List (List ℕ × Will)
wills = map (λ entry. (entry.0.now, entry.1)) WILLS.now

has_word : (x : Will) → HasWord wills (text_of_will x)
has_word will.Off = refl
has_word x = refl

pub returns : goal.returns
returns c = meant text_of_will wills c.args.text.now c.meaning_of.result has_word (search rules) c.meaning_of.ensures
