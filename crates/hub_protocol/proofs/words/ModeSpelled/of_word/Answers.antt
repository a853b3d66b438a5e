use Rattle.std.proofs.Common.{ℕ, List, map, refl, rules}
use Rattle.hub_letters.specs.declared.mode.Mode.{Mode}
use Rattle.hub_letters.specs.declared.mode.Mode.TheVariants as mode
use Rattle.hub_protocol.specs.declared.words.TheConstants.{MODES}
use Rattle.hub_protocol.specs.Meanings.{HasWord}
use Rattle.hub_protocol.specs.Spelling.{text_of_mode}
use Rattle.hub_protocol.proofs.WordMeanings.{meant}
use Rattle.hub_protocol.proofs.words.ModeSpelled.of_word.Goals as goal

abbrev modes : List (List ℕ × Mode)
modes = map (λ entry. (entry.0.now, entry.1)) MODES.now

has_word : (x : Mode) → HasWord modes (text_of_mode x)
has_word mode.Once = refl
has_word x = refl

pub returns : goal.returns
returns c = meant text_of_mode modes c.args.text.now c.meaning_of.result has_word (search rules) c.meaning_of.ensures
