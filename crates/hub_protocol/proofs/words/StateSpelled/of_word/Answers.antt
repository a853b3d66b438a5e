use Rattle.std.proofs.Common.{ℕ, List, map, refl, rules}
use Rattle.hub_letters.specs.declared.state.State.{State}
use Rattle.hub_letters.specs.declared.state.State.TheVariants as state
use Rattle.hub_protocol.specs.declared.words.TheConstants.{STATES}
use Rattle.hub_protocol.specs.Meanings.{HasWord}
use Rattle.hub_protocol.specs.Spelling.{text_of_state}
use Rattle.hub_protocol.proofs.WordMeanings.{meant}
use Rattle.hub_protocol.proofs.words.StateSpelled.of_word.Goals as goal

abbrev states : List (List ℕ × State)
states = map (λ entry. (entry.0.now, entry.1)) STATES.now

has_word : (x : State) → HasWord states (text_of_state x)
has_word state.Off = refl
has_word x = refl

pub returns : goal.returns
returns c = meant text_of_state states c.args.text.now c.meaning_of.result has_word (search rules) c.meaning_of.ensures
