use Rattle.std.proofs.Common.{ℕ, List, Bool, false, true, map, refl, rules}
use Rattle.hub_requests.specs.Texts.{openness}
use Rattle.hub_protocol.specs.declared.reply_pieces.TheConstants.{OPENNESSES}
use Rattle.hub_protocol.specs.Meanings.{HasWord}
use Rattle.hub_protocol.proofs.WordMeanings.{meant}
use Rattle.hub_protocol.proofs.reply_pieces.closed_of.Goals as goal

abbrev opennesses : List (List ℕ × Bool)
opennesses = map (λ entry. (entry.0.now, entry.1)) OPENNESSES.now

has_word : (x : Bool) → HasWord opennesses (openness x)
has_word false = refl
has_word true = refl

pub returns : goal.returns
returns c = meant openness opennesses c.args.word.now c.meaning_of.result has_word (search rules) c.meaning_of.ensures
