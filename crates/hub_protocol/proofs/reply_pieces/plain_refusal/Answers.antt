use Rattle.std.proofs.Common.{◌≡◌, ℕ, List, map, Option, None, Some, refl, rules}
use Rattle.std.specs.List.{AllByRecursion}
use Rattle.hub_requests.specs.declared.reply.Refusal.{Refusal}
use Rattle.hub_requests.specs.declared.reply.Refusal.TheVariants.{Long, Unlawful}
use Rattle.hub_requests.specs.Texts.{word_of}
use Rattle.hub_protocol.specs.declared.reply_pieces.TheConstants.{REFUSALS}
use Rattle.hub_protocol.specs.Meanings.{HasWord, IsMeaning}
use Rattle.hub_protocol.specs.ReplyLines.{IsPlain, IsPlainOf}
use Rattle.hub_protocol.proofs.WordMeanings.{meaning_holds, no_meaning}
use Rattle.hub_protocol.proofs.reply_pieces.plain_refusal.Goals as goal

abbrev refusals : List (List ℕ × Refusal)
refusals = map (λ entry. (entry.0.now, entry.1)) REFUSALS.now

has_word : (x : Refusal) → IsPlain x → HasWord refusals (word_of x)
has_word (Unlawful place) is = absurd is
has_word Long is = refl
has_word x is = refl

plain : (word : List ℕ) (found : Option Refusal) → AllByRecursion (λ (entry : List ℕ × Refusal). IsPlain entry.1 × (entry.0 ≡ word_of entry.1)) refusals → IsMeaning refusals word found → IsPlainOf word found
plain word None each none = λ x is. no_meaning refusals word (word_of x) (has_word x is) none
plain word (Some x) each some = meaning_holds (λ text refusal. IsPlain refusal × (text ≡ word_of refusal)) refusals word x each some

pub returns : goal.returns
returns c = plain c.args.word.now c.meaning_of.result (search rules) c.meaning_of.ensures
