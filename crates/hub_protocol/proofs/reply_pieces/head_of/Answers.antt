use Rattle.std.proofs.Common.{ℕ, List, map, refl, rules}
use Rattle.hub_protocol.specs.declared.reply_pieces.TheConstants.{HEADS}
use Rattle.hub_protocol.specs.declared.reply_pieces.Head.{Head}
use Rattle.hub_protocol.specs.declared.reply_pieces.Head.TheVariants as head
use Rattle.hub_protocol.specs.Meanings.{HasWord}
use Rattle.hub_protocol.specs.ReplyLines.{text_of_head}
use Rattle.hub_protocol.proofs.WordMeanings.{meant}
use Rattle.hub_protocol.proofs.reply_pieces.head_of.Goals as goal

abbrev heads : List (List ℕ × Head)
heads = map (λ entry. (entry.0.now, entry.1)) HEADS.now

has_word : (x : Head) → HasWord heads (text_of_head x)
has_word head.Done = refl
has_word x = refl

pub returns : goal.returns
returns c = meant text_of_head heads c.args.word.now c.meaning_of.result has_word (search rules) c.meaning_of.ensures
