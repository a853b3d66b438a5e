use Rattle.std.proofs.Common.{All, sym, subst}
use Rattle.hub_protocol.specs.Replies.{IsLetter}
use Rattle.hub_protocol.proofs.Splits.{fields_of-one, text_of_one}
use Rattle.hub_protocol.proofs.Visible.{one_field}
use Rattle.hub_protocol.proofs.reply_pieces.letters_of.Goals as goal

pub returns-then-are_all_letters : goal.returns-then-are_all_letters
returns-then-are_all_letters c =
    let text = c.args.text.now in
    (c.if-are_all_letters.ensures, fields_of-one text (one_field text c.if-are_all_letters.ensures))

pub returns-else-are_all_letters : goal.returns-else-are_all_letters
returns-else-are_all_letters c = λ letters each e. c.if-are_all_letters.ensures (subst (All IsLetter) (sym (text_of_one c.args.text.now letters e)) each)
