use Rattle.std.proofs.Common.{◌≡◌, ◌∙◌, ◌∷◌, [], sym, refl, ap, arith}
use Rattle.std.specs.Fmt.{decimal}
use Rattle.hub_letters.specs.Flags.{code_of}
use Rattle.hub_requests.specs.Texts.{openness}
use Rattle.hub_requests.specs.declared.reply.Reply.TheVariants.{State}
use Rattle.hub_protocol.specs.Spelling.{fields_of}
use Rattle.hub_protocol.specs.Lines.{pieces_of}
use Rattle.hub_protocol.proofs.Counts.{same_count}
use Rattle.hub_protocol.proofs.ReplyTexts.{below_sixteen, small_code}
use Rattle.hub_protocol.proofs.ReplyReadings.{no_status}
use Rattle.hub_protocol.proofs.Splits.{no_fields}
use Rattle.hub_protocol.proofs.replies.read_status.Goals as goal

pub returns-in_err-flags : goal.returns-in_err-flags
returns-in_err-flags c =
    let text = c.args.text.now in
    let (small, is) = c.in_ok-code.ensures in
    let pieces = c.first_piece.ensures in
    let large = c.in_err-flags.ensures.coded in
    rw c.from_residual-in_err-flags.ensures (no_status c.args.number (fields_of text) c.ranges.number.fits (no_fields text) (λ status e.
    let digits : decimal c.in_ok-code.code ≡ decimal (code_of status.flags) = cc in
    let same : c.in_ok-code.code ≡ code_of status.flags = same_count c.in_ok-code.code (code_of status.flags) small (small_code status.flags) digits in
    omega (arith, large, same, below_sixteen status.flags)))

pub returns-in_err-code : goal.returns-in_err-code
returns-in_err-code c =
    let text = c.args.text.now in
    let pieces = c.first_piece.ensures in
    rw c.from_residual.ensures (no_status c.args.number (fields_of text) c.ranges.number.fits (no_fields text) (λ status e.
    let digits : c.first_piece.result.0.now ≡ decimal (code_of status.flags) = cc in
    c.in_err-code.ensures (code_of status.flags) (small_code status.flags) digits))

pub returns-in_err-closed : goal.returns-in_err-closed
returns-in_err-closed c =
    let text = c.args.text.now in
    let pieces = c.first_piece.ensures in
    rw c.from_residual-in_err-closed.ensures (no_status c.args.number (fields_of text) c.ranges.number.fits (no_fields text) (λ status e.
    let rest : pieces_of c.first_piece.result.1 ≡ openness status.closed ∷ [] = cc in
    c.in_err-closed.ensures status.closed rest))

pub returns : goal.returns
returns c =
    let (small, is) = c.in_ok-code.ensures in
    let flags = c.in_ok-flags.flags in
    let code : c.first_piece.result.0.now ≡ decimal (code_of flags) = is ∙ ap decimal (sym c.in_ok-flags.ensures.coded) in
    record {
      reply = State (record { number = c.args.number; flags = flags; closed = c.in_ok-closed.closed });
      sound = c.ranges.number.fits;
      head = refl;
      behind = ap (λ ps. decimal c.args.number ∷ ps)
          (c.first_piece.ensures ∙ ap (λ d. d ∷ pieces_of c.first_piece.result.1) code ∙ ap (λ ps. decimal (code_of flags) ∷ ps) c.in_ok-closed.ensures);
      shows = refl;
    }
