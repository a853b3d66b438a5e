use Rattle.std.proofs.Common.{◌≡◌, ◌≢◌, codes, rules}
use Rattle.hub_protocol.proofs.ReplyReadings.{no_place, place_said}
use Rattle.hub_protocol.proofs.reply_pieces.placed_refusal.Goals as goal

pub returns-then-ne : goal.returns-then-ne
returns-then-ne c =
    let other : c.args.word.now ≢ codes "unlawful" = search rules in
    no_place c.args.word.now c.args.place.now (λ e. absurd (other e))

pub returns-in_err-place : goal.returns-in_err-place
returns-in_err-place c = rw c.from_residual.ensures (no_place c.args.word.now c.args.place.now (λ e. c.in_err-place.ensures))

pub returns : goal.returns
returns c =
    let same : c.args.word.now ≡ codes "unlawful" = search rules in
    let (small, is) = c.in_ok-place.ensures in
    place_said c.args.word.now c.args.place.now c.in_ok-place.place small same is
