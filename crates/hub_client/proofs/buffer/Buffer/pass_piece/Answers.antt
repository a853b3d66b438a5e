use Rattle.std.proofs.Common.{◌≤◌, length, arith}
use Rattle.hub_io.proofs.Outcomes.{OnErr-known}
use Rattle.hub_client.proofs.Pieces.{written, broken}
use Rattle.hub_client.proofs.buffer.Buffer.pass_piece.Goals as goal

pub returns-in_err-write_whole-clause-err : goal.returns-in_err-write_whole-clause-err
returns-in_err-write_whole-clause-err g c =
    let buffer = c.args.self.now in
    let within : buffer.end ≤ length buffer.bytes.items = omega arith in
    OnErr-known _ (broken _ _ buffer.bytes.items c.deref.result.now buffer.start buffer.end c.first_piece-size.result.0 c.first_piece-size.result.1 c.deref.ensures.value buffer.ordered within
    c.first_piece-size.ensures.within c.first_piece-size.ensures.piece c.in_err-write_whole.ensures.err)

pub returns-clause-ok : goal.returns-clause-ok
returns-clause-ok g c =
    let buffer = c.args.self.now in
    let within : buffer.end ≤ length buffer.bytes.items = omega arith in
    written _ _ buffer.bytes.items c.deref.result.now buffer.start buffer.end c.first_piece-size.result.0 c.first_piece-size.result.1 c.deref.ensures.value buffer.ordered within
    c.first_piece-size.ensures.within c.first_piece-size.ensures.piece c.in_ok-write_whole.ensures.ok
