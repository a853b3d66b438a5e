use Rattle.std.proofs.Common.{rules}
use Rattle.hub_io.specs.declared.fault.FrontError.TheVariants.{Write}
use Rattle.hub_io.proofs.Told.{Grows-none, Rises-trans}
use Rattle.hub_io.proofs.Outcomes.{IfErr-known}
use Rattle.hub_client.specs.Pending.{pending}
use Rattle.hub_client.proofs.OnTheWay.{on_true, on_false, arrives}
use Rattle.hub_client.proofs.InPieces.{begins, ends, fails, breaks, goes_on}
use Rattle.hub_client.proofs.buffer.Buffer.pass_reply.Goals as goal

pub pieces-init : goal.pieces-init
pieces-init g c = record { in_pieces = begins _ _ _ _ _; no_read_fault = Grows-none _; no_write_fault = Grows-none _ }

pub returns-in_err-gather-clause-err : goal.returns-in_err-gather-clause-err
returns-in_err-gather-clause-err g c =
    let e = c.in_err-gather.field-0.0 in
    let failed = c.in_err-gather.ensures.err in
    IfErr-known _ c.from_residual.result e (search rules) (fails c.pieces.invariant.in_pieces e _ failed.0 failed.1 failed.2)

pub returns-then-not-branch-clause-ok : goal.returns-then-not-branch-clause-ok
returns-then-not-branch-clause-ok g c =
    let ended = on_false _ _ c.in_ok-gather.field-0 (search rules) c.in_ok-gather.ensures.ok in
    ends c.pieces.invariant.in_pieces _ ended.0 ended.1 ended.2

pub returns-in_err-pass_piece-clause-err : goal.returns-in_err-pass_piece-clause-err
returns-in_err-pass_piece-clause-err g c =
    let ready = on_true _ _ c.in_ok-gather.field-0 (search rules) c.in_ok-gather.ensures.ok in
    let (piece, rest, e, some, cut, a) = c.in_err-pass_piece.ensures.err in
    IfErr-known _ c.from_residual-in_err-pass_piece.result Write (search rules) (breaks c.pieces.invariant.in_pieces _ ready.0 ready.1 piece rest e some cut a)

pub returns-then-branch-clause-ok : goal.returns-then-branch-clause-ok
returns-then-branch-clause-ok g c =
    let ready = on_true _ _ c.in_ok-gather.field-0 (search rules) c.in_ok-gather.ensures.ok in
    let (piece, e, what, a) = c.in_ok-pass_piece.ensures.ok in
    let (passed, m, line, written) = arrives c.pieces.invariant.in_pieces.way _ piece (pending c.pass_piece.new.self) ready.0 e (on_true _ _ c.in_ok-pass_piece.field-0 (search rules) what) a in
    (passed, written, (m, line))

pub pieces-preserved : goal.pieces-preserved
pieces-preserved g c =
    let ready = on_true _ _ c.in_ok-gather.field-0 (search rules) c.in_ok-gather.ensures.ok in
    let (piece, e, what, a) = c.in_ok-pass_piece.ensures.ok in
    let rest = on_false _ _ c.in_ok-pass_piece.field-0 (search rules) what in
    record {
      in_pieces = goes_on c.pieces.invariant.in_pieces piece (pending c.pass_piece.new.self) ready.0 ready.1 e rest.1 rest.0 a;
      no_read_fault = Rises-trans _ _ _ 0 c.pieces.invariant.no_read_fault c.in_ok-gather.ensures.told;
      no_write_fault = Rises-trans _ _ _ 0 c.pieces.invariant.no_write_fault c.in_ok-pass_piece.ensures.told;
    }
