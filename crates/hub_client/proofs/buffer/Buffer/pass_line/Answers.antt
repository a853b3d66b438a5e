use Rattle.std.proofs.Common.{rules}
use Rattle.hub_io.specs.declared.fault.FrontError.TheVariants.{Write}
use Rattle.hub_io.proofs.Told.{Grows-none, Rises-trans}
use Rattle.hub_io.proofs.Outcomes.{IfErr-known}
use Rattle.hub_client.specs.Pending.{pending}
use Rattle.hub_client.proofs.OnTheWay.{on_true, on_false, begins, ends, fails, breaks, arrives, goes_on}
use Rattle.hub_client.proofs.buffer.Buffer.pass_line.Goals as goal

pub pieces-init : goal.pieces-init
pieces-init g c = record { on_its_way = begins _ _ _ _ _; no_read_fault = Grows-none _; no_write_fault = Grows-none _ }

pub returns-in_err-fill-clause-err : goal.returns-in_err-fill-clause-err
returns-in_err-fill-clause-err g c =
    let e = c.in_err-fill.field-0.0 in
    let failed = c.in_err-fill.ensures.err in
    IfErr-known _ c.from_residual.result e (search rules) (fails c.pieces.invariant.on_its_way e failed.0 failed.1)

pub returns-then-not-branch-clause-ok : goal.returns-then-not-branch-clause-ok
returns-then-not-branch-clause-ok g c =
    let ended = on_false _ _ c.in_ok-fill.field-0 (search rules) c.in_ok-fill.ensures.ok in
    ends c.pieces.invariant.on_its_way _ _ c.at_end.ensures ended.0 ended.1 ended.2

pub returns-in_err-pass_piece-clause-err : goal.returns-in_err-pass_piece-clause-err
returns-in_err-pass_piece-clause-err g c =
    let ready = on_true _ _ c.in_ok-fill.field-0 (search rules) c.in_ok-fill.ensures.ok in
    let (piece, rest, e, some, cut, a) = c.in_err-pass_piece.ensures.err in
    IfErr-known _ c.from_residual-in_err-pass_piece.result Write (search rules) (breaks c.pieces.invariant.on_its_way _ ready.0 piece rest e some cut a)

pub returns-then-branch-clause-ok : goal.returns-then-branch-clause-ok
returns-then-branch-clause-ok g c =
    let ready = on_true _ _ c.in_ok-fill.field-0 (search rules) c.in_ok-fill.ensures.ok in
    let (piece, e, what, a) = c.in_ok-pass_piece.ensures.ok in
    arrives c.pieces.invariant.on_its_way.way _ piece (pending c.pass_piece.new.self) ready.0 e (on_true _ _ c.in_ok-pass_piece.field-0 (search rules) what) a

pub pieces-preserved : goal.pieces-preserved
pieces-preserved g c =
    let ready = on_true _ _ c.in_ok-fill.field-0 (search rules) c.in_ok-fill.ensures.ok in
    let (piece, e, what, a) = c.in_ok-pass_piece.ensures.ok in
    let rest = on_false _ _ c.in_ok-pass_piece.field-0 (search rules) what in
    record {
      on_its_way = goes_on c.pieces.invariant.on_its_way piece (pending c.pass_piece.new.self) ready.0 e rest.1 ready.1 rest.0 a;
      no_read_fault = Rises-trans _ _ _ 0 c.pieces.invariant.no_read_fault c.in_ok-fill.ensures.told;
      no_write_fault = Rises-trans _ _ _ 0 c.pieces.invariant.no_write_fault c.in_ok-pass_piece.ensures.told;
    }
