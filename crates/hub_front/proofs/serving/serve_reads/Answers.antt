use Rattle.std.proofs.Common.{◌+◌, ◌≡◌, ◌≤◌, Err, length, take, rules, arith}
use Rattle.hub_io.specs.declared.fault.FrontError.TheVariants.{Write}
use Rattle.hub_front.specs.Pieces.{complete_pieces}
use Rattle.hub_front.proofs.Cuts.{done_few}
use Rattle.hub_front.proofs.CutLines.{served_complete}
use Rattle.hub_io.proofs.Outcomes.{IfErr-known}
use Rattle.hub_io.proofs.Told.{Rises-add, Rises-trans}
use Rattle.hub_front.proofs.UnderWay.{goes_on, stops, breaks}
use Rattle.hub_front.proofs.serving.serve_reads.Goals as goal

pub returns-in-Err-clause-err : goal.returns-in-Err-clause-err
returns-in-Err-clause-err g c =
    let u = c.reads.invariant.under_way in
    let stopped = stops _ c.in-Err.ensures.bytes u in
    (u.input, stopped.0, stopped.1)

pub returns-in_err-take_bytes-clause-err : goal.returns-in_err-take_bytes-clause-err
returns-in_err-take_bytes-clause-err g c =
    let is : c.from_residual.result ≡ Err Write = search rules in
    IfErr-known _ c.from_residual.result Write is (breaks _ _ c.in-Ok.ensures.bytes.0 c.in_err-take_bytes.ensures.err c.reads.invariant.under_way)

pub returns-in-Err-clause-reads : goal.returns-in-Err-clause-reads
returns-in-Err-clause-reads g c =
    (c.reads._read + 1, omega (arith, c.reads-test.true), Rises-add _ _ _ _ 1 c.reads.invariant.reads c.pull.ensures.counted, λ turns. cc)

pub returns-in-Ok-eq0-clause-reads : goal.returns-in-Ok-eq0-clause-reads
returns-in-Ok-eq0-clause-reads g c =
    (c.reads._read + 1, omega (arith, c.reads-test.true), Rises-add _ _ _ _ 1 c.reads.invariant.reads c.pull.ensures.counted, λ turns. cc)

pub returns-in_err-take_bytes-clause-reads : goal.returns-in_err-take_bytes-clause-reads
returns-in_err-take_bytes-clause-reads g c =
    let is : c.from_residual.result ≡ Err Write = search rules in
    (c.reads._read + 1, omega (arith, c.reads-test.true), Rises-add _ _ _ _ 1 c.reads.invariant.reads c.pull.ensures.counted, λ turns. cc)

pub reads-preserved : goal.reads-preserved
reads-preserved g c =
    let piece = take c.in-Ok.n c.pull.new.buf in
    let size : c.in-Ok.n ≡ length piece = c.in-Ok.ensures.bound.1 in
    let some : 1 ≤ length piece = omega arith in
    let ended : length (complete_pieces piece c.reads.session.line.items) ≤ length piece = done_few piece c.reads.session.line.items in
    record {
      some = search rules;
      chunk = search rules;
      under_way = goes_on piece some c.in-Ok.ensures.bytes.0 c.in_ok-take_bytes.ensures.ok c.in_ok-take_bytes.ensures.line c.in_ok-take_bytes.ensures.count c.reads.invariant.under_way;
      few = omega (arith, c.reads.invariant.few, c.reads.invariant.chunk, c.in-Ok.ensures.bound.0, c.in_ok-take_bytes.ensures.count);
      reads = Rises-add _ _ _ _ 1 c.reads.invariant.reads c.pull.ensures.counted;
      no_read_fault = Rises-trans _ _ _ 0 c.reads.invariant.no_read_fault c.in-Ok.ensures.told;
      no_write_fault = Rises-trans _ _ _ 0 c.reads.invariant.no_write_fault c.in_ok-take_bytes.ensures.told;
    }

pub returns-clause-err : goal.returns-clause-err
returns-clause-err g c =
    let u = c.reads.invariant.under_way in
    (u.input, u.consumed, (served_complete u.input u.served, omega (arith, u.long)))
