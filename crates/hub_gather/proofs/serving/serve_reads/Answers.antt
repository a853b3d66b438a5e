use Rattle.std.proofs.Common.{◌+◌, ◌≡◌, ◌≤◌, [], Err, length, take, refl, sym, rules, arith}
use Rattle.hub_io.specs.declared.fault.FrontError.TheVariants.{Write}
use Rattle.hub_io.specs.Lines.{complete_of}
use Rattle.hub_front.specs.Pieces.{complete_pieces}
use Rattle.hub_front.proofs.Cuts.{done_few}
use Rattle.hub_front.proofs.CutLines.{served_complete}
use Rattle.hub_io.proofs.Outcomes.{IfErr-known}
use Rattle.hub_io.proofs.Told.{Rises-add, Rises-trans}
use Rattle.hub_front.proofs.UnderWay.{goes_on, stops}
use Rattle.hub_gather.proofs.Lost.{loses_read}
use Rattle.hub_gather.proofs.Passed.{ended_pieces, paces_at, paces_read, paces_read_none, paces_then, until_then, until_whole, until_as, until_out, paces_of_ok}
use Rattle.hub_gather.proofs.serving.serve_reads.Goals as goal

pub returns-in-Err-clause-err : goal.returns-in-Err-clause-err
returns-in-Err-clause-err g c =
    let u = c.reads.invariant.under_way in
    let stopped = stops _ c.in-Err.ensures.bytes u in
    (u.input, stopped.0, stopped.1)

pub returns-in_err-take_bytes-clause-err : goal.returns-in_err-take_bytes-clause-err
returns-in_err-take_bytes-clause-err g c =
    let is : c.from_residual.result ≡ Err Write = search rules in
    IfErr-known _ c.from_residual.result Write is (loses_read _ _ c.in-Ok.ensures.bytes.0 c.in_err-take_bytes.ensures.err c.reads.invariant.under_way)

pub returns-in-Err-clause-reads : goal.returns-in-Err-clause-reads
returns-in-Err-clause-reads g c =
    (c.reads._read + 1, omega (arith, c.reads-test.true), Rises-add _ _ _ _ 1 c.reads.invariant.reads c.read.ensures.counted, λ turns. cc)

pub returns-in-Ok-eq0-clause-reads : goal.returns-in-Ok-eq0-clause-reads
returns-in-Ok-eq0-clause-reads g c =
    (c.reads._read + 1, omega (arith, c.reads-test.true), Rises-add _ _ _ _ 1 c.reads.invariant.reads c.read.ensures.counted, λ turns. cc)

pub returns-in_err-take_bytes-clause-reads : goal.returns-in_err-take_bytes-clause-reads
returns-in_err-take_bytes-clause-reads g c =
    let is : c.from_residual.result ≡ Err Write = search rules in
    (c.reads._read + 1, omega (arith, c.reads-test.true), Rises-add _ _ _ _ 1 c.reads.invariant.reads c.read.ensures.counted, λ turns. cc)

pub returns-in-Err-clause-failed_reads : goal.returns-in-Err-clause-failed_reads
returns-in-Err-clause-failed_reads g c = Rises-trans _ _ _ 1 c.reads.invariant.no_read_fault c.in-Err.ensures.told

pub returns-in-Err-clause-paces : goal.returns-in-Err-clause-paces
returns-in-Err-clause-paces g c = until_whole _ (paces_then c.reads.invariant.paces (paces_read_none _ [] refl c.in-Err.ensures.step))

pub returns-in-Ok-eq0-clause-paces : goal.returns-in-Ok-eq0-clause-paces
returns-in-Ok-eq0-clause-paces g c =
    let none : take c.in-Ok-eq0.field-0 c.read.new.buf ≡ [] = search rules in
    until_whole _ (paces_then c.reads.invariant.paces (paces_read_none _ _ none c.in-Ok-eq0.ensures.step))

pub returns-in_err-take_bytes-clause-paces : goal.returns-in_err-take_bytes-clause-paces
returns-in_err-take_bytes-clause-paces g c =
    let is : c.from_residual.result ≡ Err Write = search rules in
    let failed : c.take_bytes.result ≡ Err Write = search rules in
    until_as c.take_bytes.result Write c.from_residual.result failed is
    (until_out _ _ failed (until_then _ (paces_then c.reads.invariant.paces (paces_read _ _ c.in-Ok.ensures.step)) (c.take_bytes.ensures.paces _)))

pub reads-preserved : goal.reads-preserved
reads-preserved g c =
    let piece = take c.in-Ok.n c.read.new.buf in
    let size : c.in-Ok.n ≡ length piece = c.in-Ok.ensures.bound.1 in
    let some : 1 ≤ length piece = omega arith in
    let counted = c.in_ok-take_bytes.ensures.count in
    let ends : c.reads.batch.count + length (complete_of piece) ≡ c.take_bytes.new.self.count = omega (arith, counted, ended_pieces piece c.reads.batch.line.items) in
    let ended : length (complete_pieces piece c.reads.batch.line.items) ≤ length piece = done_few piece c.reads.batch.line.items in
    record {
      some = search rules;
      chunk = search rules;
      under_way = goes_on piece some c.in-Ok.ensures.bytes.0 c.in_ok-take_bytes.ensures.ok c.in_ok-take_bytes.ensures.line c.in_ok-take_bytes.ensures.count c.reads.invariant.under_way;
      held = c.in_ok-take_bytes.ensures.held;
      few = omega (arith, c.reads.invariant.few, c.reads.invariant.chunk, c.in-Ok.ensures.bound.0, c.in_ok-take_bytes.ensures.count);
      reads = Rises-add _ _ _ _ 1 c.reads.invariant.reads c.read.ensures.counted;
      no_read_fault = Rises-trans _ _ _ 0 c.reads.invariant.no_read_fault c.in-Ok.ensures.told;
      no_write_fault = Rises-trans _ _ _ 0 c.reads.invariant.no_write_fault c.in_ok-take_bytes.ensures.told;
      paces = paces_then c.reads.invariant.paces (paces_then (paces_read _ piece c.in-Ok.ensures.step) (paces_at ends (sym counted) (paces_of_ok _ _ c.in_ok-take_bytes.was (c.take_bytes.ensures.paces _))));
    }

pub returns-clause-err : goal.returns-clause-err
returns-clause-err g c =
    let u = c.reads.invariant.under_way in
    (u.input, u.consumed, (served_complete u.input u.served, omega (arith, u.long)))
