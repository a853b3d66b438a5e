use Rattle.std.proofs.Common.{◌≡◌, Err, true, false, inl, ap, ◌∙◌, rules}
use Rattle.hub_io.proofs.Told.{Grows-none, Rises-trans}
use Rattle.hub_io.proofs.Outcomes.{IfErr-known}
use Rattle.hub_client.specs.Pending.{pending}
use Rattle.hub_io.specs.Lines.{has_lf}
use Rattle.hub_client.proofs.Moving.{stays, stays_so, moves_reads}
use Rattle.hub_client.proofs.Gathering.{lf_between, stays_short, ends_short, has_more, has_none_more}
use Rattle.hub_client.proofs.buffer.Buffer.gather.Goals as goal

pub returns-then-has_line-clause-ok : goal.returns-then-has_line-clause-ok
returns-then-has_line-clause-ok g c =
    let buffer = c.args.self.now in
    (stays _ _ _ _ _, inl (lf_between buffer.bytes.items c.deref.result.now buffer.start buffer.end true c.deref.ensures.value c.if-has_line.ensures))

pub reads-init : goal.reads-init
reads-init g c =
    let buffer = c.args.self.now in
    record {
      moved = stays_so _ _ (pending buffer) (pending c.move_to_front.new.self) _ 0 c.move_to_front.ensures.kept;
      front = c.move_to_front.ensures.front;
      cut = ap has_lf c.move_to_front.ensures.kept ∙ lf_between buffer.bytes.items c.deref.result.now buffer.start buffer.end false c.deref.ensures.value c.if-has_line.ensures;
      no_fault = Grows-none _;
    }

pub returns-in_err-read_on-clause-err : goal.returns-in_err-read_on-clause-err
returns-in_err-read_on-clause-err g c =
    let buffer = c.reads.self in
    let e = c.in_err-read_on.field-0.0 in
    let is : c.from_residual.result ≡ Err e = search rules in
    let failed = c.in_err-read_on.ensures.err in
    IfErr-known _ c.from_residual.result e is
    (moves_reads c.reads.invariant.moved failed.0, failed.1, stays_short buffer.bytes.items buffer.start buffer.end _ c.in_err-read_on.ensures.kept c.reads.invariant.cut c.reads-test.true)

pub returns-in-End-clause-ok : goal.returns-in-End-clause-ok
returns-in-End-clause-ok g c =
    let buffer = c.reads.self in
    let came = rw c.in-End.is at c.in_ok-read_on.ensures.ok in
    (moves_reads c.reads.invariant.moved came.0, stays_short buffer.bytes.items buffer.start buffer.end _ (ends_short came.0 came.1) c.reads.invariant.cut c.reads-test.true, came.2)

pub returns-in-Lf-clause-ok : goal.returns-in-Lf-clause-ok
returns-in-Lf-clause-ok g c =
    let came = rw c.in-Lf.is at c.in_ok-read_on.ensures.ok in
    (moves_reads c.reads.invariant.moved came.0, inl (has_more came.0 c.reads.invariant.cut came.1))

pub reads-preserved : goal.reads-preserved
reads-preserved g c =
    let came = rw c.in-Bytes.is at c.in_ok-read_on.ensures.ok in
    record {
      moved = moves_reads c.reads.invariant.moved came.0;
      front = c.in_ok-read_on.ensures.front ∙ c.reads.invariant.front;
      cut = has_none_more came.0 c.reads.invariant.cut came.1.1;
      no_fault = Rises-trans _ _ _ 0 c.reads.invariant.no_fault c.in_ok-read_on.ensures.told;
    }
