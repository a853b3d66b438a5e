use Rattle.std.proofs.Common.{sym, ◌∙◌, arith, rules}
use Rattle.hub_io.proofs.Told.{Grows-none, Rises-trans}
use Rattle.hub_io.proofs.Outcomes.{IfErr-known}
use Rattle.hub_client.proofs.Directions.{sent_more, sent_part, sent_all, passes_line}
use Rattle.hub_client.proofs.Turns.{is_nothing, is_some, is_part, is_line, begins, stops_at_once, send_stops, receive_stops, finish, goes_on, reads_nothing, reads_line, reads_reply, ok_is_no_error, send_turns, receive_turns}
use Rattle.hub_client.proofs.relaying.relay.Goals as goal

pub returns-in_default-clause-stopped : goal.returns-in_default-clause-stopped
returns-in_default-clause-stopped g c = stops_at_once _ _ _ _

pub returns-in_default-clause-reads : goal.returns-in_default-clause-reads
returns-in_default-clause-reads g c = reads_nothing _ _ _ (λ turns. cc)

pub turns-init : goal.turns-init
turns-init g c = record {
  under_way = begins _ _ _ _ _ _ _ _ (search rules) (search rules);
  no_input_fault = Grows-none _;
  no_output_fault = Grows-none _;
  no_send_fault = Grows-none _;
  no_receive_fault = Grows-none _;
}

pub returns-in_err-passed-clause-stopped : goal.returns-in_err-passed-clause-stopped
returns-in_err-passed-clause-stopped g c =
    let r = c.from_residual.result in
    let e = c.in_err-passed.field-0.0 in
    let u = c.turns.invariant.under_way in
    let (passed, rest, m, f, cut, a) = c.in_err-passed.ensures.err in
    IfErr-known _ r e (search rules) (send_stops u.asked u.answered cut e m f u.spent a)

pub returns-in_err-passed-clause-reads : goal.returns-in_err-passed-clause-reads
returns-in_err-passed-clause-reads g c =
    let r = c.from_residual.result in
    let e = c.in_err-passed.field-0.0 in
    let u = c.turns.invariant.under_way in
    let (passed, rest, m, f, cut, a) = c.in_err-passed.ensures.err in
    reads_line r u m (send_turns r e passed rest _ (search rules) f)

pub returns-then-eq-clause-finished : goal.returns-then-eq-clause-finished
returns-then-eq-clause-finished g c =
    let u = c.turns.invariant.under_way in
    let is = is_nothing _ (sym c.eq.ensures ∙ c.if-eq.true) in
    let (passed, m, (none, empty, end), a) = rw is at c.in_ok-passed.ensures.ok in
    finish (sent_all u.asked m none empty a) u.answered end

pub returns-then-eq-clause-reads : goal.returns-then-eq-clause-reads
returns-then-eq-clause-reads g c =
    let (passed, m, ended, a) = c.in_ok-passed.ensures.ok in
    reads_line _ c.turns.invariant.under_way m (ok_is_no_error _ _ _)

pub returns-in_err-receive_reply-clause-stopped : goal.returns-in_err-receive_reply-clause-stopped
returns-in_err-receive_reply-clause-stopped g c =
    let r = c.from_residual-in_err-receive_reply.result in
    let e = c.in_err-receive_reply.field-0.0 in
    let u = c.turns.invariant.under_way in
    let (line, m, ended, b) = c.in_ok-passed.ensures.ok in
    let (passed, rest, due, n, cut, d, f, a) = c.in_err-receive_reply.ensures.err in
    IfErr-known _ r e (search rules) (receive_stops (sent_more _ (is_some _ (sym c.eq.ensures ∙ c.if-eq.false)) u.asked m ended b) u.answered cut due d e n f (omega (arith, u.spent, m.spent)) a)

pub returns-in_err-receive_reply-clause-reads : goal.returns-in_err-receive_reply-clause-reads
returns-in_err-receive_reply-clause-reads g c =
    let r = c.from_residual-in_err-receive_reply.result in
    let e = c.in_err-receive_reply.field-0.0 in
    let u = c.turns.invariant.under_way in
    let (line, m, ended, b) = c.in_ok-passed.ensures.ok in
    let (passed, rest, due, n, cut, d, f, a) = c.in_err-receive_reply.ensures.err in
    reads_reply r u m n (receive_turns r e due rest _ _ (search rules) f)

pub returns-then-eq-2-clause-finished : goal.returns-then-eq-2-clause-finished
returns-then-eq-2-clause-finished g c =
    let u = c.turns.invariant.under_way in
    let is = is_part _ (sym c.eq-in-turns.ensures ∙ c.if-eq-2.true) in
    let (line, m, (some, lf, empty, end), b) = rw is at c.in_ok-passed.ensures.ok in
    let (passed, n, whole, a) = c.in_ok-receive_reply.ensures.ok in
    finish (sent_part u.asked m some lf empty b) (passes_line u.answered n whole a) end

pub returns-then-eq-2-clause-reads : goal.returns-then-eq-2-clause-reads
returns-then-eq-2-clause-reads g c =
    let (line, m, ended, b) = c.in_ok-passed.ensures.ok in
    let (passed, n, whole, a) = c.in_ok-receive_reply.ensures.ok in
    reads_reply _ c.turns.invariant.under_way m n (ok_is_no_error _ _ _)

pub turns-preserved : goal.turns-preserved
turns-preserved g c =
    let i = c.turns.invariant in
    let is = is_line _ (sym c.eq.ensures ∙ c.if-eq.false) (sym c.eq-in-turns.ensures ∙ c.if-eq-2.false) in
    let (line, m, ended, b) = rw is at c.in_ok-passed.ensures.ok in
    let (passed, n, whole, a) = c.in_ok-receive_reply.ensures.ok in
    record {
      under_way = goes_on i.under_way m ended b n whole a;
      no_input_fault = Rises-trans _ _ _ 0 i.no_input_fault c.in_ok-passed.ensures.input_faults;
      no_output_fault = Rises-trans _ _ _ 0 i.no_output_fault c.in_ok-receive_reply.ensures.output_faults;
      no_send_fault = Rises-trans _ _ _ 0 i.no_send_fault c.in_ok-passed.ensures.send_faults;
      no_receive_fault = Rises-trans _ _ _ 0 i.no_receive_fault c.in_ok-receive_reply.ensures.receive_faults;
    }
