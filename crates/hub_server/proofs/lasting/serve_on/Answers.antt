use Rattle.std.proofs.Common.{◌≡◌, ◌∙◌, sym, suc, inl, inr, true, false}
use Rattle.hub_server.proofs.lasting.serve_on.Goals as goal

pub turns-preserved-else-may_leave_much : goal.turns-preserved-else-may_leave_much
turns-preserved-else-may_leave_much g c = (
  suc c.turns.invariant.0,
  (
    c.turns.gate,
    c.turns.journal,
    c.turns.invariant.1,
    inl (
      c.serve_session-ended.result,
      (λ much. let both : true ≡ false = sym (c.may_leave_much.ensures.1 much) ∙ c.if-may_leave_much.false in absurd (cc both)),
      record {
        reader = c.in-Session.reader;
        writer = c.in-Session.writer;
        given = c.in-Session.ensures;
        told = c.serve_session-ended.ensures;
      },
    ),
  ),
)

pub turns-preserved : goal.turns-preserved
turns-preserved g c =
    (suc c.turns.invariant.0, (c.turns.gate, c.turns.journal, c.turns.invariant.1, inr (c.in-Failed.ensures, c.failed.ensures)))
