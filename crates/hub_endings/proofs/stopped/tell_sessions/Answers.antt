use Rattle.std.proofs.Common.{ℕ, ◌+◌, List, [], ◌++◌, Ok, refl, sym, subst, get_or, OnOk}
use Rattle.std.proofs.KnownBytes.{Appends-nil}
use Rattle.std.specs.Io.KnownBytes.{Appends}
use Rattle.hub_endings.specs.Faults.{session_line}
use Rattle.hub_endings.proofs.Lines.{next_line, no_line, both_written}
use Rattle.hub_endings.proofs.stopped.tell_sessions.Goals as goal

pub sessions-init : goal.sessions-init
sessions-init g c = ([], refl, Appends-nil _)

pub sessions-preserved : goal.sessions-preserved
sessions-preserved g c =
    let so_far = c.sessions.invariant in
    let line = session_line (c.sessions.at + 1) (get_or c.args.results.now c.sessions.at (Ok 0)) in
    let held = λ (w : g.row.W.Denot). g.W.Write.contents w in (
      so_far.0 ++ line,
      next_line _ so_far.0 c.args.results.now c.sessions.at (Ok 0) c.sessions-test.true so_far.1,
      subst (λ told. OnOk told (Appends (held c.args.out.now) (held c.tell_session.new.out) (so_far.0 ++ line))) (sym c.and-told.ensures)
          (both_written (held c.args.out.now) (held c.sessions.out) (held c.tell_session.new.out) so_far.0 line c.sessions.told c.tell_session.result so_far.2 c.tell_session.ensures),
    )

pub returns : goal.returns
returns g c =
    let so_far = c.sessions.invariant in
    subst (λ (lines : List ℕ). OnOk c.sessions.told (Appends (g.W.Write.contents c.args.out.now) (g.W.Write.contents c.sessions.out) lines))
    (no_line _ so_far.0 c.args.results.now c.sessions.at c.sessions-test.false so_far.1) so_far.2
