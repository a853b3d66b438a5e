use Rattle.std.proofs.Common.{sym, ap, ◌∙◌, subst}
use Rattle.hub_fifodir.specs.declared.views.View.{View}
use Rattle.hub_fifodir.specs.Steps.{Grows}
use Rattle.hub_fifodir.specs.Passes.{PassView}
use Rattle.hub_fifodir.proofs.Meeting.{grows_self, grows_through, grows_still, looks_self, looks_through, looks_still, remains, remains_still, same_sight}
use Rattle.hub_fifodir.proofs.fifodir.Fifodir.meet.Goals as goal

pub loop-init : goal.loop-init
loop-init g c = record { one = looks_self _; one_seen = grows_self _; other = looks_self _; other_seen = grows_self _ }

pub loop-preserved : goal.loop-preserved
loop-preserved g c = let i = c.loop.invariant in let a = c.look-first.ensures in let still = c.note-note.ensures.still in let b = c.look-last.ensures in record {
  one = looks_still _ _ _ (looks_through _ _ _ i.one a.looks) still;
  one_seen = grows_still _ _ _ (grows_through _ _ _ i.one_seen a.seen) (ap (λ (p : PassView). p.sight) still);
  other = looks_through _ _ _ i.other b.looks;
  other_seen = grows_through _ _ _ i.other_seen b.seen;
}

pub returns-then-first-last-clause-one : goal.returns-then-first-last-clause-one
returns-then-first-last-clause-one g c = let i = c.loop.invariant in let a = c.look-first.ensures in
    remains_still c.args.self.now _ _ _ (remains c.args.self.now _ _ c.requires.one (looks_through _ _ _ i.one a.looks) (grows_through _ _ _ i.one_seen a.seen) a.sound) c.note-note.ensures.still

pub returns-then-first-last-clause-one_looks : goal.returns-then-first-last-clause-one_looks
returns-then-first-last-clause-one_looks g c = looks_still _ _ _ (looks_through _ _ _ c.loop.invariant.one c.look-first.ensures.looks) c.note-note.ensures.still

pub returns-then-first-last-clause-other : goal.returns-then-first-last-clause-other
returns-then-first-last-clause-other g c = let i = c.loop.invariant in let b = c.look-last.ensures in
    remains c.args.self.now _ _ c.requires.other (looks_through _ _ _ i.other b.looks) (grows_through _ _ _ i.other_seen b.seen) b.sound

pub returns-then-first-last-clause-other_looks : goal.returns-then-first-last-clause-other_looks
returns-then-first-last-clause-other_looks g c = looks_through _ _ _ c.loop.invariant.other c.look-last.ensures.looks

pub returns-then-first-last-clause-same : goal.returns-then-first-last-clause-same
returns-then-first-last-clause-same g c = let a = c.look-first.ensures in let n = c.note-note.ensures in let b = c.look-last.ensures in
    let s = (g.A.Seated.view c.look-first.new.self).sight in let t = (g.B.Seated.view c.look-last.new.self).sight in
    let grows : Grows s t = subst (λ x. Grows x t) (ap (λ (v : View). v.sight) n.note.1) b.noted in
    same_sight s t c.look-first.result c.look-last.result grows a.word b.word c.if-first-last.true ∙ ap (λ (p : PassView). p.sight) (sym n.still)
