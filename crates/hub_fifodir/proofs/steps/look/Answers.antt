use Rattle.std.proofs.Common.{rules, ap, sym, subst, ◌∙◌, IfSome}
use Rattle.hub_fifodir.specs.Rule.{IsLive}
use Rattle.hub_fifodir.specs.Steps.{M, Grows}
use Rattle.hub_fifodir.specs.Notes.{note_sight}
use Rattle.hub_fifodir.proofs.AllowedSteps.{asks_look, asks_join}
use Rattle.hub_fifodir.proofs.Meeting.{joined_look}
use Rattle.hub_fifodir.proofs.steps.look.Goals as goal

pub load-requires : goal.load-requires
load-requires c = (search rules, search rules, asks_look _ _ _ c.args.seat.now.at.me c.requires.idle.live c.requires.idle.held)

pub join_seat-requires : goal.join_seat-requires
join_seat-requires c = let n = rw c.in-Some.is at c.requires.note in (
  search rules,
  search rules,
  n.2,
  search rules,
  asks_join _ _ c.args.seat.now.at.me _ c.in-Some.note.me.0 c.in-Some.note.me.0 c.requires.idle n.1,
)

pub load-requires-2 : goal.load-requires-2
load-requires-2 c = let j = c.join_seat.ensures in let idle = c.requires.idle in
    (search rules, search rules, asks_look _ _ _ c.join_seat.new.seat.me (subst (λ (m : M). IsLive m.0.role) (sym j.2) idle.live) (ap (λ (m : M). m.0.held) j.2 ∙ idle.held))

pub returns-clause-seen : goal.returns-clause-seen
returns-clause-seen c = let j = c.join_seat.ensures in let e = c.load-2.ensures in
    ((joined_look c.args.seat.now.at.me c.join_seat.new.seat.me c.load-2.new.seat.me c.in-Some.note.me.0 c.requires.idle j.2 e.2.0 e.2.1).0, e.2.2)

pub returns-clause-noted : goal.returns-clause-noted
returns-clause-noted c = let j = c.join_seat.ensures in let e = c.load-2.ensures in
    subst (λ note. IfSome note (λ n. Grows (note_sight n) c.load-2.new.seat.me.0.sight)) (sym c.in-Some.is) (joined_look c.args.seat.now.at.me c.join_seat.new.seat.me c.load-2.new.seat.me c.in-Some.note.me.0 c.requires.idle j.2 e.2.0 e.2.1).1
