use Rattle.std.proofs.Common.{◌≡◌, [], ◌∷◌, refl, rules}
use Rattle.hub_io.proofs.Outcomes.{OnErr-known}
use Rattle.hub_front.proofs.Runs.{answers_same}
use Rattle.hub_gather.proofs.Gathered.{gathers_one, loses_at, loses_within}
use Rattle.hub_gather.proofs.Passed.{works_answer, works_then, works_to}
use Rattle.hub_gather.proofs.batch.Batch.answer_line.Goals as goal

pub returns-in_err-make_room-clause-err : goal.returns-in_err-make_room-clause-err
returns-in_err-make_room-clause-err g c = OnErr-known _ (loses_within (_ ∷ []) (loses_at _ c.in_err-make_room.ensures.err))

pub returns-clause-ok : goal.returns-clause-ok
returns-clause-ok g c =
    let line : c.deref.result.now ≡ c.args.self.now.line.items = search rules in
    gathers_one c.args.self.now.held.items c.make_room.new.self.held.items _ c.answer-reply.result c.in_ok-make_room.ensures.ok
    (answers_same line (record { read = c.parse-line.result; reading = c.parse-line.ensures.reading; answered = c.answer-reply.ensures.answer })) (search rules)

pub returns-clause-paces : goal.returns-clause-paces
returns-clause-paces g c =
    works_then c.in_ok-make_room.ensures.paces
    (works_to (search rules) refl (works_answer c.parse-line.result c.answer-reply.result c.args.self.now.count c.make_room.new.self.held.items _ c.answer-reply.ensures.step c.in_ok-make_room.ensures.awake (search rules) (search rules)))
