use Rattle.std.proofs.Common.{refl, sym, ap, ◌∙◌}
use Rattle.hub_record.specs.World.{last_publisher}
use Rattle.hub_fifodir.specs.declared.views.Rules.{Rules}
use Rattle.hub_fifodir.specs.declared.views.View.{View}
use Rattle.hub_fifodir.specs.Steps.{M, mine_of}
use Rattle.hub_fifodir.proofs.Publishing.{rests_refused, knew_own, role_held}
use Rattle.hub_fifodir.proofs.Added.{grows, knew, kept, rules_now, told, is_there, untold, word_seen, was_last, still_last, last_seen, own_by, other_by}
use Rattle.hub_fifodir.proofs.fifodir.Fifodir.tell_as_last.Goals as goal

-- ---- another publisher is last

pub rest-requires-clause-gives : goal.rest-requires-clause-gives
rest-requires-clause-gives g c = let me = c.args.me.now in let t = c.lock-held in
    rests_refused me.seat.at.me t.new.seat.at.me me.number t.result.locked me.is_writer t.ensures.holding.1 t.result.locked refl

pub returns-then-ne-clause-own : goal.returns-then-ne-clause-own
returns-then-ne-clause-own g c = let me = c.args.me.now in let t = c.lock-held in
    λ e. knew_own me.seat.at.me t.new.seat.at.me me.number t.result.locked me.is_writer t.ensures.holding.1 me.positive (sym (ap (λ (m : M). m.0.sight.closed) c.rest.ensures.view) ∙ e)

pub returns-then-ne-clause-none : goal.returns-then-ne-clause-none
returns-then-ne-clause-none g c = let me = c.args.me.now in let t = c.lock-held in let h = t.ensures.holding.1 in let view = c.rest.ensures.view in (
  (λ own. other_by c.last_publisher.result me.number c.ne.result c.ne.ensures c.if-ne.true
      (last_seen me.seat.at.me t.new.seat.at.me t.result.locked h c.last_publisher.result c.last_publisher.ensures ∙ sym (ap (λ (m : M). last_publisher m.0.sight.seen) view) ∙ own)),
  ap (λ (m : M). mine_of m.0.role) view ∙ ap mine_of (role_held me.seat.at.me t.new.seat.at.me me.number t.result.locked me.is_writer h),
)

-- ---- it is last itself

pub word-word-requires : goal.word-word-requires
word-word-requires g c = let h = c.lock-held.ensures.holding.1 in
    h.behind.for.for.kind ∙ h.behind.kind ∙ ap (λ (v : View). v.rules.kind) h.renews.is ∙ ap (λ (r : Rules). r.kind) c.requires.of.1 ∙ c.requires.service

pub returns-clause-remains : goal.returns-clause-remains
returns-clause-remains g c = let me = c.args.me.now in let t = c.lock-held in let h = t.ensures.holding.1 in record {
  of = (
    c.add-told.ensures.table.0 ∙ t.ensures.table.0 ∙ c.requires.of.0,
    rules_now t.new.seat.at.me c.add-told.new.seat.at.me me.number c.letters.result.now c.add-told.result c.add-told.ensures.added ∙ ap (λ (v : View). v.rules) h.renews.is ∙ c.requires.of.1,
  );
  number = refl;
  sound = c.add-told.ensures.sound;
  seen = grows me.seat.at.me t.new.seat.at.me c.add-told.new.seat.at.me me.number t.result.locked me.is_writer h c.letters.result.now c.add-told.result c.add-told.ensures.added;
}

pub returns-clause-own : goal.returns-clause-own
returns-clause-own g c = let me = c.args.me.now in let t = c.lock-held in
    knew me.seat.at.me t.new.seat.at.me c.add-told.new.seat.at.me me.number t.result.locked me.is_writer t.ensures.holding.1 c.letters.result.now c.add-told.result c.add-told.ensures.added me.positive

pub returns-clause-last : goal.returns-clause-last
returns-clause-last g c = let me = c.args.me.now in let t = c.lock-held in let h = t.ensures.holding.1 in
    was_last t.new.seat.at.me c.add-told.new.seat.at.me me.number c.letters.result.now
    (sym (last_seen me.seat.at.me t.new.seat.at.me t.result.locked h c.last_publisher.result c.last_publisher.ensures)
    ∙ own_by c.last_publisher.result me.number c.ne.result c.ne.ensures c.if-ne.false)
    c.add-told.result c.add-told.ensures.added

pub returns-clause-ok : goal.returns-clause-ok
returns-clause-ok g c = let me = c.args.me.now in let t = c.lock-held in let h = t.ensures.holding.1 in
    told me.seat.at.me t.new.seat.at.me c.add-told.new.seat.at.me me.number t.result.locked me.is_writer h c.args.state c.letters.result.now
    (word_seen me.seat.at.me t.new.seat.at.me t.result.locked h c.args.state c.letters.result.now (λ w r. c.letters.ensures ∙ c.word-word.ensures w r))
    c.add-told.result c.add-told.ensures.added

pub returns-clause-there : goal.returns-clause-there
returns-clause-there g c = let me = c.args.me.now in let t = c.lock-held in let h = t.ensures.holding.1 in
    is_there me.seat.at.me t.new.seat.at.me c.add-told.new.seat.at.me me.number t.result.locked me.is_writer h c.args.state c.letters.result.now
    (word_seen me.seat.at.me t.new.seat.at.me t.result.locked h c.args.state c.letters.result.now (λ w r. c.letters.ensures ∙ c.word-word.ensures w r))
    c.add-told.result c.add-told.ensures.added (ap (λ (v : View). v.rules.kind) h.renews.is ∙ ap (λ (r : Rules). r.kind) c.requires.of.1 ∙ c.requires.service)

pub returns-clause-err : goal.returns-clause-err
returns-clause-err g c = let me = c.args.me.now in let t = c.lock-held in let h = t.ensures.holding.1 in
    still_last t.new.seat.at.me c.add-told.new.seat.at.me me.number c.letters.result.now
    (sym (last_seen me.seat.at.me t.new.seat.at.me t.result.locked h c.last_publisher.result c.last_publisher.ensures)
    ∙ own_by c.last_publisher.result me.number c.ne.result c.ne.ensures c.if-ne.false)
    (mine_of me.seat.at.me.0.role) c.add-told.result c.add-told.ensures.added
    (kept me.seat.at.me t.new.seat.at.me c.add-told.new.seat.at.me me.number t.result.locked me.is_writer h c.letters.result.now c.add-told.result c.add-told.ensures.added)

pub returns-clause-refused : goal.returns-clause-refused
returns-clause-refused g c = let me = c.args.me.now in let t = c.lock-held in let h = t.ensures.holding.1 in
    untold me.seat.at.me t.new.seat.at.me c.add-told.new.seat.at.me me.number t.result.locked me.is_writer h c.args.state c.letters.result.now
    (word_seen me.seat.at.me t.new.seat.at.me t.result.locked h c.args.state c.letters.result.now (λ w r. c.letters.ensures ∙ c.word-word.ensures w r))
    c.add-told.result c.add-told.ensures.added
