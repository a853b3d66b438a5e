use Rattle.std.proofs.Common.{refl, ap, ◌∙◌}
use Rattle.hub_fifodir.specs.declared.views.Rules.{Rules}
use Rattle.hub_fifodir.specs.declared.views.View.{View}
use Rattle.hub_fifodir.proofs.Added.{grows, knew, kept, rules_now, told, is_there, untold, word_seen}
use Rattle.hub_fifodir.proofs.fifodir.Fifodir.tell.Goals as goal

pub returns-clause-remains : goal.returns-clause-remains
returns-clause-remains g c = let me = c.args.me.now in let t = c.lock-held in let h = t.ensures.holding.1 in record {
  of = (
    c.add.ensures.table.0 ∙ t.ensures.table.0 ∙ c.requires.of.0,
    rules_now t.new.seat.at.me c.add.new.seat.at.me me.number c.letters.result.now c.add.result c.add.ensures.added ∙ ap (λ (v : View). v.rules) h.renews.is ∙ c.requires.of.1,
  );
  number = refl;
  sound = c.add.ensures.sound;
  seen = grows me.seat.at.me t.new.seat.at.me c.add.new.seat.at.me me.number t.result.locked me.is_writer h c.letters.result.now c.add.result c.add.ensures.added;
}

pub returns-clause-own : goal.returns-clause-own
returns-clause-own g c = let me = c.args.me.now in let t = c.lock-held in
    knew me.seat.at.me t.new.seat.at.me c.add.new.seat.at.me me.number t.result.locked me.is_writer t.ensures.holding.1 c.letters.result.now c.add.result c.add.ensures.added me.positive

pub returns-clause-ok : goal.returns-clause-ok
returns-clause-ok g c = let me = c.args.me.now in let t = c.lock-held in let h = t.ensures.holding.1 in
    told me.seat.at.me t.new.seat.at.me c.add.new.seat.at.me me.number t.result.locked me.is_writer h c.args.state c.letters.result.now
    (word_seen me.seat.at.me t.new.seat.at.me t.result.locked h c.args.state c.letters.result.now (λ w r. c.letters.ensures ∙ c.word-word.ensures w r))
    c.add.result c.add.ensures.added

pub returns-clause-there : goal.returns-clause-there
returns-clause-there g c = let me = c.args.me.now in let t = c.lock-held in let h = t.ensures.holding.1 in
    is_there me.seat.at.me t.new.seat.at.me c.add.new.seat.at.me me.number t.result.locked me.is_writer h c.args.state c.letters.result.now
    (word_seen me.seat.at.me t.new.seat.at.me t.result.locked h c.args.state c.letters.result.now (λ w r. c.letters.ensures ∙ c.word-word.ensures w r))
    c.add.result c.add.ensures.added (ap (λ (v : View). v.rules.kind) h.renews.is ∙ ap (λ (r : Rules). r.kind) c.requires.of.1 ∙ c.requires.service)

pub returns-clause-err : goal.returns-clause-err
returns-clause-err g c = let me = c.args.me.now in let t = c.lock-held in
    kept me.seat.at.me t.new.seat.at.me c.add.new.seat.at.me me.number t.result.locked me.is_writer t.ensures.holding.1 c.letters.result.now c.add.result c.add.ensures.added

pub returns-clause-refused : goal.returns-clause-refused
returns-clause-refused g c = let me = c.args.me.now in let t = c.lock-held in let h = t.ensures.holding.1 in
    untold me.seat.at.me t.new.seat.at.me c.add.new.seat.at.me me.number t.result.locked me.is_writer h c.args.state c.letters.result.now
    (word_seen me.seat.at.me t.new.seat.at.me t.result.locked h c.args.state c.letters.result.now (λ w r. c.letters.ensures ∙ c.word-word.ensures w r))
    c.add.result c.add.ensures.added

pub word-word-requires : goal.word-word-requires
word-word-requires g c = let h = c.lock-held.ensures.holding.1 in
    h.behind.for.for.kind ∙ h.behind.kind ∙ ap (λ (v : View). v.rules.kind) h.renews.is ∙ ap (λ (r : Rules). r.kind) c.requires.of.1 ∙ c.requires.service
