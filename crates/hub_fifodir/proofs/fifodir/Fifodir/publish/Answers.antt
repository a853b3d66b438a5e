use Rattle.std.proofs.Common.{refl, ap, ◌∙◌}
use Rattle.hub_fifodir.specs.declared.views.View.{View}
use Rattle.hub_fifodir.proofs.Added.{grows, knew, published, kept, refused, rules_now}
use Rattle.hub_fifodir.proofs.fifodir.Fifodir.publish.Goals as goal

pub returns-clause-remains : goal.returns-clause-remains
returns-clause-remains g c = let me = c.args.me.now in let t = c.lock-held in let h = t.ensures.holding.1 in record {
  of = (
    c.add.ensures.table.0 ∙ t.ensures.table.0 ∙ c.requires.0,
    rules_now t.new.seat.at.me c.add.new.seat.at.me me.number c.args.letters.now c.add.result c.add.ensures.added ∙ ap (λ (v : View). v.rules) h.renews.is ∙ c.requires.1,
  );
  number = refl;
  sound = c.add.ensures.sound;
  seen = grows me.seat.at.me t.new.seat.at.me c.add.new.seat.at.me me.number t.result.locked me.is_writer h c.args.letters.now c.add.result c.add.ensures.added;
}

pub returns-clause-own : goal.returns-clause-own
returns-clause-own g c = let me = c.args.me.now in let t = c.lock-held in
    knew me.seat.at.me t.new.seat.at.me c.add.new.seat.at.me me.number t.result.locked me.is_writer t.ensures.holding.1 c.args.letters.now c.add.result c.add.ensures.added me.positive

pub returns-clause-ok : goal.returns-clause-ok
returns-clause-ok g c = let me = c.args.me.now in let t = c.lock-held in
    published me.seat.at.me t.new.seat.at.me c.add.new.seat.at.me me.number t.result.locked me.is_writer t.ensures.holding.1 c.args.letters.now c.add.result c.add.ensures.added

pub returns-clause-err : goal.returns-clause-err
returns-clause-err g c = let me = c.args.me.now in let t = c.lock-held in
    kept me.seat.at.me t.new.seat.at.me c.add.new.seat.at.me me.number t.result.locked me.is_writer t.ensures.holding.1 c.args.letters.now c.add.result c.add.ensures.added

pub returns-clause-refused : goal.returns-clause-refused
returns-clause-refused g c = let me = c.args.me.now in let t = c.lock-held in
    refused me.seat.at.me t.new.seat.at.me c.add.new.seat.at.me me.number t.result.locked me.is_writer t.ensures.holding.1 c.args.letters.now c.add.result c.add.ensures.added
