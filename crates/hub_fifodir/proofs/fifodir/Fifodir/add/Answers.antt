use Rattle.std.proofs.Common.{sym, ap, subst}
use Rattle.hub_fifodir.specs.Rule.{IsSound}
use Rattle.hub_fifodir.specs.Steps.{M}
use Rattle.hub_fifodir.proofs.Publishing.{refused_by, rests_refused, writer_still, may_write, rests_longer, writer_longer, sound_now, added}
use Rattle.hub_fifodir.proofs.fifodir.Fifodir.add.Goals as goal

pub write_message-requires-clause-writes : goal.write_message-requires-clause-writes
write_message-requires-clause-writes c = let r = c.requires.writer in let h = r.2.1 in let ok = c.in-Ok.ensures in let b = h.behind.world in
    may_write r.0 c.args.seat.now.at.me c.args.number c.args.held.locked r.1 h c.publish.new.self c.args.letters.now c.in-Ok.first (ok.reply b h.behind.for) (ok.world b h.behind.for) ok.others
    _ c.pack-word.result (c.status.ensures _ (ok.world b h.behind.for)) c.pack-word.ensures

pub rest-requires-clause-gives : goal.rest-requires-clause-gives
rest-requires-clause-gives c = let r = c.requires.writer in let h = r.2.1 in let ok = c.in-Ok.ensures in let b = h.behind.world in
    rests_longer r.0 c.args.seat.now.at.me c.args.number c.args.held.locked r.1 h c.publish.new.self c.args.letters.now c.in-Ok.first (ok.reply b h.behind.for) (ok.world b h.behind.for) ok.others
    c.write_message.new.seat.at.me c.write_message.ensures.view

pub rest-requires-in-Err-clause-gives : goal.rest-requires-in-Err-clause-gives
rest-requires-in-Err-clause-gives c = let r = c.requires.writer in
    rests_refused r.0 c.args.seat.now.at.me c.args.number c.args.held.locked r.1 r.2.1 c.publish.new.self c.in-Err.ensures.err

pub returns-in-Ok-clause-writer : goal.returns-in-Ok-clause-writer
returns-in-Ok-clause-writer c = let r = c.requires.writer in let h = r.2.1 in let ok = c.in-Ok.ensures in let b = h.behind.world in
    let reply = ok.reply b h.behind.for in let after = ok.world b h.behind.for in
    writer_longer r.0 c.args.seat.now.at.me c.args.number c.args.held.locked r.1 h c.publish.new.self c.args.letters.now c.in-Ok.first reply after ok.others
    c.write_message.new.seat.at.me c.write_message.ensures.view c.rest.new.seat.at.me c.rest.ensures.view

pub returns-in-Ok-clause-sound : goal.returns-in-Ok-clause-sound
returns-in-Ok-clause-sound c = let r = c.requires.writer in let h = r.2.1 in let ok = c.in-Ok.ensures in let b = h.behind.world in
    let reply = ok.reply b h.behind.for in let after = ok.world b h.behind.for in
    sound_now r.0 c.args.seat.now.at.me c.args.number c.args.held.locked r.1 h c.publish.new.self c.args.letters.now c.in-Ok.first reply after ok.others
    c.write_message.new.seat.at.me c.write_message.ensures.view c.rest.new.seat.at.me c.rest.ensures.view

pub returns-in-Ok-clause-added : goal.returns-in-Ok-clause-added
returns-in-Ok-clause-added c = let r = c.requires.writer in let h = r.2.1 in let ok = c.in-Ok.ensures in let b = h.behind.world in
    let reply = ok.reply b h.behind.for in let after = ok.world b h.behind.for in
    added r.0 c.args.seat.now.at.me c.args.number c.args.held.locked r.1 h c.publish.new.self c.args.letters.now c.in-Ok.first reply after ok.others
    c.write_message.new.seat.at.me c.write_message.ensures.view c.rest.new.seat.at.me c.rest.ensures.view

pub returns-in-Err-clause-writer : goal.returns-in-Err-clause-writer
returns-in-Err-clause-writer c = let r = c.requires.writer in
    writer_still r.0 c.args.seat.now.at.me c.args.number c.args.held.locked r.1 r.2.1 c.rest-in-Err.new.seat.at.me c.rest-in-Err.ensures.view

pub returns-in-Err-clause-sound : goal.returns-in-Err-clause-sound
returns-in-Err-clause-sound c =
    subst (λ (m : M). IsSound m.0.rules m.0.sight.seen) (sym c.rest-in-Err.ensures.view) c.requires.writer.2.1.renews.sound_is

pub returns-in-Err-clause-added : goal.returns-in-Err-clause-added
returns-in-Err-clause-added c = let h = c.requires.writer.2.1 in let m : M = c.args.seat.now.at.me in let rested = c.rest-in-Err.ensures.view in (
  ap (λ (m : M). m.0.rules) rested,
  ap (λ (m : M). m.0.sight) rested,
  ap (λ (m : M). m.0.role) rested,
  refused_by m.0.rules m.0.sight c.args.held.locked c.args.letters.now c.in-Err.refusal h.behind (c.in-Err.ensures.reply h.behind.world h.behind.for),
)
