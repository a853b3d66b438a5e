use Rattle.std.proofs.Common.{take, map, rules, arith}
use Rattle.std.proofs.lemmas.List.Elements.{All-set}
use Rattle.hub_protocol.specs.Lines.{field_shown}
use Rattle.hub_protocol.specs.Spelling.{IsSound}
use Rattle.hub_protocol.proofs.FieldLists.{sound_by, no_fields_at, read_more, pieces_more}
use Rattle.hub_protocol.proofs.line.read_fields.Goals as goal

pub returns-in_err-field : goal.returns-in_err-field
returns-in_err-field c =
    let inv = c.loop-i.invariant in
    rw c.from_residual.ensures
    (no_fields_at c.args.kinds.now (take c.loop-i.i (map field_shown c.loop-i.fields)) c.loop-i.i _ _ _ c.loop-i-test.true inv.each inv.pieces c.in_err-field.ensures)

pub loop-i-preserved : goal.loop-i-preserved
loop-i-preserved c =
    let inv = c.loop-i.invariant in
    let step = c.in_ok-field.ensures in
    let few = c.requires in
    record {
      long = search rules;
      each = read_more c.args.kinds.now c.loop-i.fields c.loop-i.i _ c.in_ok-field.field c.loop-i-test.true (omega (arith, few, inv.long, c.loop-i-test.true)) inv.each step.0;
      pieces = pieces_more c.loop-i.fields c.loop-i.i c.in_ok-field.field _ _ _ (omega (arith, few, inv.long, c.loop-i-test.true)) inv.pieces step.1;
      sound = All-set (λ f. IsSound (field_shown f)) c.loop-i.fields c.loop-i.i c.in_ok-field.field (sound_by _ _ step.0) inv.sound;
    }
