use Rattle.std.proofs.Common.{◌≡◌, ◌<◌, ◌^◌, drop}
use Rattle.hub_protocol.specs.Fields.{digits_from}
use Rattle.hub_protocol.proofs.fields.digits_value.Given as goal

-- the digits so far have this value
abbrev pub invariant-loop-b : goal.invariant-loop-b
invariant-loop-b l = record {
  small : l.value < 10 ^ l.b-index;
  so_far : digits_from l.value (drop l.b-index l.text) ≡ digits_from 0 l.text;
}
