use Rattle.std.proofs.Common.{Err, inl, subst, ◌∙◌}
use Rattle.hub_protocol.specs.Reading.{IsReading}
use Rattle.hub_look.proofs.look.look_of.Goals as goal

pub returns : goal.returns
returns c =
    let reading = subst (λ line. IsReading line (Err c.in-Err.refusal)) (c.as_bytes.ensures.value ∙ c.in_ok-line.ensures.ok) c.in-Err.ensures.reading in
    record { ok = inl reading; err = tt }
