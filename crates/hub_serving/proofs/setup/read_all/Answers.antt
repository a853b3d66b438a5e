use Rattle.std.proofs.Common.{◌≡◌, IfSome, subst, arith}
use Rattle.hub_serving.proofs.CarriedOut.{all_read}
use Rattle.hub_serving.proofs.setup.read_all.Goals as goal

pub returns-in-Ok-clause-whole : goal.returns-in-Ok-clause-whole
returns-in-Ok-clause-whole g c =
    subst (λ it. IfSome (g.R.Read.remaining it) (λ bytes. c.read_to_end.new.buf.items ≡ bytes)) c.take.ensures.inner
    (all_read (g.R.Read.remaining c.take.result.inner) c.take.result.limit 1_048_576 c.new-text.result.items c.read_to_end.new.buf.items (omega (arith, c.take.ensures.limit)) c.new-text.ensures.items
    (omega (arith, c.len.ensures, c.if-len-le-MOST_BYTES.true)) c.in-Ok.ensures.bytes)
