use Rattle.std.proofs.Common.{◌∙◌, ◌++◌, ◌∷◌, [], ap, sym}
use Rattle.hub_ask.proofs.Exchanges.{is_answered, is_broken_off}
use Rattle.hub_ask.proofs.exchanging.exchange.Goals as goal

pub returns-in-Ok-clause-ok : goal.returns-in-Ok-clause-ok
returns-in-Ok-clause-ok g c =
    is_answered _ _ _ _ _ _ _ _ _ _ (c.as_input-request.ensures.one ∙ ap (λ line. line ∷ []) c.as_bytes.ensures.bytes) c.new-reply.ensures.items c.in-Ok.ensures.finished

pub returns-in-Err-clause-err : goal.returns-in-Err-clause-err
returns-in-Err-clause-err g c =
    let (rest, prefix) = c.as_input-request.ensures.prefix in
    is_broken_off _ _ _ _ _ _ c.as_input-request.result.now _ _ rest _ (ap (λ line. line ++ 10 ∷ []) (sym c.as_bytes.ensures.bytes) ∙ prefix) c.in-Err.ensures.stopped
