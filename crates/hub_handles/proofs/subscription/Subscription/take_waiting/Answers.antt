use Rattle.hub_handles.proofs.Nexts.{waits_idle, waits_some, waits_lacking}
use Rattle.hub_handles.proofs.subscription.Subscription.take_waiting.Goals as goal

pub returns-in-Err : goal.returns-in-Err
returns-in-Err g c = waits_idle _ _ _ c.in-Err.ensures.idle

pub returns-in_default : goal.returns-in_default
returns-in_default g c = waits_lacking _ _ c.count_waiting.ensures.looked c.in-Ok.ensures.waits.1

pub returns-then-count-len : goal.returns-then-count-len
returns-then-count-len g c = waits_some _ _ _ c.in-Ok.waiting _ _ c.count_waiting.ensures.looked c.in-Ok.ensures.waits c.min.ensures c.take_through.ensures

pub returns-in-Ok-larger : goal.returns-in-Ok-larger
returns-in-Ok-larger g c = waits_some _ _ _ c.in-Ok.waiting _ _ c.count_waiting.ensures.looked c.in-Ok.ensures.waits c.min.ensures c.take_through-in-Ok-larger.ensures

pub returns-in-Err-larger : goal.returns-in-Err-larger
returns-in-Err-larger g c = waits_lacking _ _ c.count_waiting.ensures.looked c.in-Ok.ensures.waits.1
