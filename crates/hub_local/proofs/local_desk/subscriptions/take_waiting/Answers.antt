use Rattle.std.proofs.Common.{◌≡◌, min, length, List, Result, IfOk, OnOk, ap, ◌∙◌, subst}
use Rattle.std.specs.Option.{unwrap_or}
use Rattle.hub_record.specs.Kept.{Represents}
use Rattle.hub_record.specs.declared.Event.{Event}
use Rattle.hub_record.specs.declared.NoId.{NoId}
use Rattle.hub_record.specs.declared.Taken.{Taken}
use Rattle.hub_record.specs.World.{World, letters, take_events, take_reply, after_take}
use Rattle.hub_local.specs.DeskAnswers.{take_shown}
use Rattle.hub_local.proofs.Takings.{same_take}
use Rattle.hub_local.proofs.local_desk.subscriptions.take_waiting.Goals as goal

pub returns-clause-reply : goal.returns-clause-reply
returns-clause-reply c = λ w st.
    let n : length c.deref_mut.result.now ≡ min c.args.most c.unwrap_or-waiting.result = c.deref_mut.ensures.len ∙ c.in_ok-room.ensures.len ∙ c.min.ensures in
    let same = same_take w c.args.id c.args.most c.unwrap_or-waiting.result (c.unwrap_or-waiting.ensures ∙ ap (λ o. unwrap_or o 0) (c.waiting.ensures w st)) in
    subst (λ (z : List Event × Result Taken NoId). IfOk c.take_letters.result (λ reply. reply ≡ take_shown (letters z.0) z.1)) (λ i. (same.events i, same.reply i))
    (subst (λ k. IfOk c.take_letters.result (λ reply. reply ≡ take_shown (letters (take_events w c.args.id k)) (take_reply w c.args.id k))) n (c.take_letters.ensures.reply w st))

pub returns-clause-after : goal.returns-clause-after
returns-clause-after c = λ w st.
    let n : length c.deref_mut.result.now ≡ min c.args.most c.unwrap_or-waiting.result = c.deref_mut.ensures.len ∙ c.in_ok-room.ensures.len ∙ c.min.ensures in
    let same = same_take w c.args.id c.args.most c.unwrap_or-waiting.result (c.unwrap_or-waiting.ensures ∙ ap (λ o. unwrap_or o 0) (c.waiting.ensures w st)) in
    subst (λ (k : World). OnOk c.take_letters.result (Represents c.take_letters.new.kept k)) same.after
    (subst (λ k. OnOk c.take_letters.result (Represents c.take_letters.new.kept (after_take w c.args.id k))) n (c.take_letters.ensures.after w st))
