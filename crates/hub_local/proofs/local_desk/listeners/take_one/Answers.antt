use Rattle.std.proofs.Common.{Ok, sym, ap, ◌∙◌}
use Rattle.hub_record.specs.declared.Taken.{Taken}
use Rattle.hub_local.proofs.Takings.{got_one, got_none, got_end, none_behind, still_represents, not_out, evicted_one, one_behind}
use Rattle.hub_local.proofs.local_desk.listeners.take_one.Goals as goal

pub returns-in-Ok-Got : goal.returns-in-Ok-Got
returns-in-Ok-Got c = λ w s st is.
    let got = got_one w c.args.id s is c.in-Ok-Got.field-0-0 (sym (ap (λ (t : Taken). Ok t) c.in-Ok-Got.field-0-is) ∙ c.in-Ok-Got.ensures.reply w st) in
    let one = one_behind w c.args.id s is got.0 got.1 _ _ _ (c.in-Ok-Got.ensures.filled w st) in
    (one.0, one.1, c.in-Ok-Got.ensures.after w st)

pub returns-in-Ok-Nothing : goal.returns-in-Ok-Nothing
returns-in-Ok-Nothing c = λ w s st is.
    let none = got_none w c.args.id s is (sym (ap (λ (t : Taken). Ok t) c.in-Ok-Nothing.field-0-is) ∙ c.in-Ok-Nothing.ensures.reply w st) in
    (none_behind w c.args.id s is none.0 _ (c.in-Ok-Nothing.ensures.after w st), none.1, still_represents w c.args.id s is none.0 _ (c.in-Ok-Nothing.ensures.after w st), not_out w c.args.id s is none.0 _ (c.in-Ok-Nothing.ensures.after w st))

pub returns-in-Ok-End : goal.returns-in-Ok-End
returns-in-Ok-End c = λ w s st is.
    let none = got_end w c.args.id s is (sym (ap (λ (t : Taken). Ok t) c.in-Ok-End.field-0-is) ∙ c.in-Ok-End.ensures.reply w st) in
    (none_behind w c.args.id s is none.0 _ (c.in-Ok-End.ensures.after w st), none.1, still_represents w c.args.id s is none.0 _ (c.in-Ok-End.ensures.after w st), not_out w c.args.id s is none.0 _ (c.in-Ok-End.ensures.after w st))

pub returns-in-Ok-Evicted : goal.returns-in-Ok-Evicted
returns-in-Ok-Evicted c = λ w s st is. evicted_one w c.args.id s is (sym (ap (λ (t : Taken). Ok t) c.in-Ok-Evicted.field-0-is) ∙ c.in-Ok-Evicted.ensures.reply w st) _ (c.in-Ok-Evicted.ensures.after w st)
