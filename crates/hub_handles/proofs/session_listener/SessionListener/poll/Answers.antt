use Rattle.std.proofs.Common.{◌<◌, ◌+◌, ℕ, length, [], Bool, refl, sym, subst, ap, ◌∙◌, inl, inr, arith}
use Rattle.hub_letters.specs.declared.mode.TheConstants.{MOST_GATHERED}
use Rattle.hub_handles.specs.Hearings.{HasRoom, HearsOne}
use Rattle.hub_handles.proofs.Hearings.{hears_none, hears_quietly, gathers_none, gathers_one, hit_polls, stop_polls}
use Rattle.hub_handles.proofs.session_listener.SessionListener.poll.Goals as goal

pub returns-in_default-with_capacity : goal.returns-in_default-with_capacity
returns-in_default-with_capacity g c =
    let few : HasRoom c.args.self.now = (let l = ap length c.text.ensures.value in let t = c.if-text-ge-MOST_GATHERED.false in omega arith) in
    inr (refl, subst (λ (n : ℕ). n < MOST_GATHERED) (sym (gathers_none c.args.self.now c.look.new.self c.look.ensures.quiet)) few, ([], c.look.ensures.quiet), c.in_default.ensures.more)

pub returns-in-Some : goal.returns-in-Some
returns-in-Some g c =
    let few : HasRoom c.args.self.now = (let l = ap length c.text.ensures.value in let t = c.if-text-ge-MOST_GATHERED.false in omega arith) in
    stop_polls c.args.self.now c.args.self.now c.look.new.self c.in-Some.reply [] (hears_none c.args.self.now c.args.self.now.repeats c.text.ensures.short) c.in-Some.ensures.quiet c.in-Some.ensures.stopped few few

pub returns-in-Ok-true : goal.returns-in-Ok-true
returns-in-Ok-true g c =
    let heard = subst (λ (hit : Bool). HearsOne c.loop.self hit c.hear.new.self) c.in-Ok-true.field-0-test c.in-Ok-true.ensures.heard in
    hit_polls c.args.self.now c.loop.self c.hear.new.self c.loop.invariant.0.0 c.excerpt_of.result c.loop.invariant.0.1 heard (c.excerpt_of.ensures ∙ c.hit.ensures.value)

pub returns-in-Err : goal.returns-in-Err
returns-in-Err g c =
    let few : HasRoom c.args.self.now = (let l = ap length c.text.ensures.value in let t = c.if-text-ge-MOST_GATHERED.false in omega arith) in
    let room : HasRoom c.loop.self = (let same = c.loop.invariant.1 in let t = c.loop-test.true in omega (arith, same, t)) in
    let stopped = c.in-Err.ensures.stopped in
    stop_polls c.args.self.now c.loop.self c.hear.new.self c.in-Err.reply c.loop.invariant.0.0 c.loop.invariant.0.1 stopped.0 stopped.1 few room

pub loop-preserved : goal.loop-preserved
loop-preserved g c =
    let heard = subst (λ (hit : Bool). HearsOne c.loop.self hit c.hear.new.self) c.in-Ok-false.field-0-test c.in-Ok-false.ensures.heard in (
      hears_quietly c.args.self.now c.loop.self c.hear.new.self c.loop.invariant.0.0 c.loop.invariant.0.1 heard,
      gathers_one c.loop.self c.hear.new.self heard ∙ ap (λ n. n + 1) c.loop.invariant.1,
      inl heard.2,
    )

pub loop-init : goal.loop-init
loop-init g c =
    let few : HasRoom c.args.self.now = (let l = ap length c.text.ensures.value in let t = c.if-text-ge-MOST_GATHERED.false in omega arith) in
    let none = gathers_none c.args.self.now c.look.new.self c.look.ensures.quiet in
    let here = ap length c.text-counter.ensures.value in
    (([], c.look.ensures.quiet), sym here, inr (omega (arith, few, none, here)))
