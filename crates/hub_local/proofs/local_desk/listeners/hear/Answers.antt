use Rattle.std.proofs.Common.{◌≡◌, ℕ, ◌+◌, ◌-◌, length, ap, subst, arith}
use Rattle.hub_local.proofs.Hearing.{HeardPrefix, prefix_none, prefix_represents, prefix_unspent, prefix_gathered, prefix_more, prefix_full, prefix_then, found_left, has_found}
use Rattle.hub_local.proofs.local_desk.listeners.hear.Goals as goal

pub loop-init : goal.loop-init
loop-init c = λ w s st is.
    let e : 0 ≡ length c.text-counter.result.now - length c.args.hearing.now.listener.gathered = (let l = ap length c.text-counter.ensures.value in omega arith) in
    subst (λ (n : ℕ). HeardPrefix c.args.hearing.now w c.args.id n c.args.hearing.now c.args.kept.now) e
    (prefix_none c.args.hearing.now w c.args.id s is c.args.kept.now c.requires.unspent (let r = c.requires.room in omega arith) st)

pub hear_one-requires-clause-current : goal.hear_one-requires-clause-current
hear_one-requires-clause-current c =
    let w = c.requires.current.world in
    let f = has_found _ c.requires.current.subscribed in
    prefix_represents c.args.hearing.now w c.args.id f.0 f.1 _ _ _ (c.loop.invariant w f.0 c.requires.current.represents f.1)

pub hear_one-requires-clause-unspent : goal.hear_one-requires-clause-unspent
hear_one-requires-clause-unspent c =
    let w = c.requires.current.world in
    let f = has_found _ c.requires.current.subscribed in
    prefix_unspent c.args.hearing.now w c.args.id f.0 f.1 _ _ _ (c.loop.invariant w f.0 c.requires.current.represents f.1)

pub hear_one-requires-clause-room : goal.hear_one-requires-clause-room
hear_one-requires-clause-room c =
    let w = c.requires.current.world in
    let f = has_found _ c.requires.current.subscribed in
    let count = prefix_gathered c.args.hearing.now w c.args.id f.0 f.1 _ _ _ (c.loop.invariant w f.0 c.requires.current.represents f.1) in
    let l = ap length c.text-counter.ensures.value in let a = c.loop.auto.counter in let t = c.loop-test.true in omega arith

pub loop-preserved : goal.loop-preserved
loop-preserved c = λ w s st is.
    let prefix = c.loop.invariant w s st is in
    let heard = c.in-None.ensures _ _ prefix.represents (found_left c.args.hearing.now w c.args.id s is (c.loop.counter - length c.args.hearing.now.listener.gathered)) in
    let e : (c.loop.counter - length c.args.hearing.now.listener.gathered) + 1 ≡ (c.loop.counter + 1) - length c.args.hearing.now.listener.gathered =
    (let l = ap length c.text-counter.ensures.value in let a = c.loop.auto.counter in omega arith) in
    subst (λ (n : ℕ). HeardPrefix c.args.hearing.now w c.args.id n c.hear_one.new.hearing c.hear_one.new.kept) e
    (prefix_more c.args.hearing.now w c.args.id s is _ _ _ prefix heard.0 heard.1 heard.2 _ _ heard.3 heard.4.mode_is heard.4.held_is heard.4.represents)

pub returns-in-Some : goal.returns-in-Some
returns-in-Some c = λ w s st is.
    let prefix = c.loop.invariant w s st is in
    let heard = c.in-Some.ensures _ _ prefix.represents (found_left c.args.hearing.now w c.args.id s is (c.loop.counter - length c.args.hearing.now.listener.gathered)) in
    prefix_then c.args.hearing.now w c.args.id s is _ _ _ prefix
    (let l = ap length c.text-counter.ensures.value in let a = c.loop.auto.counter in let t = c.loop-test.true in omega arith) c.in-Some.heard _ _ heard

pub returns : goal.returns
returns c = λ w s st is.
    let prefix = c.loop.invariant w s st is in
    let room = c.requires.room in
    prefix_full c.args.hearing.now w c.args.id s is _ _ _ prefix
    (let l = ap length c.text-counter.ensures.value in let a = c.loop.auto in let t = c.loop-test.false in omega arith) room
