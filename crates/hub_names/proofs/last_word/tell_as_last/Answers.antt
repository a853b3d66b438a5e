use Rattle.std.proofs.Common.{sym, ◌∙◌}
use Rattle.hub_names.proofs.LastWords.{remains_on, says_again}
use Rattle.hub_names.proofs.last_word.tell_as_last.Goals as goal

pub loop-tries-init : goal.loop-tries-init
loop-tries-init g c = record { of = c.try_once-told.ensures.remains.of; remains = λ p a. a; said = λ p a s. s }

pub loop-tries-preserved : goal.loop-tries-preserved
loop-tries-preserved g c =
    let was = c.loop-tries.invariant in
    let again = c.try_once-told-in-loop-tries in
    let full = sym c.finds_no_room.ensures ∙ c.if-not-finds_no_room.false in
    record {
      of = again.ensures.remains.of;
      remains = λ p a. remains_on c.args.dir.now p c.loop-tries.me again.new.me (was.remains p a) again.ensures.remains;
      said = λ p a s. says_again c.args.dir.now c.args.state p c.loop-tries.me again.new.me c.loop-tries.told again.result full (was.said p a s) (was.remains p a) again.ensures.said;
    }

pub returns-after-loop-tries-clause-remains : goal.returns-after-loop-tries-clause-remains
returns-after-loop-tries-clause-remains g c = c.loop-tries.invariant.remains c.args.me.now c.try_once-told.ensures.remains

pub returns-after-loop-tries-clause-said : goal.returns-after-loop-tries-clause-said
returns-after-loop-tries-clause-said g c = c.loop-tries.invariant.said c.args.me.now c.try_once-told.ensures.remains c.try_once-told.ensures.said

pub returns-then-not-finds_no_room-clause-remains : goal.returns-then-not-finds_no_room-clause-remains
returns-then-not-finds_no_room-clause-remains g c = c.loop-tries.invariant.remains c.args.me.now c.try_once-told.ensures.remains

pub returns-then-not-finds_no_room-clause-said : goal.returns-then-not-finds_no_room-clause-said
returns-then-not-finds_no_room-clause-said g c = c.loop-tries.invariant.said c.args.me.now c.try_once-told.ensures.remains c.try_once-told.ensures.said
