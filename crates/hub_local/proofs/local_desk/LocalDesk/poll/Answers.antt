use Rattle.std.proofs.Common.{◌≡◌, ℕ, List, ◌++◌, length, Some, refl, sym, ap, ◌∙◌, arith}
use Rattle.hub_requests.specs.Wills.{wills_in}
use Rattle.hub_local.specs.Representing.{Local}
use Rattle.hub_local.proofs.Asking.{answers_from, same_parts, represents_next}
use Rattle.hub_listen.proofs.Singly.{never_spent}
use Rattle.hub_local.proofs.AskingPolls.{HasLooked, same_hearing, poll_plain, poll_overlong, unspent, poll_lacks, poll_nothing, poll_end, poll_evicted, poll_stops, hit_represents, poll_ended, poll_goes_on}
use Rattle.hub_local.proofs.AskingSubscriptions.{held_somewhere, has_subscription}
use Rattle.hub_local.proofs.local_desk.LocalDesk.poll.Goals as goal
use Rattle.hub_local.proofs.local_desk.LocalDesk.poll.Goals.{After-hear, in-Once+in-Got-1, in-Once+in-Hit-1, in-Once+in-Yes-1, in-Once+in-Listed-1, in-Once+in-Done-1, in-Repeat}

pub returns-in_default-hearing : goal.returns-in_default-hearing
returns-in_default-hearing c =
    answers_from c.self.view_is (poll_plain _ _ c.args.id c.in-Some.holding.now c.in-Some.ensures.value c.in_default-hearing.is
    (same_parts _ _ refl ((c.get_mut.follows.holds _).0 ∙ same_hearing c.self.inside.holdings.entries c.args.id c.in-Some.holding.now _ refl (sym c.in-Some.ensures.value)) refl refl))

pub invariant_of-self-in_default-hearing : goal.invariant_of-self-in_default-hearing
invariant_of-self-in_default-hearing c = represents_next _ c.args.self.now _ _ _ _ _ _ c.self.view_is (returns-in_default-hearing c) c.self.invariant

pub returns-then-text-ge-MOST_GATHERED : goal.returns-then-text-ge-MOST_GATHERED
returns-then-text-ge-MOST_GATHERED c =
    answers_from c.self.view_is (poll_overlong _ _ c.args.id c.in-Some.holding.now c.in-Some.ensures.value c.in-Some-hearing.hearing c.in-Some-hearing.is
    (let l = ap length c.text.ensures.value in let t = c.if-text-ge-MOST_GATHERED.true in omega arith)
    (same_parts _ _ refl ((c.get_mut.follows.holds _).0 ∙ same_hearing c.self.inside.holdings.entries c.args.id c.in-Some.holding.now _ c.in-Some-hearing.is (sym c.in-Some.ensures.value)) refl refl))

pub invariant_of-self-then-text-ge-MOST_GATHERED : goal.invariant_of-self-then-text-ge-MOST_GATHERED
invariant_of-self-then-text-ge-MOST_GATHERED c = represents_next _ c.args.self.now _ _ _ _ _ _ c.self.view_is (returns-then-text-ge-MOST_GATHERED c) c.self.invariant

pub returns-in_default-with_capacity : goal.returns-in_default-with_capacity
returns-in_default-with_capacity c =
    answers_from c.self.view_is (poll_lacks _ _ c.args.id c.in-Some.holding.now c.in-Some.ensures.value c.in-Some-hearing.hearing c.in-Some-hearing.is
    (let l = ap length c.text.ensures.value in let t = c.if-text-ge-MOST_GATHERED.false in omega arith)
    (same_parts _ _ refl ((c.get_mut.follows.holds _).0 ∙ same_hearing c.self.inside.holdings.entries c.args.id c.in-Some.holding.now _ c.in-Some-hearing.is (sym c.in-Some.ensures.value)) refl refl))

pub invariant_of-self-in_default-with_capacity : goal.invariant_of-self-in_default-with_capacity
invariant_of-self-in_default-with_capacity c = represents_next _ c.args.self.now _ _ _ _ _ _ c.self.view_is (returns-in_default-with_capacity c) c.self.invariant

pub unreachable-requires : goal.unreachable-requires
unreachable-requires c = held_somewhere _ c.self.invariant.desk c.self.invariant.represents c.args.id c.in-Some.holding.now c.in-Some.ensures.value c.in_default-get_mut.ensures.value

pub hear-requires-clause-current : goal.hear-requires-clause-current
hear-requires-clause-current c = has_subscription _ c.self.invariant.desk c.self.invariant.represents c.args.id c.in-Some.holding.now c.in-Some.ensures.value c.in-Some-get_mut.fifodir.now c.in-Some-get_mut.ensures.value

pub hear-requires-clause-unspent : goal.hear-requires-clause-unspent
hear-requires-clause-unspent c =
    never_spent c.in-Some-hearing.hearing.listener (unspent _ c.args.self.now c.args.id c.in-Some.holding.now c.in-Some.ensures.value c.in-Some-hearing.hearing c.in-Some-hearing.is c.self.invariant.desk c.self.invariant.represents)

-- the desk as it was, and as it is after the look
abbrev before : After-hear → Local
before c = record { fifodirs = c.self.inside.fifodirs.entries; holdings = c.self.inside.holdings.entries; given = c.self.inside.given; wills = wills_in c.self.inside.wills }

abbrev after : After-hear → Local
after c = record {
  fifodirs = (c.get_mut-2.follows.lender (record c.in-Some-get_mut.fifodir.now { kept = c.hear.new.kept })).entries;
  holdings = (c.get_mut.follows.lender (record c.in-Some.holding.now { hearing = Some c.hear.new.hearing })).entries;
  given = c.self.inside.given;
  wills = wills_in c.self.inside.wills;
}

look : (c : After-hear) → HasLooked (before c) (after c) c.args.id c.in-Some.holding.now c.in-Some-hearing.hearing c.hear.new.hearing c.in-Some-get_mut.fifodir.now c.hear.new.kept
look c = record {
  held_is = c.in-Some.ensures.value;
  hears = c.in-Some-hearing.is;
  room = (let l = ap length c.text.ensures.value in let t = c.if-text-ge-MOST_GATHERED.false in omega arith);
  put = record { was = sym c.in-Some-get_mut.ensures.value; fifodirs = (c.get_mut-2.follows.holds _).0; holdings = (c.get_mut.follows.holds _).0; given = refl; wills = refl };
}

pub returns-in-Nothing : goal.returns-in-Nothing
returns-in-Nothing c = answers_from c.self.view_is (poll_nothing _ _ _ _ _ _ _ _ (look (goal.at.returns-in-Nothing c).After-hear) c.in-Nothing.ensures)

pub invariant_of-self-in-Nothing-1 : goal.invariant_of-self-in-Nothing-1
invariant_of-self-in-Nothing-1 c = represents_next _ c.args.self.now _ _ _ _ _ _ c.self.view_is (returns-in-Nothing c) c.self.invariant

pub returns-in-End : goal.returns-in-End
returns-in-End c = answers_from c.self.view_is (poll_end _ _ _ _ _ _ _ _ (look (goal.at.returns-in-End c).After-hear) c.in-End.ensures)

pub invariant_of-self-in-End-1 : goal.invariant_of-self-in-End-1
invariant_of-self-in-End-1 c = represents_next _ c.args.self.now _ _ _ _ _ _ c.self.view_is (returns-in-End c) c.self.invariant

pub returns-in-Lacking : goal.returns-in-Lacking
returns-in-Lacking c = answers_from c.self.view_is (poll_stops _ _ _ _ _ _ _ _ (look (goal.at.returns-in-Lacking c).After-hear) c.in-Lacking.ensures)

pub invariant_of-self-in-Lacking-1 : goal.invariant_of-self-in-Lacking-1
invariant_of-self-in-Lacking-1 c = represents_next _ c.args.self.now _ _ _ _ _ _ c.self.view_is (returns-in-Lacking c) c.self.invariant

pub invariant_of-self-in-Once : goal.invariant_of-self-in-Once
invariant_of-self-in-Once c =
    hit_represents _ _ _ _ _ _ _ _ (look (goal.at.invariant_of-self-in-Once c).After-hear) c.in-Hit.ensures c.self.invariant.desk c.self.invariant.represents

pub invariant_of-self-in-Repeat : goal.invariant_of-self-in-Repeat
invariant_of-self-in-Repeat c =
    hit_represents _ _ _ _ _ _ _ _ (look (goal.at.invariant_of-self-in-Repeat c).After-hear) c.in-Hit.ensures c.self.invariant.desk c.self.invariant.represents

pub returns-after-hearing : goal.returns-after-hearing
returns-after-hearing c =
    let k = look (goal.at.returns-after-hearing c).After-hear in
    let shows : c.of.result ≡ c.hear.new.hearing.listener.hit =
    c.of.ensures ∙ (rw c.unwrap.ensures at c.extend_from_slice.ensures.items) ∙ ap (λ (x : List ℕ). x ++ c.hit.result.now) c.in-Ok.ensures.items ∙ c.hit.ensures.value in
    let ends = poll_ended _ _ _ _ _ _ _ _ k c.in-Hit.ensures c.of.result shows in
    let goes_on = poll_goes_on _ _ _ _ _ _ _ _ k c.in-Hit.ensures c.of.result shows in
    answers_from c.self.view_is (elim c.match-hearing.branch [
      | in-Once+in-Got-1 w ↦ ends w.in-Once.is _ _ _ w.cancel.ensures w.self-is
      | in-Once+in-Hit-1 w ↦ ends w.in-Once.is _ _ _ w.cancel.ensures w.self-is
      | in-Once+in-Yes-1 w ↦ ends w.in-Once.is _ _ _ w.cancel.ensures w.self-is
      | in-Once+in-Done-1 w ↦ ends w.in-Once.is _ _ _ w.cancel.ensures w.self-is
      | in-Once+in-Listed-1 w ↦ ends w.in-Once.is _ _ _ w.cancel.ensures w.self-is
      | in-Repeat w ↦ goes_on w.in-Repeat.is _ w.self-is
    ])

pub returns-in-Evicted : goal.returns-in-Evicted
returns-in-Evicted c = answers_from c.self.view_is (poll_evicted _ _ _ _ _ _ _ _ (look (goal.at.returns-in-Evicted c).After-hear) c.in-Evicted.ensures)

pub invariant_of-self-in-Evicted-1 : goal.invariant_of-self-in-Evicted-1
invariant_of-self-in-Evicted-1 c = represents_next _ c.args.self.now _ _ _ _ _ _ c.self.view_is (returns-in-Evicted c) c.self.invariant
