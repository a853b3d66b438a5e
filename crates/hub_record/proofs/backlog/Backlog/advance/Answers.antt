use Rattle.std.proofs.Common.{ℕ, ◌≡◌, ◌+◌, ◌-◌, ◌<◌, ◌≤◌, Some, length, drop, get_or, nat_eq, refl, sym, ap, subst, ◌∙◌, arith}
use Rattle.std.proofs.lemmas.Bool.{eqb-true}
use Rattle.std.proofs.lemmas.Option.{slice_get_within}
use Rattle.std.proofs.lemmas.List.{length-set}
use Rattle.std.specs.Map.{lookup}
use Rattle.std.specs.Option.{IfSome}
use Rattle.circular_buffer.specs.Buffer.{Buffer, buffer}
use Rattle.hub_record.specs.declared.Event.{Event}
use Rattle.hub_record.specs.Backlog.{first_place}
use Rattle.hub_record.proofs.Counted.{some_at_place}
use Rattle.hub_record.proofs.Keeps.{few_at_place, one_stays, first_known, IfSome-then_some}
use Rattle.hub_record.proofs.Moves.{kept_set_value, kept_stays, end_after_cut, cut_held, still_held, pending_at, advances}
use Rattle.hub_record.proofs.Rising.{moved_to}
use Rattle.hub_record.proofs.backlog.Backlog.advance.Goals as goal
use Rattle.hub_record.proofs.backlog.Backlog.advance.Goals.{In-Some}

-- the cursor, and what is pending behind it
here : (c : In-Some) → (lookup (nat_eq c.args.id) c.self.inside.cursors ≡ Some c.in-Some.from) × (c.self.inside.base ≤ c.in-Some.from)
    × (c.in-Some.from < c.self.inside.base + length c.self.inside.ring.items) × (c.in-Some.from + c.args.count ≤ c.self.inside.base + length c.self.inside.ring.items)
here c =
    let found = sym c.in-Some.ensures.next in
    let (above, waited, within) = pending_at _ _ c.args.id c.args.count _ _ _ _ c.self.view_is c.self.invariant c.requires found in
    (found, above, waited, within)

pub overflow_sub-place : goal.overflow_sub-place
overflow_sub-place c = (here (goal.at.overflow_sub-place c).In-Some).1

pub set-requires : goal.set-requires
set-requires c = slice_get_within c.self.inside.cursors c.in-Some.listed (c.args.id, c.in-Some.from) c.in-Some.ensures.place

pub one_less-left-requires-clause-place : goal.one_less-left-requires-clause-place
one_less-left-requires-clause-place c =
    let (found, above, waited, within) = here (goal.at.one_less-left-requires-clause-place c).In-Some in
    let to = c.self.invariant.to_end in
    omega arith

pub one_less-left-requires-clause-some : goal.one_less-left-requires-clause-some
one_less-left-requires-clause-some c =
    let (found, above, waited, within) = here (goal.at.one_less-left-requires-clause-some c).In-Some in
    some_at_place c.self.inside.base c.in-Some.from (c.in-Some.from - c.self.inside.base) (nat_eq c.args.id) _ _ c.self.invariant.counted found (omega arith)

pub one_more-there-requires-clause-place : goal.one_more-there-requires-clause-place
one_more-there-requires-clause-place c =
    let (found, above, waited, within) = here (goal.at.one_more-there-requires-clause-place c).In-Some in
    let place = c.in-Some.from - c.self.inside.base in
    let to = c.self.invariant.to_end in
    let less = ap (λ (b : Buffer ℕ). length b.items) c.one_less-left.ensures.counts in
    let long = length-set c.self.inside.counts.items place (get_or c.self.inside.counts.items place 0 - 1) in
    omega arith

pub one_more-there-requires-clause-few : goal.one_more-there-requires-clause-few
one_more-there-requires-clause-few c =
    let (found, above, waited, within) = here (goal.at.one_more-there-requires-clause-few c).In-Some in
    few_at_place _ _ _ _ c.in-Some.from _ _ (nat_eq c.args.id) _ _ _ c.self.invariant found (omega arith) c.one_less-left.ensures.counts

pub invariant_of-self : goal.invariant_of-self
invariant_of-self c =
    let (found, above, waited, within) = here (goal.at.invariant_of-self c).In-Some in
    let place = c.in-Some.from - c.self.inside.base in
    let to = c.self.invariant.to_end in
    let less = ap (λ (b : Buffer ℕ). length b.items) c.one_less-left.ensures.counts in
    let long = length-set c.self.inside.counts.items place (get_or c.self.inside.counts.items place 0 - 1) in
    let moved = moved_to _ _ c.in-Some.listed c.args.id c.in-Some.from _ c.in-Some.ensures.place c.set.ensures in
    kept_stays _ _ _ _ (length c.self.inside.ring.items) c.in-Some.from (c.in-Some.from + c.args.count) place (place + c.args.count) (nat_eq c.args.id) _ _ _ _ _ c.self.invariant refl found moved
    (omega arith) (omega arith) (omega arith) (omega arith) c.one_less-left.ensures.counts c.one_more-there.ensures.counts
    (one_stays _ _ _ _ c.in-Some.from place (place + c.args.count) _ (nat_eq c.args.id) _ _ _ _ c.self.invariant found (omega arith) (omega arith) (omega arith)
    c.one_less-left.ensures.counts c.one_more-there.ensures.counts c.one_less-left.ensures.left (c.one_stays.ensures c.if-one_stays.true))

pub returns-then-one_stays : goal.returns-then-one_stays
returns-then-one_stays c =
    let found = sym c.in-Some.ensures.next in
    let is = moved_to _ _ c.in-Some.listed c.args.id c.in-Some.from _ c.in-Some.ensures.place c.set.ensures in
    advances _ _ _ c.args.id c.args.count _ c.self.view_is found
    (still_held _ _ c.self.inside.given _ _ _ _ c.self.invariant.lowest (invariant_of-self c).lowest is)

pub invariant_of-self-then-to-len : goal.invariant_of-self-then-to-len
invariant_of-self-then-to-len c =
    let (found, above, waited, within) = here (goal.at.invariant_of-self-then-to-len c).In-Some in
    let place = c.in-Some.from - c.self.inside.base in
    let to = c.self.invariant.to_end in
    let moved = moved_to _ _ c.in-Some.listed c.args.id c.in-Some.from _ c.in-Some.ensures.place c.set.ensures in
    let less = ap (λ (b : Buffer ℕ). length b.items) c.one_less-left.ensures.counts in
    let more = ap (λ (b : Buffer ℕ). length b.items) c.one_more-there.ensures.counts in
    let long = length-set c.self.inside.counts.items place (get_or c.self.inside.counts.items place 0 - 1) in
    let longer = length-set c.one_less-left.new.counts.items (place + c.args.count) (get_or c.one_less-left.new.counts.items (place + c.args.count) 0 + 1) in
    let first = first_known _ _ _ _ c.in-Some.from (c.in-Some.from + c.args.count) place (place + c.args.count) _ (nat_eq c.args.id) _ _ _ _ _ c.self.invariant found moved
    (omega arith) (omega arith) (omega arith) c.one_less-left.ensures.counts c.one_more-there.ensures.counts c.one_more-there.ensures.there (c.if-all.true ∙ c.len.ensures) in
    let at_end = c.if-to-len.true in
    let kept = c.len-then-all.ensures.len in
    let last : length c.one_more-there.new.counts.items - 1 ≡ place + c.args.count = omega arith in
    kept_set_value _ _ _ _ (length c.self.inside.ring.items) _ (c.in-Some.from + c.args.count) place (place + c.args.count) (place + c.args.count) _ _ (nat_eq c.args.id) _ _ _ _ _ _ c.self.invariant refl
    found moved (omega arith) (omega arith) (omega arith) (omega arith)
    c.one_less-left.ensures.counts c.one_more-there.ensures.counts (omega arith)
    (c.keep_last.ensures ∙ ap (λ n. buffer (drop n c.one_more-there.new.counts.items) c.one_more-there.new.counts.capacity) last)
    (ap (λ (b : Buffer Event). b.capacity) c.cut.ensures)
    (end_after_cut _ _ _ _ _ (omega arith) c.cut.ensures)

pub returns-then-to-len : goal.returns-then-to-len
returns-then-to-len c =
    let (found, above, waited, within) = here (goal.at.returns-then-to-len c).In-Some in
    let at_end = c.if-to-len.true in
    let kept = c.len-then-all.ensures.len in
    let is = moved_to _ _ c.in-Some.listed c.args.id c.in-Some.from _ c.in-Some.ensures.place c.set.ensures in
    advances _ _ _ c.args.id c.args.count _ c.self.view_is found
    (cut_held _ _ _ c.self.inside.given _ _ _ _ _ c.self.invariant.lowest (invariant_of-self-then-to-len c).lowest (omega arith) is c.cut.ensures)

pub release-requires-clause-places : goal.release-requires-clause-places
release-requires-clause-places c =
    let place = c.in-Some.from - c.self.inside.base in
    let to = c.self.invariant.to_end in
    let less = ap (λ (b : Buffer ℕ). length b.items) c.one_less-left.ensures.counts in
    let more = ap (λ (b : Buffer ℕ). length b.items) c.one_more-there.ensures.counts in
    let long = length-set c.self.inside.counts.items place (get_or c.self.inside.counts.items place 0 - 1) in
    let longer = length-set c.one_less-left.new.counts.items (place + c.args.count) (get_or c.one_less-left.new.counts.items (place + c.args.count) 0 + 1) in
    omega arith

pub release-requires-clause-known : goal.release-requires-clause-known
release-requires-clause-known c =
    let (found, above, waited, within) = here (goal.at.release-requires-clause-known c).In-Some in
    let place = c.in-Some.from - c.self.inside.base in
    let to = c.self.invariant.to_end in
    let moved = moved_to _ _ c.in-Some.listed c.args.id c.in-Some.from _ c.in-Some.ensures.place c.set.ensures in
    subst (λ o. IfSome o (λ first. first ≡ first_place c.one_more-there.new.counts.items)) (sym c.then_some-known.ensures) (IfSome-then_some _ _ (λ first. first ≡ first_place c.one_more-there.new.counts.items) (λ t.
    first_known _ _ _ _ c.in-Some.from (c.in-Some.from + c.args.count) place (place + c.args.count) _ (nat_eq c.args.id) _ _ _ _ _ c.self.invariant found moved
    (omega arith) (omega arith) (omega arith) c.one_less-left.ensures.counts c.one_more-there.ensures.counts c.one_more-there.ensures.there (eqb-true _ _ t ∙ c.len.ensures)))

pub invariant_of-self-2 : goal.invariant_of-self-2
invariant_of-self-2 c =
    let (found, above, waited, within) = here (goal.at.invariant_of-self-2 c).In-Some in
    let told = c.release.ensures.count in
    let place = c.in-Some.from - c.self.inside.base in
    let moved = moved_to _ _ c.in-Some.listed c.args.id c.in-Some.from _ c.in-Some.ensures.place c.set.ensures in
    kept_set_value _ _ _ _ (length c.self.inside.ring.items) _ (c.in-Some.from + c.args.count) place (place + c.args.count) _ _ _ (nat_eq c.args.id) _ _ _ _ _ _ c.self.invariant refl
    found moved (omega arith) (omega arith) (omega arith) (omega arith)
    c.one_less-left.ensures.counts c.one_more-there.ensures.counts told c.release.ensures.counts (ap (λ (b : Buffer Event). b.capacity) c.release.ensures.events)
    (end_after_cut _ _ _ _ _ (omega arith) c.release.ensures.events)

pub returns : goal.returns
returns c =
    let (found, above, waited, within) = here (goal.at.returns c).In-Some in
    let told = c.release.ensures.count in
    let is = moved_to _ _ c.in-Some.listed c.args.id c.in-Some.from _ c.in-Some.ensures.place c.set.ensures in
    advances _ _ _ c.args.id c.args.count _ c.self.view_is found
    (cut_held _ _ _ c.self.inside.given _ _ _ _ _ c.self.invariant.lowest (invariant_of-self-2 c).lowest (omega arith) is c.release.ensures.events)
