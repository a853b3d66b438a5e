use Rattle.std.proofs.Common.{ℕ, replicate, ◌+◌, length, drop, ap, ◌∙◌, refl, arith}
use Rattle.std.proofs.lemmas.List.{length-append, length-drop, length-replicate}
use Rattle.circular_buffer.specs.Buffer.{Buffer, buffer}
use Rattle.hub_record.specs.declared.Event.{Event}
use Rattle.hub_record.specs.World.{least, as_events}
use Rattle.hub_record.specs.Backlog.{Held}
use Rattle.hub_record.proofs.Slow.{slow_stay}
use Rattle.hub_record.proofs.Keeps.{kept_still, kept_pushed, kept_more, length_stamped}
use Rattle.hub_record.proofs.Moves.{is_still, fits_if, none_at_base, pushed_all, pushed_held, pushed_still}
use Rattle.hub_record.proofs.backlog.Backlog.push.Goals as goal

pub invariant_of-self : goal.invariant_of-self
invariant_of-self c =
    let end = ap (λ (h : Held). h.end) c.self.view_is in
    let small = c.requires.small in
    kept_still _ _ (c.self.inside.base + length c.self.inside.ring.items) _ (length c.args.letters.now) _ _ _ _ c.self.invariant (none_at_base c.self.inside.counts.items _ c.has_first.ensures c.if-not-has_first.true) refl (omega arith) (omega arith)

pub returns-then-not-has_first : goal.returns-then-not-has_first
returns-then-not-has_first c =
    let still = is_still _ _ _ _ _ _ _ c.self.invariant c.has_first.ensures c.if-not-has_first.true in
    let end = c.self.inside.base + length c.self.inside.ring.items in
    pushed_still _ _ _ _ (length c.args.letters.now) (as_events c.args.who c.args.letters.now) c.self.view_is refl c.self.invariant.lowest still (length_stamped c.args.who c.args.letters.now) refl
    (ap (least (end + length c.args.letters.now)) (slow_stay c.self.inside.ring.capacity end (end + length c.args.letters.now) c.self.inside.cursors still (omega arith)))

pub append-requires-clause-over : goal.append-requires-clause-over
append-requires-clause-over c =
    let k = fits_if _ _ _ _ _ _ (length c.args.letters.now) c.self.view_is c.self.invariant c.has_first.ensures c.if-not-has_first.false c.requires.fits in (
      omega (arith, k, c.saturating_sub-over.ensures, c.len.ensures.len, c.capacity.ensures.capacity),
      omega (arith, k, c.saturating_sub-over.ensures, c.len.ensures.len, c.capacity.ensures.capacity, c.self.invariant.to_end),
    )

pub append-requires-clause-events : goal.append-requires-clause-events
append-requires-clause-events c =
    let k = fits_if _ _ _ _ _ _ (length c.args.letters.now) c.self.view_is c.self.invariant c.has_first.ensures c.if-not-has_first.false c.requires.fits in
    omega (arith, k, c.saturating_sub-over.ensures, c.len.ensures.len, c.capacity.ensures.capacity)

pub append-requires-clause-counts : goal.append-requires-clause-counts
append-requires-clause-counts c =
    let k = fits_if _ _ _ _ _ _ (length c.args.letters.now) c.self.view_is c.self.invariant c.has_first.ensures c.if-not-has_first.false c.requires.fits in
    omega (arith, k, c.saturating_sub-over.ensures, c.len.ensures.len, c.capacity.ensures.capacity, c.self.invariant.to_end, c.self.invariant.fits)

pub invariant_of-self-then-over-eq0 : goal.invariant_of-self-then-over-eq0
invariant_of-self-then-over-eq0 c =
    let k = fits_if _ _ _ _ _ _ (length c.args.letters.now) c.self.view_is c.self.invariant c.has_first.ensures c.if-not-has_first.false c.requires.fits in
    let end = ap (λ (h : Held). h.end) c.self.view_is in
    let over = c.saturating_sub-over.ensures in let long = c.len.ensures.len in let room = c.capacity.ensures.capacity in
    let none = c.if-over-eq0.true in
    let small = c.requires.small in
    let size = length_stamped c.args.who c.args.letters.now in
    let d = length-drop c.saturating_sub-over.result c.self.inside.ring.items in
    let a = length-append (drop c.saturating_sub-over.result c.self.inside.ring.items) (as_events c.args.who c.args.letters.now) in
    let grown = ap (λ (b : Buffer Event). length b.items) c.append.ensures.events in
    kept_more c.self.inside.ring.capacity c.self.inside.base (c.self.inside.base + length c.self.inside.ring.items) _ (length c.self.inside.ring.items) (length c.args.letters.now) c.saturating_sub-over.result _ _ _
    c.self.inside.counts c.append.new.counts _ c.self.invariant refl k (omega arith) none c.append.ensures.counts c.has_first.ensures c.if-not-has_first.false (ap (λ (b : Buffer Event). b.capacity) c.append.ensures.events) (omega arith) (omega arith)

pub returns-then-over-eq0 : goal.returns-then-over-eq0
returns-then-over-eq0 c =
    pushed_all _ _ c.self.inside.base c.saturating_sub-over.result (as_events c.args.who c.args.letters.now) c.append.new.ring c.self.view_is refl c.self.invariant.lowest c.if-over-eq0.true
    c.append.ensures.events (invariant_of-self-then-over-eq0 c).lowest

pub invariant_of-self-2 : goal.invariant_of-self-2
invariant_of-self-2 c =
    let k = fits_if _ _ _ _ _ _ (length c.args.letters.now) c.self.view_is c.self.invariant c.has_first.ensures c.if-not-has_first.false c.requires.fits in
    let end = ap (λ (h : Held). h.end) c.self.view_is in
    let over = c.saturating_sub-over.ensures in let long = c.len.ensures.len in let room = c.capacity.ensures.capacity in
    let told = c.release.ensures.count in
    let small = c.requires.small in
    let size = length_stamped c.args.who c.args.letters.now in
    let d = length-drop c.saturating_sub-over.result c.self.inside.ring.items in
    let a = length-append (drop c.saturating_sub-over.result c.self.inside.ring.items) (as_events c.args.who c.args.letters.now) in
    let grown = ap (λ (b : Buffer Event). length b.items) c.append.ensures.events in
    let rest = length-drop c.release.result c.append.new.ring.items in
    let last = ap (λ (b : Buffer Event). length b.items) c.release.ensures.events in
    let capacity = ap (λ (b : Buffer Event). b.capacity) c.release.ensures.events ∙ ap (λ (b : Buffer Event). b.capacity) c.append.ensures.events in
    kept_pushed c.self.inside.ring.capacity c.self.inside.base (c.self.inside.base + length c.self.inside.ring.items) _ (length c.self.inside.ring.items) (length c.args.letters.now) c.saturating_sub-over.result c.release.result _ _
    c.self.inside.counts (buffer (drop c.saturating_sub-over.result c.self.inside.counts.items) c.self.inside.counts.capacity) c.append.new.counts c.release.new.counts _ c.self.invariant refl k
    (omega arith) refl c.append.ensures.counts (omega arith) c.release.ensures.counts capacity (omega arith) (omega arith)

pub returns : goal.returns
returns c =
    let k = fits_if _ _ _ _ _ _ (length c.args.letters.now) c.self.view_is c.self.invariant c.has_first.ensures c.if-not-has_first.false c.requires.fits in
    let over = c.saturating_sub-over.ensures in let long = c.len.ensures.len in let room = c.capacity.ensures.capacity in
    let told = c.release.ensures.count in
    pushed_held _ _ c.self.inside.base c.saturating_sub-over.result c.release.result (as_events c.args.who c.args.letters.now) (buffer (drop c.saturating_sub-over.result c.self.inside.ring.items) c.self.inside.ring.capacity) c.append.new.ring c.release.new.ring c.self.view_is refl c.self.invariant.lowest (omega arith)
    refl c.append.ensures.events c.release.ensures.events (omega arith) (invariant_of-self-2 c).lowest

pub release-requires-clause-places : goal.release-requires-clause-places
release-requires-clause-places c =
    let k = fits_if _ _ _ _ _ _ (length c.args.letters.now) c.self.view_is c.self.invariant c.has_first.ensures c.if-not-has_first.false c.requires.fits in
    let over = c.saturating_sub-over.ensures in let long = c.len.ensures.len in let room = c.capacity.ensures.capacity in
    let to = c.self.invariant.to_end in
    let size = length_stamped c.args.who c.args.letters.now in
    let d = length-drop c.saturating_sub-over.result c.self.inside.ring.items in
    let a = length-append (drop c.saturating_sub-over.result c.self.inside.ring.items) (as_events c.args.who c.args.letters.now) in
    let grown = ap (λ (b : Buffer Event). length b.items) c.append.ensures.events in
    let e = length-drop c.saturating_sub-over.result c.self.inside.counts.items in
    let b = length-append (drop c.saturating_sub-over.result c.self.inside.counts.items) (replicate (length c.args.letters.now) 0) in
    let z = length-replicate {A = ℕ} (length c.args.letters.now) 0 in
    let places = ap (λ (b : Buffer ℕ). length b.items) c.append.ensures.counts in
    omega arith
