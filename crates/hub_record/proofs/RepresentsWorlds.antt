-- What follows from a record that represents a world.
use Rattle.std.proofs.Common.{ℕ, ◌≡◌, ◌+◌, ◌-◌, ◌≤◌, Bool, not, if◌then◌else◌, List, [], length, drop, Option, Some, None, nat_eq, refl, sym, ap, subst, ◌∙◌, arith}
use Rattle.std.proofs.lemmas.List.{length-drop, drop-drop, drop_all}
use Rattle.std.proofs.lemmas.List.Filters.{length-filter_both}
use Rattle.std.proofs.Math.Bool.{not-not}
use Rattle.std.specs.Option.{option_map}
use Rattle.std.specs.Map.{lookup}
use Rattle.hub_record.specs.declared.limits.Limits.{Limits}
use Rattle.hub_record.specs.World.{World, Subscription, IsWorld, current, current_from, active, evicted, is_evicted, is_slow, subscription_in, pending_for, least, base, load}
use Rattle.hub_record.specs.Backlog.{Held, active_in, slow_in, pending, pending_if, lowest, lowest_in, with_cursors}
use Rattle.hub_record.specs.Kept.{Kept, Represents}
use Rattle.hub_record.proofs.Cursors.{lookup_current}
use Rattle.hub_record.proofs.Slow.{slow_is_rest}
use Rattle.hub_record.proofs.Policies.{active_is, base_is_lowest, evicted_is_slow}

-- what a record holds, with this much room; and a record that holds something else
abbrev pub held_of : Kept → ℕ → Held
held_of r room = record { room = room; end = r.end; events = r.events; given = r.given; cursors = r.cursors }

abbrev pub with_held : Kept → Held → Kept
with_held r h = record r { end = h.end; events = h.events; given = h.given; cursors = h.cursors }

-- ---- the cursor of an id and the subscription

pub found_some : (r : Kept) (w : World) (id v : ℕ) → Represents r w → lookup (nat_eq id) r.cursors ≡ Some v → (s : Subscription) × (subscription_in w id ≡ Some s) × (s.next ≡ v)
found_some r w id v s e = by (subscription_in w id) refl
  where
    seen : option_map (λ (s : Subscription). s.next) (subscription_in w id) ≡ Some v
    seen = sym (lookup_current 1 w.subscriptions id) ∙ ap (lookup (nat_eq id)) (sym s.cursors) ∙ e

    by : (o : Option Subscription) → subscription_in w id ≡ o → (s : Subscription) × (subscription_in w id ≡ Some s) × (s.next ≡ v)
    by None is = let k = seen in let j = ap (option_map (λ (s : Subscription). s.next)) is in cc
    by (Some s) is = let k = seen in let j = ap (option_map (λ (s : Subscription). s.next)) is in (s, is, cc)

pub found_none : (r : Kept) (w : World) (id : ℕ) → Represents r w → lookup (nat_eq id) r.cursors ≡ None → subscription_in w id ≡ None
found_none r w id s e = by (subscription_in w id) refl
  where
    seen : option_map (λ (s : Subscription). s.next) (subscription_in w id) ≡ None
    seen = sym (lookup_current 1 w.subscriptions id) ∙ ap (lookup (nat_eq id)) (sym s.cursors) ∙ e

    by : (o : Option Subscription) → subscription_in w id ≡ o → subscription_in w id ≡ None
    by None is = is
    by (Some s) is = let k = seen in let j = ap (option_map (λ (s : Subscription). s.next)) is in cc

-- ---- the base

pub base_is : (r : Kept) (w : World) → Represents r w → lowest_in r.limits.waiting r.end r.cursors ≡ base w
base_is r w s = (λ i. lowest_in (s.limits i).waiting (s.end i) (s.cursors i)) ∙ sym (base_is_lowest w s.world)

pub lowest_is : (r : Kept) (w : World) (room : ℕ) → Represents r w → room ≡ r.limits.waiting → lowest (held_of r room) ≡ base w
lowest_is r w room s at = ap (λ n. lowest_in n r.end r.cursors) at ∙ base_is r w s

pub active_is_cursors : (r : Kept) (w : World) (room : ℕ) → Represents r w → room ≡ r.limits.waiting → length (active_in room r.end r.cursors) ≡ length (active w)
active_is_cursors r w room s at = (λ i. length (active_in ((at ∙ ap (λ (l : Limits). l.waiting) s.limits) i) (s.end i) (s.cursors i))) ∙ sym (ap length (active_is w s.world))

-- the current subscriptions are the active and the evicted ones
evicted_is_rest : (w : World) → length (active w) + length (evicted w) ≡ length (current w)
evicted_is_rest w = length-filter_both (λ (c : ℕ × ℕ). not (is_evicted w c.1)) (λ c. is_evicted w c.1) (λ c. sym (not-not (is_evicted w c.1))) (current w)

pub evicted_is_cursors : (r : Kept) (w : World) (room : ℕ) → Represents r w → room ≡ r.limits.waiting → length (slow_in room r.end r.cursors) ≡ length (evicted w)
evicted_is_cursors r w room s at =
    let slow = slow_is_rest room r.end r.cursors in
    let some = active_is_cursors r w room s at in
    let all = ap length s.cursors in
    let rest = evicted_is_rest w in
    omega arith

pub load_is : (r : Kept) (w : World) (room : ℕ) → Represents r w → room ≡ r.limits.waiting → r.end - lowest (held_of r room) ≡ load w
load_is r w room s at = (λ i. s.end i - lowest_is r w room s at i)

-- what is pending behind the cursor of an id
pub waiting_is : (r : Kept) (w : World) (id room : ℕ) → Represents r w → room ≡ r.limits.waiting → pending (held_of r room) id ≡ pending_for w (subscription_in w id)
waiting_is r w id room s at = by (subscription_in w id) refl
  where
    most : room ≡ w.limits.waiting
    most = at ∙ ap (λ (l : Limits). l.waiting) s.limits

    next : lookup (nat_eq id) r.cursors ≡ option_map (λ (s : Subscription). s.next) (subscription_in w id)
    next = ap (lookup (nat_eq id)) s.cursors ∙ lookup_current 1 w.subscriptions id

    by : (o : Option Subscription) → subscription_in w id ≡ o → pending (held_of r room) id ≡ pending_for w (subscription_in w id)
    by None is = ap (pending_if (held_of r room)) (next ∙ ap (option_map (λ (s : Subscription). s.next)) is) ∙ sym (ap (pending_for w) is)
    by (Some x) is =
        let found : lookup (nat_eq id) (current w) ≡ Some x.next = lookup_current 1 w.subscriptions id ∙ ap (option_map (λ (s : Subscription). s.next)) is in
        ap (pending_if (held_of r room)) (next ∙ ap (option_map (λ (s : Subscription). s.next)) is)
        ∙ (λ i. if is_slow (most i) (s.end i) x.next then None else Some (s.end i - x.next))
        ∙ ap (λ (b : Bool). if b then None else Some (length w.events - x.next)) (sym (evicted_is_slow w id x.next s.world found))
        ∙ sym (ap (pending_for w) is)

-- what is kept from the base on, from a later number on
pub later : (w : World) (n : ℕ) → base w ≤ n → drop (n - base w) (drop (base w) w.events) ≡ drop n w.events
later w n l = drop-drop (n - base w) (base w) w.events ∙ ap (λ n. drop n w.events) (omega arith)

-- what is kept is the load
pub kept_bound : (r : Kept) (w : World) → Represents r w → length r.events ≤ w.limits.waiting
kept_bound r w s =
    let k = ap length s.events in
    let d = length-drop (base w) w.events in
    let l = s.world.loaded in
    omega arith

pub kept_none : (r : Kept) (w : World) → Represents r w → active w ≡ [] → r.events ≡ []
kept_none r w s none = s.events ∙ ap (λ cs. drop (least (length w.events) cs) w.events) none ∙ drop_all (length w.events) w.events (omega arith)

-- ---- subscriptions that change, with their cursors

-- what is held has changed with the subscriptions
pub represents_with : (r : Kept) (h : Held) (w : World) (subs : List Subscription) → Represents r w → IsWorld (record w { subscriptions = subs })
    → h.end ≡ r.end → h.events ≡ drop (base (record w { subscriptions = subs })) w.events → h.given ≡ length subs → h.cursors ≡ current_from 1 subs
    → Represents (with_held r h) (record w { subscriptions = subs })
represents_with r h w subs s i end events given cursors = record {
  world = i;
  kind = s.kind;
  limits = s.limits;
  closed = s.closed;
  stage = s.stage;
  flags = s.flags;
  last = s.last;
  end = end ∙ s.end;
  events = events;
  given = given;
  cursors = cursors;
}

pub recut_represents : (r : Kept) (h : Held) (w : World) (subs : List Subscription) (cs : List (ℕ × ℕ)) (room : ℕ) → Represents r w → room ≡ r.limits.waiting → IsWorld (record w { subscriptions = subs }) → length subs ≡ length w.subscriptions → cs ≡ current_from 1 subs → base w ≤ base (record w { subscriptions = subs }) → h ≡ with_cursors (held_of r room) cs → Represents (with_held r h) (record w { subscriptions = subs })
recut_represents r h w subs cs room s at i long is l e =
    let now : lowest_in room r.end cs ≡ base (record w { subscriptions = subs }) = (λ j. lowest_in ((at ∙ ap (λ (l : Limits). l.waiting) s.limits) j) (s.end j) (is j)) ∙ sym (base_is_lowest (record w { subscriptions = subs }) i) in
    let was = lowest_is r w room s at in
    represents_with r h w subs s i (ap (λ (h : Held). h.end) e)
    (ap (λ (h : Held). h.events) e ∙ (λ j. drop (now j - was j) (s.events j)) ∙ later w (base (record w { subscriptions = subs })) l)
    (ap (λ (h : Held). h.given) e ∙ s.given ∙ sym long) (ap (λ (h : Held). h.cursors) e ∙ is)

-- nothing changed
pub still : (r : Kept) (h : Held) (w : World) (room : ℕ) → h ≡ held_of r room → Represents r w → Represents (with_held r h) w
still r h w room e s = subst (λ z. Represents (with_held r z) w) (sym e) s
