-- What a backlog keeps after a cursor moves or is gone, and what each call then shows.
use Rattle.std.proofs.Common.{ℕ, ◌≡◌, ◌↔◌, ◌+◌, ◌-◌, ◌<◌, ◌≤◌, ◌⊎◌, Bool, true, false, IsTrue, nat_lt, nat_le, if◌then◌else◌, List, [], ◌∷◌, ◌++◌, Some, None, Ok, min, length, take, drop, get_or, All, nat_eq, refl, sym, ap, subst, ◌∙◌, inl, inr, arith}
use Rattle.std.proofs.lemmas.Bool.{cases_Bool, lt-ltb, ltb-true, ltb-false, leb-true, le-leb}
use Rattle.std.proofs.lemmas.List.{nil_from_length, drop-drop, drop-append-le, drop_all, length-append, length-drop, length-set}
use Rattle.std.proofs.lemmas.Map.Views.{All-values-set_value, All-map-remove_entry}
use Rattle.std.proofs.lemmas.Map.{keys-set_value, length-set_value}
use Rattle.std.specs.Option.{is_some, IfSome}
use Rattle.std.specs.Map.{lookup, set_value, remove_entry, keys_of, values_of}
use Rattle.circular_buffer.specs.Buffer.{Buffer, buffer}
use Rattle.hub_record.specs.declared.limits.Policy.{Policy}
use Rattle.hub_record.specs.declared.limits.Policy.TheVariants.{Hold, Evict}
use Rattle.hub_record.specs.declared.Event.{Event}
use Rattle.hub_record.specs.World.{least, is_slow}
use Rattle.hub_record.specs.Backlog.{Held, IsKept, IsStill, IsSlow, HasRoomFor, room_for, pending, pending_if, ArePending, Copies, ShowsBy, RemovesBy, next_of, lowest, lowest_in, active_in, first_place, with_one_more, with_one_less, with_new_id, with_events, with_cursors}
use Rattle.hub_record.specs.declared.backlog.Found.TheVariants.{Lost}
use Rattle.hub_record.proofs.Active.{none}
use Rattle.hub_record.proofs.Slow.{active_in-remove_slow, lowest-set_value, lowest-remove_entry}
use Rattle.hub_record.proofs.Counted.{Counts, counts_remove_entry, counts_remove_below}
use Rattle.hub_record.proofs.Keeps.{kept_near, near_above, slow_below, cursor_within, length-remove_entry-le, kept_released, none_near, some_near, counts_moved}

-- ---- room for more

pub none_at_base : (counts : List ℕ) (some : Bool) → some ≡ nat_lt 0 (get_or counts 0 0) → some ≡ false → get_or counts 0 0 ≡ 0
none_at_base counts some is not = let none = ltb-false 0 (get_or counts 0 0) (sym is ∙ not) in omega arith

-- whether a cursor is at the base tells whether each is slow
pub is_still : (room base end given : ℕ) (counts : Buffer ℕ) (cs : List (ℕ × ℕ)) (some : Bool) → IsKept room base counts end given cs → some ≡ nat_lt 0 (get_or counts.items 0 0) → some ≡ false → active_in room end cs ≡ []
is_still room base end given counts cs some k is not = none_near room base end given counts cs k (none_at_base counts.items some is not)

pub not_still : (room base end given : ℕ) (counts : Buffer ℕ) (cs : List (ℕ × ℕ)) (some : Bool) → IsKept room base counts end given cs → some ≡ nat_lt 0 (get_or counts.items 0 0) → some ≡ true → active_in room end cs ≡ [] → ⊥
not_still room base end given counts cs some k is so = some_near room base end given counts cs k (ltb-true 0 (get_or counts.items 0 0) (sym is ∙ so))

pub room_told : (inside now : Held) (policy is : Policy) (more : ℕ) → inside ≡ now → policy ≡ is → (IsStill inside → ⊥) → IsTrue (nat_le (room_for is inside more) inside.room) ↔ HasRoomFor policy now more
room_told inside now policy is more same at none =
    subst (λ (z : Policy × Held). IsTrue (nat_le (room_for is inside more) inside.room) ↔ HasRoomFor z.0 z.1 more) (λ i. (sym at i, same i))
    ((λ t. inr (leb-true (room_for is inside more) inside.room t)), λ h. elim h [ inl still ↦ absurd (none still) | inr fits ↦ le-leb (room_for is inside more) inside.room fits ])

-- what fits behind what is kept has room by either policy
pub fits_behind : (policy : Policy) (inside now : Held) (more : ℕ) → inside ≡ now → length inside.events + more ≤ inside.room → HasRoomFor policy now more
fits_behind Hold inside now more same fits = subst (λ h. HasRoomFor Hold h more) same (inr fits)
fits_behind Evict inside now more same fits = subst (λ h. HasRoomFor Evict h more) same (inr (omega arith))

-- a message that may be pushed fits by itself, if a cursor is at the base
pub fits_if : (inside now : Held) (base given : ℕ) (counts : Buffer ℕ) (some : Bool) (more : ℕ) → inside ≡ now → IsKept inside.room base counts inside.end given inside.cursors → some ≡ nat_lt 0 (get_or counts.items 0 0) → some ≡ true → IsStill now ⊎ (more ≤ now.room)
    → more ≤ inside.room
fits_if inside now base given counts some more same k is so (inl still) = absurd (not_still inside.room base inside.end given counts inside.cursors some k is so (subst IsStill (sym same) still))
fits_if inside now base given counts some more same k is so (inr fits) = subst (λ (h : Held). more ≤ h.room) (sym same) fits

-- a cursor moves on
pub kept_set_value : (room base end given size v w p q r room' end' : ℕ) (test : ℕ → Bool) (counts less more now : Buffer ℕ) (cs after : List (ℕ × ℕ)) → IsKept room base counts end given cs → end ≡ base + size
    → lookup test cs ≡ Some v → after ≡ set_value test cs w → v ≡ base + p → w ≡ base + q → v ≤ w → w ≤ end
    → less ≡ buffer (with_one_less counts.items p) counts.capacity → more ≡ buffer (with_one_more less.items q) less.capacity
    → r ≡ min (first_place more.items) size → now ≡ buffer (drop r more.items) more.capacity → room' ≡ room → end' ≡ end
    → IsKept room' (base + r) now end' given after
kept_set_value room base end given size v w p q r room' end' test counts less more now cs after k at e is from into on inside is_less is_more told is_now same_room same =
    let to = k.to_end in
    let cap = k.fits in
    let low = k.lowest in
    let most = k.few in
    let near = near_above room base end given v counts cs k (omega arith) in
    let above = lowest-set_value room end test cs v w e near on in
    let l = length-set counts.items p (get_or counts.items p 0 - 1) in
    let m = length-set less.items q (get_or less.items q 0 + 1) in
    let ll = ap (λ (b : Buffer ℕ). length b.items) is_less in
    let mm = ap (λ (b : Buffer ℕ). length b.items) is_more in
    let lc = ap (λ (b : Buffer ℕ). b.capacity) is_less in
    let mc = ap (λ (b : Buffer ℕ). b.capacity) is_more in
    let same_lowest = ap (lowest_in room end) is in
    let n = ap length is in
    let o = length-set_value test cs w in
    kept_released room base end given size r room' end' more now after at
    (counts_moved room base end given v w p q test counts less more cs after k e is from into (omega arith) is_less is_more)
    (omega arith) (omega arith) told is_now same_room same (omega arith) (kept_near room base end given counts cs k) k.small
    (subst (λ z. All (λ n. n ≤ end) (values_of z)) (sym is) (All-values-set_value test (λ n. n ≤ end) cs w k.behind inside))
    (subst (All (λ id. id ≤ given)) (sym (ap keys_of is ∙ keys-set_value test cs w)) k.known)
    (omega arith)

-- a cursor moves on, and one stays at the base
pub kept_stays : (room base end given size v w p q : ℕ) (test : ℕ → Bool) (counts less more : Buffer ℕ) (cs after : List (ℕ × ℕ)) → IsKept room base counts end given cs → end ≡ base + size
    → lookup test cs ≡ Some v → after ≡ set_value test cs w → v ≡ base + p → w ≡ base + q → v ≤ w → w ≤ end
    → less ≡ buffer (with_one_less counts.items p) counts.capacity → more ≡ buffer (with_one_more less.items q) less.capacity → 0 ≡ first_place more.items
    → IsKept room base more end given after
kept_stays room base end given size v w p q test counts less more cs after k at e is from into on inside is_less is_more first =
    let same : base + 0 ≡ base = omega arith in
    subst (λ b. IsKept room b more end given after) same
    (kept_set_value room base end given size v w p q 0 room end test counts less more more cs after k at e is from into on inside is_less is_more (omega arith) refl refl refl)

-- a cursor is removed
pub kept_remove_entry : (room base end given size v p r room' end' : ℕ) (test : ℕ → Bool) (counts less now : Buffer ℕ) (cs after : List (ℕ × ℕ)) → IsKept room base counts end given cs → end ≡ base + size
    → lookup test cs ≡ Some v → after ≡ remove_entry test cs → v ≡ base + p
    → less ≡ buffer (with_one_less counts.items p) counts.capacity
    → r ≡ min (first_place less.items) size → now ≡ buffer (drop r less.items) less.capacity → room' ≡ room → end' ≡ end
    → IsKept room' (base + r) now end' given after
kept_remove_entry room base end given size v p r room' end' test counts less now cs after k at e is from is_less told is_now same_room same =
    let to = k.to_end in
    let cap = k.fits in
    let low = k.lowest in
    let most = k.few in
    let above = lowest-remove_entry room end test cs in
    let l = length-set counts.items p (get_or counts.items p 0 - 1) in
    let ll = ap (λ (b : Buffer ℕ). length b.items) is_less in
    let lc = ap (λ (b : Buffer ℕ). b.capacity) is_less in
    let same_lowest = ap (lowest_in room end) is in
    let n = ap length is in
    let o = length-remove_entry-le test cs in
    kept_released room base end given size r room' end' less now after at
    (subst (λ (z : List ℕ × List (ℕ × ℕ)). Counts base z.0 z.1) (λ i. ((sym is_less i).items, sym is i)) (counts_remove_entry base v p test counts.items cs k.counted e from))
    (omega arith) (omega arith) told is_now same_room same (omega arith) (kept_near room base end given counts cs k) k.small
    (subst (λ z. All (λ n. n ≤ end) (values_of z)) (sym is) (All-map-remove_entry test (λ (c : ℕ × ℕ). c.1) (λ n. n ≤ end) cs k.behind))
    (subst (λ z. All (λ id. id ≤ given) (keys_of z)) (sym is) (All-map-remove_entry test (λ (c : ℕ × ℕ). c.0) (λ id. id ≤ given) cs k.known))
    (omega arith)

-- a slow cursor is removed
pub kept_remove_slow : (room base end given v : ℕ) (test : ℕ → Bool) (counts : Buffer ℕ) (cs after : List (ℕ × ℕ)) → IsKept room base counts end given cs → lookup test cs ≡ Some v → after ≡ remove_entry test cs → v < base → IsKept room base counts end given after
kept_remove_slow room base end given v test counts cs after k e is below =
    let slow = lt-ltb room (end - v) (slow_below room base end given v test counts cs k e below) in
    let most = k.few in
    let n = ap length is in
    let o = length-remove_entry-le test cs in
    record {
      lowest = k.lowest ∙ ap (least end) (sym (active_in-remove_slow room end test cs v e slow)) ∙ ap (lowest_in room end) (sym is);
      counted = subst (Counts base counts.items) (sym is) (counts_remove_below base v test counts.items cs k.counted e below);
      to_end = k.to_end;
      fits = k.fits;
      behind = subst (λ z. All (λ n. n ≤ end) (values_of z)) (sym is) (All-map-remove_entry test (λ (c : ℕ × ℕ). c.1) (λ n. n ≤ end) cs k.behind);
      known = subst (λ z. All (λ id. id ≤ given) (keys_of z)) (sym is) (All-map-remove_entry test (λ (c : ℕ × ℕ). c.0) (λ id. id ≤ given) cs k.known);
      few = omega arith;
      small = k.small;
    }

pub end_after_cut : (base r room : ℕ) (items : List Event) (ring : Buffer Event) → r ≤ length items → ring ≡ buffer (drop r items) room → base + r + length ring.items ≡ base + length items
end_after_cut base r room items ring l cut = let k = length-drop r items in let n = ap (λ (b : Buffer Event). length b.items) cut in omega arith

-- what is held if the ring was cut at a new base
pub cut_held : (base r room given : ℕ) (items : List Event) (cs cs' entries : List (ℕ × ℕ)) (ring : Buffer Event) → base ≡ lowest_in room (base + length items) cs → base + r ≡ lowest_in ring.capacity (base + r + length ring.items) entries → r ≤ length items → entries ≡ cs' → ring ≡ buffer (drop r items) room
    → record { room = ring.capacity; end = base + r + length ring.items; events = ring.items; given = given; cursors = entries } ≡ with_cursors (record { room = room; end = base + length items; events = items; given = given; cursors = cs }) cs'
cut_held base r room given items cs cs' entries ring low now inside is cut =
    let end = end_after_cut base r room items ring inside cut in
    let at : base + r ≡ lowest_in room (base + length items) cs' = now ∙ (λ i. lowest_in (cut i).capacity (end i) (is i)) in
    let apart : r ≡ lowest_in room (base + length items) cs' - lowest_in room (base + length items) cs = omega arith in
    let events : ring.items ≡ drop (lowest_in room (base + length items) cs' - lowest_in room (base + length items) cs) items = ap (λ (b : Buffer Event). b.items) cut ∙ ap (λ n. drop n items) apart in
    (λ i. record { room = (cut i).capacity; end = end i; events = events i; given = given; cursors = is i })

-- nothing is cut, if the base stays
pub still_held : (base room given : ℕ) (items : List Event) (cs cs' entries : List (ℕ × ℕ)) → base ≡ lowest_in room (base + length items) cs → base ≡ lowest_in room (base + length items) entries → entries ≡ cs'
    → record { room = room; end = base + length items; events = items; given = given; cursors = entries } ≡ with_cursors (record { room = room; end = base + length items; events = items; given = given; cursors = cs }) cs'
still_held base room given items cs cs' entries low now is =
    let at : base ≡ lowest_in room (base + length items) cs' = now ∙ ap (lowest_in room (base + length items)) is in
    let apart : 0 ≡ lowest_in room (base + length items) cs' - lowest_in room (base + length items) cs = omega arith in
    (λ i. record { room = room; end = base + length items; events = drop (apart i) items; given = given; cursors = is i })

-- a new id has its cursor
pub was_at : (inside now : Held) (cursors : List (ℕ × ℕ)) → inside ≡ now → cursors ≡ inside.cursors ++ (inside.given + 1, inside.end) ∷ [] → record inside { given = inside.given + 1; cursors = cursors } ≡ with_new_id now
was_at inside now cursors is at = ap (λ cs. record inside { given = inside.given + 1; cursors = cs }) at ∙ ap with_new_id is

-- ---- push

-- what is held after more events, of which r more than those over the room are released
pub pushed_held : (inside now : Held) (base over r : ℕ) (more : List Event) (cut grown ring : Buffer Event) → inside ≡ now → inside.end ≡ base + length inside.events → base ≡ lowest inside → over ≤ length inside.events
    → cut ≡ buffer (drop over inside.events) inside.room → grown ≡ buffer (cut.items ++ more) cut.capacity → ring ≡ buffer (drop r grown.items) grown.capacity → r ≤ length grown.items
    → base + (over + r) ≡ lowest_in ring.capacity (base + (over + r) + length ring.items) inside.cursors
    → record { room = ring.capacity; end = base + (over + r) + length ring.items; events = ring.items; given = inside.given; cursors = inside.cursors } ≡ with_events now more
pushed_held inside now base over r more cut grown ring is at low inside_over is_cut is_grown is_ring within moved =
    let l = length-drop over inside.events in
    let m = length-append (drop over inside.events) more in
    let items : grown.items ≡ drop over inside.events ++ more = ap (λ (b : Buffer Event). b.items) is_grown ∙ ap (λ (b : Buffer Event). b.items ++ more) is_cut in
    let capacity : ring.capacity ≡ inside.room = ap (λ (b : Buffer Event). b.capacity) is_ring ∙ ap (λ (b : Buffer Event). b.capacity) is_grown ∙ ap (λ (b : Buffer Event). b.capacity) is_cut in
    let long = ap length items in
    let cut_long = length-drop r grown.items in
    let ring_long = ap (λ (b : Buffer Event). length b.items) is_ring in
    let end : base + (over + r) + length ring.items ≡ inside.end + length more = omega arith in
    let to : base + (over + r) ≡ lowest_in inside.room (inside.end + length more) inside.cursors = moved ∙ (λ i. lowest_in (capacity i) (end i) inside.cursors) in
    let apart : over + r ≡ lowest_in inside.room (inside.end + length more) inside.cursors - lowest inside = omega arith in
    let events : ring.items ≡ drop (lowest_in inside.room (inside.end + length more) inside.cursors - lowest inside) (inside.events ++ more) =
    ap (λ (b : Buffer Event). b.items) is_ring ∙ ap (drop r) (items ∙ sym (drop-append-le over inside.events more inside_over)) ∙ drop-drop r over (inside.events ++ more) ∙ ap (λ n. drop n (inside.events ++ more)) apart in
    (λ i. record { room = capacity i; end = end i; events = events i; given = inside.given; cursors = inside.cursors }) ∙ ap (λ h. with_events h more) is

-- nothing gives way
pub pushed_all : (inside now : Held) (base over : ℕ) (more : List Event) (ring : Buffer Event) → inside ≡ now → inside.end ≡ base + length inside.events → base ≡ lowest inside → over ≡ 0
    → ring ≡ buffer (drop over inside.events ++ more) inside.room → base ≡ lowest_in ring.capacity (base + length ring.items) inside.cursors
    → record { room = ring.capacity; end = base + length ring.items; events = ring.items; given = inside.given; cursors = inside.cursors } ≡ with_events now more
pushed_all inside now base over more ring is at low none is_ring moved =
    let same : base + (over + 0) ≡ base = omega arith in
    (λ i. record { room = ring.capacity; end = sym same i + length ring.items; events = ring.items; given = inside.given; cursors = inside.cursors })
    ∙ pushed_held inside now base over 0 more (buffer (drop over inside.events) inside.room) ring ring is at low (omega arith) refl is_ring refl (omega arith)
    (same ∙ moved ∙ (λ i. lowest_in ring.capacity (sym same i + length ring.items) inside.cursors))

-- nothing is held
pub pushed_still : (inside now : Held) (base base' more : ℕ) (added : List Event) → inside ≡ now → inside.end ≡ base + length inside.events → base ≡ lowest inside → IsStill inside → length added ≡ more → base' ≡ base + more
    → lowest_in inside.room (inside.end + more) inside.cursors ≡ inside.end + more
    → record inside { end = base' + length inside.events } ≡ with_events now added
pushed_still inside now base base' more added is at low still long is_base moved =
    let none = ap (least inside.end) still in
    let empty = drop_all (length inside.events) inside.events (omega arith) in
    let end : base' + length inside.events ≡ inside.end + length added = omega arith in
    let nothing : inside.events ≡ [] = nil_from_length inside.events (omega arith) in
    let to = ap (λ n. lowest_in inside.room (inside.end + n) inside.cursors) long in
    let events : inside.events ≡ drop (lowest_in inside.room (inside.end + length added) inside.cursors - lowest inside) (inside.events ++ added) =
    nothing ∙ sym (drop_all (lowest_in inside.room (inside.end + length added) inside.cursors - lowest inside) (inside.events ++ added) (let l = length-append inside.events added in omega arith)) in
    (λ i. record inside { end = end i; events = events i }) ∙ ap (λ h. with_events h added) is

-- ---- what is pending

pub pending_slow : (inside now : Held) (id next : ℕ) → inside ≡ now → lookup (nat_eq id) inside.cursors ≡ Some next → inside.room < inside.end - next → None ≡ pending now id
pending_slow inside now id next is found slow =
    sym (ap (pending_if inside) found ∙ ap (λ (b : Bool). if b then None else Some (inside.end - next)) (lt-ltb inside.room (inside.end - next) slow)) ∙ ap (λ h. pending h id) is

pub pending_near : (inside now : Held) (id next n : ℕ) → inside ≡ now → lookup (nat_eq id) inside.cursors ≡ Some next → is_slow inside.room inside.end next ≡ false → n ≡ now.end → Some (n - next) ≡ pending now id
pending_near inside now id next n is found near end =
    ap (λ n. Some (n - next)) (end ∙ ap (λ (h : Held). h.end) (sym is))
    ∙ sym (ap (pending_if inside) found ∙ ap (λ (b : Bool). if b then None else Some (inside.end - next)) near) ∙ ap (λ h. pending h id) is

-- ---- what is behind a cursor

pub shows_lost : (before now : Held) (id next : ℕ) (slice : List Event) → before ≡ now → lookup (nat_eq id) before.cursors ≡ Some next → before.room < before.end - next → ShowsBy now id slice slice (Ok Lost)
shows_lost before now id next slice is found slow = (subst (λ h. IsSlow h id) is (next, found, slow), refl)

pub copies : (before now : Held) (id next n base given : ℕ) (counts : Buffer ℕ) (slice filled : List Event) → before ≡ now → lookup (nat_eq id) before.cursors ≡ Some next → IsKept before.room base counts before.end given before.cursors → base ≤ next → (next ≡ now.end → ⊥) → before.end ≡ base + length before.events → n ≡ min (length slice) (length before.events - (next - base)) → filled ≡ take n (drop (next - base) before.events) ++ drop n slice → Copies now id n slice filled
copies before now id next n base given counts slice filled is found k above apart end count copied =
    let inside = cursor_within before.room base before.end given next (nat_eq id) counts before.cursors k found in
    let near = kept_near before.room base before.end given counts before.cursors k in
    let same = ap (λ (h : Held). h.end) is in
    subst (λ h. Copies h id n slice filled) is (record {
      pending = record {
        next = next;
        was_at = found;
        waited = omega arith;
        fits = omega arith;
        within = omega arith;
      };
      count = omega arith;
      copied = copied ∙ ap (λ b. take n (drop (next - b) before.events) ++ drop n slice) k.lowest;
    })

-- ---- a cursor that moves on

-- where the cursor is that moves on
pub pending_at : (before now : Held) (id n next base given : ℕ) (counts : Buffer ℕ) → before ≡ now → IsKept before.room base counts before.end given before.cursors → ArePending now.room now.end now.cursors id n → lookup (nat_eq id) before.cursors ≡ Some next → (base ≤ next) × (next < before.end) × (next + n ≤ before.end)
pending_at before now id n next base given counts is k pending found =
    let p = subst (λ h. ArePending h.room h.end h.cursors id n) (sym is) pending in
    let was_at = p.was_at in
    let at : p.next ≡ next = cc in
    let waited = p.waited in
    let fits = p.fits in
    let within = p.within in
    let above : base ≤ next = elim (cases_Bool (nat_lt next base)) [
      | inl t ↦ (let slow = slow_below before.room base before.end given next (nat_eq id) counts before.cursors k found (ltb-true next base t) in omega arith)
      | inr f ↦ ltb-false next base f
    ] in
    (above, omega arith, omega arith)

pub advances : (before now after : Held) (id n next : ℕ) → before ≡ now → lookup (nat_eq id) before.cursors ≡ Some next → after ≡ with_cursors before (set_value (nat_eq id) before.cursors (next + n)) → IfSome (next_of now id) (λ next. after ≡ with_cursors now (set_value (nat_eq id) now.cursors (next + n)))
advances before now after id n next is found moved =
    subst (λ h. IfSome (next_of h id) (λ next. after ≡ with_cursors h (set_value (nat_eq id) h.cursors (next + n)))) is
    (subst (λ o. IfSome o (λ next. after ≡ with_cursors before (set_value (nat_eq id) before.cursors (next + n)))) (sym found) moved)

-- ---- remove

pub removes : (before now after : Held) (id next : ℕ) → before ≡ now → lookup (nat_eq id) before.cursors ≡ Some next → after ≡ with_cursors before (remove_entry (nat_eq id) before.cursors) → RemovesBy now after id (Ok tt)
removes before now after id next is found moved = subst (λ h. RemovesBy h after id (Ok tt)) is (ap is_some found, moved)

-- a slow cursor held nothing
pub removes_slow : (before now : Held) (id next : ℕ) (cursors : List (ℕ × ℕ)) → before ≡ now → lookup (nat_eq id) before.cursors ≡ Some next → before.room < before.end - next → cursors ≡ remove_entry (nat_eq id) before.cursors → RemovesBy now (record before { cursors = cursors }) id (Ok tt)
removes_slow before now id next cursors is found slow gone =
    let same = ap (least before.end) (active_in-remove_slow before.room before.end (nat_eq id) before.cursors next found (lt-ltb before.room (before.end - next) slow)) in
    let none : 0 ≡ lowest_in before.room before.end (remove_entry (nat_eq id) before.cursors) - lowest before = omega arith in
    removes before now (record before { cursors = cursors }) id next is found (λ i. record before { cursors = gone i; events = drop (none i) before.events })
