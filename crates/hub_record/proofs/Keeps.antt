-- What a backlog keeps to find the least cursor, after each change.
use Rattle.std.proofs.Common.{ℕ, zero, suc, ◌≡◌, ◌+◌, ◌-◌, ◌<◌, ◌≤◌, ◌⊎◌, Bool, true, false, IsTrue, nat_le, nat_lt, count_by, List, [], ◌∷◌, ◌++◌, Some, min, length, drop, replicate, get_or, All, refl, sym, ap, subst, ◌∙◌, inl, inr, arith}
use Rattle.std.proofs.lemmas.Bool.{cases_Bool, cases_eq, cases_lt, le-ltb, ltb-true}
use Rattle.std.proofs.lemmas.List.{get_or_past, length-append, length-drop, length-replicate, length-set, length_push, map-append}
use Rattle.std.proofs.lemmas.List.Elements.{All-push, All-weaker}
use Rattle.std.proofs.lemmas.Map.Views.{IfSome-lookup_from_All}
use Rattle.std.specs.Bool.{then_some}
use Rattle.std.specs.Option.{IfSome}
use Rattle.std.specs.Map.{lookup, set_value, remove_entry, keys_of, values_of}
use Rattle.circular_buffer.specs.Buffer.{Buffer, buffer}
use Rattle.hub_record.specs.declared.limits.TheConstants.{MOST_EVENTS, MOST_PASSES}
use Rattle.hub_record.specs.World.{least, is_slow, as_events}
use Rattle.hub_record.specs.Backlog.{IsKept, lowest_in, active_in, active_at, first_place, with_one_more, with_one_less}
use Rattle.hub_record.proofs.Active.{one, none, active_at-le-length}
use Rattle.hub_record.proofs.Slow.{active_in-behind, active_in-count, active_at-active_in, lowest_near, lowest-push, lowest_bound_at, lowest_grown, slow_stay, none_active_at}
use Rattle.hub_record.proofs.Counted.{Counts, get_or-one_less, get_or-one_more, some_at_place, counts_lengthen, counts_push, counts_set_value, counts_active, counts_drop, base_told, first_at_base, first_stays, first_of_all}

-- a new id is above all others
pub new_id_above : (room base end given id : ℕ) (counts : Buffer ℕ) (cs : List (ℕ × ℕ)) → IsKept room base counts end given cs → id ≡ given + 1 → All (λ k. k < id) (keys_of cs)
new_id_above room base end given id counts cs k is = All-weaker (λ k. k ≤ given) (λ k. k < id) (λ k l. omega arith) (keys_of cs) k.known

lookup_bound : (end v : ℕ) (test : ℕ → Bool) (cs : List (ℕ × ℕ)) → All (λ n. n ≤ end) (values_of cs) → lookup test cs ≡ Some v → v ≤ end
lookup_bound end v test cs h e = subst (λ o. IfSome o (λ n. n ≤ end)) e (IfSome-lookup_from_All (λ n. n ≤ end) test cs h)

-- no more is behind the base than there is room for
pub kept_near : (room base end given : ℕ) (counts : Buffer ℕ) (cs : List (ℕ × ℕ)) → IsKept room base counts end given cs → end ≤ base + room
kept_near room base end given counts cs k = let low = k.lowest in let near = lowest_near room end cs in omega arith

-- a cursor at the base or above it isn't slow, and one below it is
pub near_above : (room base end given v : ℕ) (counts : Buffer ℕ) (cs : List (ℕ × ℕ)) → IsKept room base counts end given cs → base ≤ v → is_slow room end v ≡ false
near_above room base end given v counts cs k above = let near = kept_near room base end given counts cs k in le-ltb room (end - v) (omega arith)

pub slow_below : (room base end given v : ℕ) (test : ℕ → Bool) (counts : Buffer ℕ) (cs : List (ℕ × ℕ)) → IsKept room base counts end given cs → lookup test cs ≡ Some v → v < base → room < end - v
slow_below room base end given v test counts cs k e below =
    let low = k.lowest in
    elim (cases_lt room (end - v)) [
      | inl slow ↦ slow
      | inr near ↦ (let bound = lowest_bound_at room end test cs v e (le-ltb room (end - v) near) in absurd (omega arith))
    ]

-- the cursors that aren't slow are those at the base or above it
pub active_counted : (room base end given : ℕ) (counts : Buffer ℕ) (cs : List (ℕ × ℕ)) → IsKept room base counts end given cs
    → count_by (λ (c : ℕ × ℕ). nat_le base c.1) cs ≡ length (active_in room end cs)
active_counted room base end given counts cs k = let low = k.lowest in active_in-count room end base cs (kept_near room base end given counts cs k) (omega arith)

pub cursor_within : (room base end given v : ℕ) (test : ℕ → Bool) (counts : Buffer ℕ) (cs : List (ℕ × ℕ)) → IsKept room base counts end given cs → lookup test cs ≡ Some v → v ≤ end
cursor_within room base end given v test counts cs k e = lookup_bound end v test cs k.behind e

-- no count is large, once a cursor has left its place
pub few_at_place : (room base end given v p q : ℕ) (test : ℕ → Bool) (counts less : Buffer ℕ) (cs : List (ℕ × ℕ)) → IsKept room base counts end given cs → lookup test cs ≡ Some v → v ≡ base + p → less ≡ buffer (with_one_less counts.items p) counts.capacity → get_or less.items q 0 ≤ MOST_PASSES
few_at_place room base end given v p q test counts less cs k e from is =
    let same = ap (λ (b : Buffer ℕ). get_or b.items q 0) is in
    let l = get_or-one_less counts.items p q (some_at_place base v p test counts.items cs k.counted e from) in
    let here = k.counted q in
    let most = active_at-le-length (base + q) cs in
    let few = k.few in
    omega arith

pub length-remove_entry-le : (test : ℕ → Bool) (cs : List (ℕ × ℕ)) → length (remove_entry test cs) ≤ length cs
length-remove_entry-le test [] = omega arith
length-remove_entry-le test (c ∷ cs) =
    let ih = length-remove_entry-le test cs in
    elim (cases_Bool (test c.0)) [ inl t ↦ simp t (omega arith) | inr t ↦ simp t (omega arith) ]

-- a new id's cursor is at the end, which the last place counts
pub kept_active : (room base end given size : ℕ) (counts more : Buffer ℕ) (cs after : List (ℕ × ℕ)) → IsKept room base counts end given cs → end ≡ base + size → length cs < MOST_PASSES → after ≡ cs ++ (given + 1, end) ∷ [] → more ≡ buffer (with_one_more counts.items size) counts.capacity → IsKept room base more end (given + 1) after
kept_active room base end given size counts more cs after k at few is counted =
    let to = k.to_end in
    let fits = k.fits in
    let long = length-set counts.items size (get_or counts.items size 0 + 1) in
    let size' = ap (λ (b : Buffer ℕ). length b.items) counted in
    let capacity = ap (λ (b : Buffer ℕ). b.capacity) counted in
    let n = length_push cs (given + 1, end) in
    let m = ap length is in
    record {
      lowest = k.lowest ∙ sym (lowest-push room end (given + 1) cs) ∙ ap (lowest_in room end) (sym is);
      counted = subst (λ (z : List ℕ × List (ℕ × ℕ)). Counts base z.0 z.1) (λ i. ((sym counted i).items, sym is i)) (counts_push base (given + 1) end size counts.items cs k.counted at (omega arith));
      to_end = omega arith;
      fits = omega arith;
      behind = subst (λ z. All (λ n. n ≤ end) (values_of z)) (sym is)
          (subst (All (λ n. n ≤ end)) (sym (map-append (λ (c : ℕ × ℕ). c.1) cs ((given + 1, end) ∷ []))) (All-push (λ n. n ≤ end) (values_of cs) end k.behind (omega arith)));
      known = subst (λ z. All (λ id. id ≤ given + 1) (keys_of z)) (sym is)
          (subst (All (λ id. id ≤ given + 1)) (sym (map-append (λ (c : ℕ × ℕ). c.0) cs ((given + 1, end) ∷ [])))
          (All-push (λ id. id ≤ given + 1) (keys_of cs) (given + 1) (All-weaker (λ id. id ≤ given) (λ id. id ≤ given + 1) (λ id l. omega arith) (keys_of cs) k.known) (omega arith)));
      few = omega arith;
      small = k.small;
    }

-- the counts are those of the cursors, and the base moves on as they tell
pub kept_released : (room base end given size r room' end' : ℕ) (counts now : Buffer ℕ) (cs : List (ℕ × ℕ)) → end ≡ base + size
    → Counts base counts.items cs → length counts.items ≡ size + 1 → counts.capacity ≡ room + 1
    → r ≡ min (first_place counts.items) size → now ≡ buffer (drop r counts.items) counts.capacity → room' ≡ room → end' ≡ end
    → base ≤ lowest_in room end cs → end ≤ base + room → end ≤ MOST_EVENTS
    → All (λ n. n ≤ end) (values_of cs) → All (λ id. id ≤ given) (keys_of cs) → length cs ≤ MOST_PASSES
    → IsKept room' (base + r) now end' given cs
kept_released room base end given size r room' end' counts now cs at counted long capacity told is same_room same low near small behind known few =
    let l = length-drop r counts.items in
    let items = ap (λ (b : Buffer ℕ). length b.items) is in
    let cap = ap (λ (b : Buffer ℕ). b.capacity) is in
    record {
      lowest = base_told base end size r counts.items (active_in room end cs) low (counts_active room base end counts.items cs near counted) at long told ∙ (λ i. lowest_in (sym same_room i) (sym same i) cs);
      counted = subst (λ (b : Buffer ℕ). Counts (base + r) b.items cs) (sym is) (counts_drop base r counts.items cs counted);
      to_end = omega arith;
      fits = omega arith;
      behind = subst (λ e. All (λ n. n ≤ e) (values_of cs)) (sym same) behind;
      known = known;
      few = few;
      small = omega arith;
    }

-- more events: what is over the room gives way to them, and no cursor is at the new places
pub kept_pushed : (room base end given size more over r room' end' : ℕ) (counts cut longer now : Buffer ℕ) (cs : List (ℕ × ℕ)) → IsKept room base counts end given cs → end ≡ base + size → more ≤ room
    → over ≡ size + more - room → cut ≡ buffer (drop over counts.items) counts.capacity → longer ≡ buffer (cut.items ++ replicate more 0) cut.capacity
    → r ≡ min (first_place longer.items) (size - over + more) → now ≡ buffer (drop r longer.items) longer.capacity → room' ≡ room → end' ≡ end + more → end' ≤ MOST_EVENTS
    → IsKept room' (base + (over + r)) now end' given cs
kept_pushed room base end given size more over r room' end' counts cut longer now cs k at fits is_over is_cut is_longer told is_now same_room same small =
    let to = k.to_end in
    let cap = k.fits in
    let low = k.lowest in
    let near = kept_near room base end given counts cs k in
    let c = length-drop over counts.items in
    let d = ap (λ (b : Buffer ℕ). length b.items) is_cut in
    let l = length-append cut.items (replicate more 0) in
    let z = length-replicate {A = ℕ} more 0 in
    let m = ap (λ (b : Buffer ℕ). length b.items) is_longer in
    let cut_capacity = ap (λ (b : Buffer ℕ). b.capacity) is_cut in
    let capacity = ap (λ (b : Buffer ℕ). b.capacity) is_longer in
    let counted : Counts (base + over) longer.items cs = subst (λ (b : Buffer ℕ). Counts (base + over) b.items cs) (sym is_longer)
    (counts_lengthen (base + over) more cut.items cs (subst (λ (b : Buffer ℕ). Counts (base + over) b.items cs) (sym is_cut) (counts_drop base over counts.items cs k.counted))) in
    let far : (base + over ≤ base) ⊎ (base + over + room ≤ end') = elim (cases_lt room (size + more)) [ inl much ↦ inr (omega arith) | inr all ↦ inl (omega arith) ] in
    let bound = lowest_grown room base (base + over) end end' cs (omega arith) far (omega arith) (omega arith) in
    let sum : base + over + r ≡ base + (over + r) = omega arith in
    subst (λ b. IsKept room' b now end' given cs) sum
    (kept_released room (base + over) end' given (size - over + more) r room' end' longer now cs (omega arith) counted (omega arith) (omega arith) told is_now same_room refl
    bound (omega arith) small (All-weaker (λ n. n ≤ end) (λ n. n ≤ end') (λ n h. omega arith) (values_of cs) k.behind) k.known k.few)

-- more events, and nothing gives way
pub kept_more : (room base end given size more over room' end' : ℕ) (some : Bool) (counts longer : Buffer ℕ) (cs : List (ℕ × ℕ)) → IsKept room base counts end given cs → end ≡ base + size → more ≤ room
    → over ≡ size + more - room → over ≡ 0 → longer ≡ buffer (drop over counts.items ++ replicate more 0) counts.capacity → some ≡ nat_lt 0 (get_or counts.items 0 0) → some ≡ true
    → room' ≡ room → end' ≡ end + more → end' ≤ MOST_EVENTS → IsKept room' base longer end' given cs
kept_more room base end given size more over room' end' some counts longer cs k at fits is_over none is_longer is so same_room same small =
    let stays = first_stays over more counts.items longer.items none (ap (λ (b : Buffer ℕ). b.items) is_longer) (ltb-true 0 (get_or counts.items 0 0) (sym is ∙ so)) in
    let same_base : base + (over + 0) ≡ base = omega arith in
    subst (λ b. IsKept room' b longer end' given cs) same_base
    (kept_pushed room base end given size more over 0 room' end' counts (buffer (drop over counts.items) counts.capacity) longer longer cs k at fits is_over refl is_longer (omega arith) refl same_room same small)

-- if no cursor is at the base, each is slow
pub none_near : (room base end given : ℕ) (counts : Buffer ℕ) (cs : List (ℕ × ℕ)) → IsKept room base counts end given cs → get_or counts.items 0 0 ≡ 0 → active_in room end cs ≡ []
none_near room base end given counts cs k none =
    let near = kept_near room base end given counts cs k in
    let here = k.counted 0 in
    let same : active_at (base + 0) cs ≡ active_at base cs = ap (λ n. active_at n cs) (omega arith) in
    let all = active_at-active_in room end base cs near in
    none_active_at base end (active_in room end cs) (active_in-behind room end end cs k.behind) k.lowest (omega arith)

-- and if one is, not each is
pub some_near : (room base end given : ℕ) (counts : Buffer ℕ) (cs : List (ℕ × ℕ)) → IsKept room base counts end given cs → 0 < get_or counts.items 0 0 → active_in room end cs ≡ [] → ⊥
some_near room base end given counts cs k some none =
    let near = kept_near room base end given counts cs k in
    let here = k.counted 0 in
    let same : active_at (base + 0) cs ≡ active_at base cs = ap (λ n. active_at n cs) (omega arith) in
    let all = active_at-active_in room end base cs near in
    let zero = ap (active_at base) none in
    absurd (omega arith)

-- so a cursor is at the base, if events are pending behind one that isn't slow
some_at_base : (room base end given v : ℕ) (counts : Buffer ℕ) (cs : List (ℕ × ℕ)) → IsKept room base counts end given cs → base ≤ v → v < end → 0 < get_or counts.items 0 0
some_at_base room base end given v counts cs k above waits = elim (cases_lt 0 (get_or counts.items 0 0)) [
  | inl some ↦ some
  | inr none ↦ (let low = k.lowest in
      let last = ap (least end) (none_near room base end given counts cs k (omega arith)) in absurd (omega arith))
]

-- and one stays there, if the one that moves on was elsewhere or wasn't alone
pub one_stays : (room base end given v p q left : ℕ) (test : ℕ → Bool) (counts less more : Buffer ℕ) (cs : List (ℕ × ℕ)) → IsKept room base counts end given cs → lookup test cs ≡ Some v → v ≡ base + p → v < end → q < length less.items
    → less ≡ buffer (with_one_less counts.items p) counts.capacity → more ≡ buffer (with_one_more less.items q) less.capacity → left ≡ get_or counts.items p 0 - 1 → (0 < p) ⊎ (0 < left) → 0 ≡ first_place more.items
one_stays room base end given v p q left test counts less more cs k e from waits inside is_less is_more is_left some =
    let here = some_at_base room base end given v counts cs k (omega arith) waits in
    let before = get_or-one_less counts.items p 0 (some_at_place base v p test counts.items cs k.counted e from) in
    let after = get_or-one_more less.items q 0 inside in
    let l = ap (λ (b : Buffer ℕ). get_or b.items 0 0) is_less in
    let m = ap (λ (b : Buffer ℕ). get_or b.items 0 0) is_more in
    first_at_base more.items (elim (cases_eq p 0) [
      | inl at ↦ (let o = one 0 p at in
          let same = ap (λ n. get_or counts.items n 0) at in
          elim some [ inl past ↦ absurd (omega arith) | inr others ↦ omega arith ])
      | inr not ↦ (let z = none 0 p not in omega arith)
    ])

-- the counts after a cursor has moved on
pub counts_moved : (room base end given v w p q : ℕ) (test : ℕ → Bool) (counts less more : Buffer ℕ) (cs after : List (ℕ × ℕ)) → IsKept room base counts end given cs → lookup test cs ≡ Some v → after ≡ set_value test cs w
    → v ≡ base + p → w ≡ base + q → q < length counts.items → less ≡ buffer (with_one_less counts.items p) counts.capacity → more ≡ buffer (with_one_more less.items q) less.capacity → Counts base more.items after
counts_moved room base end given v w p q test counts less more cs after k e is from into inside is_less is_more =
    let items : more.items ≡ with_one_more (with_one_less counts.items p) q = ap (λ (b : Buffer ℕ). b.items) is_more ∙ ap (λ (b : Buffer ℕ). with_one_more b.items q) is_less in
    subst (λ (z : List ℕ × List (ℕ × ℕ)). Counts base z.0 z.1) (λ i. (sym items i, sym is i)) (counts_set_value base v w p q test counts.items cs k.counted e from into inside)

pub IfSome-then_some : (b : Bool) (n : ℕ) (P : ℕ → Type 0) → (IsTrue b → P n) → IfSome (then_some b n) P
IfSome-then_some true n P h = h refl
IfSome-then_some false n P h = tt

-- they tell the first place with a cursor, if all are there now
pub first_known : (room base end given v w p q there : ℕ) (test : ℕ → Bool) (counts less more : Buffer ℕ) (cs after : List (ℕ × ℕ)) → IsKept room base counts end given cs → lookup test cs ≡ Some v → after ≡ set_value test cs w
    → v ≡ base + p → w ≡ base + q → q < length counts.items → less ≡ buffer (with_one_less counts.items p) counts.capacity → more ≡ buffer (with_one_more less.items q) less.capacity
    → there ≡ get_or less.items q 0 + 1 → there ≡ length after → q ≡ first_place more.items
first_known room base end given v w p q there test counts less more cs after k e is from into inside is_less is_more is_there all =
    let l = ap (λ (b : Buffer ℕ). length b.items) is_less in
    let long = length-set counts.items p (get_or counts.items p 0 - 1) in
    let m = ap (λ (b : Buffer ℕ). get_or b.items q 0) is_more in
    let now = get_or-one_more less.items q q (omega arith) in
    let o = one q q refl in
    first_of_all base q more.items after (counts_moved room base end given v w p q test counts less more cs after k e is from into inside is_less is_more) (omega arith) (omega arith)

nothing_at : (counts : List ℕ) (n : ℕ) → length counts ≡ 1 → get_or counts 0 0 ≡ 0 → get_or counts n 0 ≡ 0
nothing_at counts zero one none = none
nothing_at counts (suc n) one none = get_or_past counts (suc n) 0 (omega arith)

-- a later end, if each cursor is slow
pub kept_still : (room base end given more base' end' : ℕ) (counts : Buffer ℕ) (cs : List (ℕ × ℕ)) → IsKept room base counts end given cs → get_or counts.items 0 0 ≡ 0 → base' ≡ base + more → end' ≡ end + more → end' ≤ MOST_EVENTS → IsKept room base' counts end' given cs
kept_still room base end given more base' end' counts cs k none is_base is_end small =
    let to = k.to_end in
    let low = k.lowest in
    let still = none_near room base end given counts cs k none in
    let at_end = ap (least end) still in
    let later = ap (least end') (slow_stay room end end' cs still (omega arith)) in
    let nothing = nothing_at counts.items in
    record {
      lowest = omega arith;
      counted = λ n.
          let here = nothing n (omega arith) none in
          let there = nothing (more + n) (omega arith) none in
          let at = k.counted (more + n) in
          let same : active_at (base + (more + n)) cs ≡ active_at (base' + n) cs = ap (λ m. active_at m cs) (omega arith) in
          omega arith;
      to_end = omega arith;
      fits = k.fits;
      behind = All-weaker (λ n. n ≤ end) (λ n. n ≤ end') (λ n h. omega arith) (values_of cs) k.behind;
      known = k.known;
      few = k.few;
      small = small;
    }

pub length_stamped : (who : ℕ) (message : List ℕ) → length (as_events who message) ≡ length message
length_stamped who [] = refl
length_stamped who (l ∷ ls) = ap suc (length_stamped who ls)
