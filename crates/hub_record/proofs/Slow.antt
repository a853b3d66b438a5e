-- The cursors that aren't slow, and the least of them, after a change of one cursor or of the end.
use Rattle.std.proofs.Common.{ℕ, ◌≡◌, ◌+◌, ◌-◌, ◌<◌, ◌≤◌, ◌⊎◌, Bool, true, false, not, cond, nat_le, List, [], ◌∷◌, ◌++◌, Some, length, count_by, All, refl, sym, ap, ◌∙◌, inl, inr, arith}
use Rattle.std.proofs.lemmas.Bool.{cases_Bool, le-leb, lt-leb, lt-ltb, le-ltb, ltb-true, ltb-false}
use Rattle.std.proofs.lemmas.List.Sums.{sum_by-cons}
use Rattle.std.proofs.lemmas.List.Filters.{length-filter_both}
use Rattle.std.proofs.Math.Bool.{not-not}
use Rattle.std.proofs.lemmas.List.Elements.{All-nil, All-cons, All-head, All-tail}
use Rattle.std.specs.Map.{lookup, set_value, remove_entry, values_of}
use Rattle.hub_record.specs.World.{least, is_slow}
use Rattle.hub_record.specs.Backlog.{active_at, active_in, slow_in, lowest_in}
use Rattle.hub_record.proofs.Active.{one, none, active_at-cons, least-push, least_met}

-- what a cursor at v counts among those from a number on
abbrev one_from : ℕ → ℕ → ℕ
one_from base v = cond (nat_le base v) 1 0

above_one : (base v : ℕ) → base ≤ v → one_from base v ≡ 1
above_one base v above = ap (λ b. cond b 1 0) (le-leb base v above)

below_none : (base v : ℕ) → v < base → one_from base v ≡ 0
below_none base v below = ap (λ b. cond b 1 0) (lt-leb base v below)

-- each cursor is slow or not
pub slow_is_rest : (room end : ℕ) (cs : List (ℕ × ℕ)) → length (active_in room end cs) + length (slow_in room end cs) ≡ length cs
slow_is_rest room end cs = length-filter_both (λ (c : ℕ × ℕ). not (is_slow room end c.1)) (λ c. is_slow room end c.1) (λ c. sym (not-not (is_slow room end c.1))) cs

module _ (room end : ℕ) where
  slow_cons : (c : ℕ × ℕ) (cs : List (ℕ × ℕ)) → is_slow room end c.1 ≡ true → active_in room end (c ∷ cs) ≡ active_in room end cs
  slow_cons c cs t = simp t

  near_cons : (c : ℕ × ℕ) (cs : List (ℕ × ℕ)) → is_slow room end c.1 ≡ false → active_in room end (c ∷ cs) ≡ c ∷ active_in room end cs
  near_cons c cs t = simp t

  -- a cursor that isn't slow comes last
  pub active_in-push : (id v : ℕ) (cs : List (ℕ × ℕ)) → is_slow room end v ≡ false → active_in room end (cs ++ (id, v) ∷ []) ≡ active_in room end cs ++ (id, v) ∷ []
  active_in-push id v [] t = near_cons (id, v) [] t
  active_in-push id v (c ∷ cs) t =
      let ih = active_in-push id v cs t in
      elim (cases_Bool (is_slow room end c.1)) [
        | inl s ↦ slow_cons c (cs ++ (id, v) ∷ []) s ∙ ih ∙ ap (λ z. z ++ (id, v) ∷ []) (sym (slow_cons c cs s))
        | inr s ↦ near_cons c (cs ++ (id, v) ∷ []) s ∙ ap (λ z. c ∷ z) ih ∙ ap (λ z. z ++ (id, v) ∷ []) (sym (near_cons c cs s))
      ]

  pub lowest-push : (id : ℕ) (cs : List (ℕ × ℕ)) → lowest_in room end (cs ++ (id, end) ∷ []) ≡ lowest_in room end cs
  lowest-push id cs = ap (least end) (active_in-push id end cs (le-ltb room (end - end) (omega arith))) ∙ least-push end id (active_in room end cs)

  -- those that aren't slow are at the least of them or above it
  pub active_in-count : (base : ℕ) (cs : List (ℕ × ℕ)) → end ≤ base + room → base ≤ lowest_in room end cs → count_by (λ (c : ℕ × ℕ). nat_le base c.1) cs ≡ length (active_in room end cs)
  active_in-count base [] near low = refl
  active_in-count base (c ∷ cs) near low =
      let one = sum_by-cons (λ (c : ℕ × ℕ). one_from base c.1) c cs in
      elim (cases_Bool (is_slow room end c.1)) [
        | inl t ↦ (let k = ltb-true room (end - c.1) t in
            let l = ap (least end) (slow_cons c cs t) in
            let n = ap length (slow_cons c cs t) in
            let below : c.1 < base = omega arith in
            let out = below_none base c.1 below in
            let ih = active_in-count base cs near (omega arith) in omega (arith, one, out, n, ih))
        | inr t ↦ (let l = ap (least end) (near_cons c cs t) in
            let n = ap length (near_cons c cs t) in
            let above : base ≤ c.1 = omega arith in
            let inside = above_one base c.1 above in
            let ih = active_in-count base cs near (omega arith) in omega (arith, one, inside, n, ih))
      ]

  -- no more is behind the least than there is room for
  pub lowest_near : (cs : List (ℕ × ℕ)) → end ≤ lowest_in room end cs + room
  lowest_near [] = omega arith
  lowest_near (c ∷ cs) =
      let ih = lowest_near cs in
      elim (cases_Bool (is_slow room end c.1)) [
        | inl t ↦ (let l = ap (least end) (slow_cons c cs t) in omega arith)
        | inr t ↦ (let k = ltb-false room (end - c.1) t in let l = ap (least end) (near_cons c cs t) in omega arith)
      ]

  pub lowest_bound_at : (test : ℕ → Bool) (cs : List (ℕ × ℕ)) (v : ℕ) → lookup test cs ≡ Some v → is_slow room end v ≡ false → lowest_in room end cs ≤ v
  lowest_bound_at test [] v e near = cc
  lowest_bound_at test (c ∷ cs) v e near =
      elim (cases_Bool (test c.0)) [
        | inl t ↦ (let k = simp t at e in
            let is : c.1 ≡ v = cc in
            let l = ap (least end) (near_cons c cs (ap (is_slow room end) is ∙ near)) in omega arith)
        | inr t ↦ (let ih = lowest_bound_at test cs v (simp t at e) near in
            elim (cases_Bool (is_slow room end c.1)) [
              | inl s ↦ (let l = ap (least end) (slow_cons c cs s) in omega arith)
              | inr s ↦ (let l = ap (least end) (near_cons c cs s) in omega arith)
            ])
      ]

  pub lowest-set_value : (test : ℕ → Bool) (cs : List (ℕ × ℕ)) (v w : ℕ) → lookup test cs ≡ Some v → is_slow room end v ≡ false → v ≤ w → lowest_in room end cs ≤ lowest_in room end (set_value test cs w)
  lowest-set_value test [] v w e near l = cc
  lowest-set_value test (c ∷ cs) v w e near l =
      elim (cases_Bool (test c.0)) [
        | inl t ↦ (let k = simp t at e in
            let is : c.1 ≡ v = cc in
            let behind = ltb-false room (end - v) near in
            let set : set_value test (c ∷ cs) w ≡ (c.0, w) ∷ cs = simp t in
            let before = ap (least end) (near_cons c cs (ap (is_slow room end) is ∙ near)) in
            let after = ap (lowest_in room end) set ∙ ap (least end) (near_cons (c.0, w) cs (le-ltb room (end - w) (omega arith))) in omega arith)
        | inr t ↦ (let ih = lowest-set_value test cs v w (simp t at e) near l in
            let set : set_value test (c ∷ cs) w ≡ c ∷ set_value test cs w = simp t in
            elim (cases_Bool (is_slow room end c.1)) [
              | inl s ↦ (let before = ap (least end) (slow_cons c cs s) in let after = ap (lowest_in room end) set ∙ ap (least end) (slow_cons c (set_value test cs w) s) in omega arith)
              | inr s ↦ (let before = ap (least end) (near_cons c cs s) in let after = ap (lowest_in room end) set ∙ ap (least end) (near_cons c (set_value test cs w) s) in omega arith)
            ])
      ]

  pub lowest-remove_entry : (test : ℕ → Bool) (cs : List (ℕ × ℕ)) → lowest_in room end cs ≤ lowest_in room end (remove_entry test cs)
  lowest-remove_entry test [] = omega arith
  lowest-remove_entry test (c ∷ cs) =
      let ih = lowest-remove_entry test cs in
      elim (cases_Bool (test c.0)) [
        | inl t ↦ (let gone : remove_entry test (c ∷ cs) ≡ cs = simp t in
            let after = ap (lowest_in room end) gone in
            elim (cases_Bool (is_slow room end c.1)) [
              | inl s ↦ (let before = ap (least end) (slow_cons c cs s) in omega arith)
              | inr s ↦ (let before = ap (least end) (near_cons c cs s) in omega arith)
            ])
        | inr t ↦ (let stays : remove_entry test (c ∷ cs) ≡ c ∷ remove_entry test cs = simp t in
            elim (cases_Bool (is_slow room end c.1)) [
              | inl s ↦ (let before = ap (least end) (slow_cons c cs s) in let after = ap (lowest_in room end) stays ∙ ap (least end) (slow_cons c (remove_entry test cs) s) in omega arith)
              | inr s ↦ (let before = ap (least end) (near_cons c cs s) in let after = ap (lowest_in room end) stays ∙ ap (least end) (near_cons c (remove_entry test cs) s) in omega arith)
            ])
      ]

  -- a slow cursor that is removed
  pub active_in-remove_slow : (test : ℕ → Bool) (cs : List (ℕ × ℕ)) (v : ℕ) → lookup test cs ≡ Some v → is_slow room end v ≡ true → active_in room end (remove_entry test cs) ≡ active_in room end cs
  active_in-remove_slow test [] v e slow = cc
  active_in-remove_slow test (c ∷ cs) v e slow =
      elim (cases_Bool (test c.0)) [
        | inl t ↦ (let k = simp t at e in
            let is : c.1 ≡ v = cc in
            let gone : remove_entry test (c ∷ cs) ≡ cs = simp t in
            ap (active_in room end) gone ∙ sym (slow_cons c cs (ap (is_slow room end) is ∙ slow)))
        | inr t ↦ (let ih = active_in-remove_slow test cs v (simp t at e) slow in
            let stays : remove_entry test (c ∷ cs) ≡ c ∷ remove_entry test cs = simp t in
            elim (cases_Bool (is_slow room end c.1)) [
              | inl s ↦ ap (active_in room end) stays ∙ slow_cons c (remove_entry test cs) s ∙ ih ∙ sym (slow_cons c cs s)
              | inr s ↦ ap (active_in room end) stays ∙ near_cons c (remove_entry test cs) s ∙ ap (λ z. c ∷ z) ih ∙ sym (near_cons c cs s)
            ])
      ]

  -- at a number that isn't slow each cursor is active
  pub active_at-active_in : (n : ℕ) (cs : List (ℕ × ℕ)) → end ≤ n + room → active_at n (active_in room end cs) ≡ active_at n cs
  active_at-active_in n [] near = refl
  active_at-active_in n (c ∷ cs) near =
      let ih = active_at-active_in n cs near in
      elim (cases_Bool (is_slow room end c.1)) [
        | inl s ↦ (let far = ltb-true room (end - c.1) s in
            let here = none n c.1 (λ e. absurd (omega arith)) in
            let some = active_at-cons n c cs in
            let l = ap (active_at n) (slow_cons c cs s) in omega arith)
        | inr s ↦ (let one = active_at-cons n c (active_in room end cs) in
            let all = active_at-cons n c cs in
            let l = ap (active_at n) (near_cons c cs s) in omega arith)
      ]

  pub active_in-behind : (n : ℕ) (cs : List (ℕ × ℕ)) → All (λ v. v ≤ n) (values_of cs) → All (λ v. v ≤ n) (values_of (active_in room end cs))
  active_in-behind n [] h = All-nil (λ v. v ≤ n)
  active_in-behind n (c ∷ cs) h =
      let ih = active_in-behind n cs (All-tail (λ v. v ≤ n) c.1 (values_of cs) h) in
      elim (cases_Bool (is_slow room end c.1)) [
        | inl s ↦ simp s ih
        | inr s ↦ simp s (All-cons (λ v. v ≤ n) c.1 (values_of (active_in room end cs)) (All-head (λ v. v ≤ n) c.1 (values_of cs) h) ih)
      ]

  -- if the least of all cursors isn't slow, none is
  pub none_is_slow : (cs : List (ℕ × ℕ)) → end ≤ least end cs + room → active_in room end cs ≡ cs
  none_is_slow [] h = refl
  none_is_slow (c ∷ cs) h =
      let ih = none_is_slow cs (omega arith) in
      near_cons c cs (le-ltb room (end - c.1) (omega arith)) ∙ ap (λ z. c ∷ z) ih

-- a later end: what was no active cursor is none still, and at most room events are behind the bound
pub lowest_grown : (room b c end end' : ℕ) (cs : List (ℕ × ℕ)) → b ≤ lowest_in room end cs → (c ≤ b) ⊎ (c + room ≤ end') → c ≤ end' → end ≤ end' → c ≤ lowest_in room end' cs
lowest_grown room b c end end' [] low far in_end grows = in_end
lowest_grown room b c end end' (x ∷ cs) low far in_end grows = elim (cases_Bool (is_slow room end' x.1)) [
  | inl s ↦ (let l = ap (least end') (slow_cons room end' x cs s) in
      let less : b ≤ lowest_in room end cs = elim (cases_Bool (is_slow room end x.1)) [
        | inl t ↦ (let k = ap (least end) (slow_cons room end x cs t) in omega arith)
        | inr t ↦ (let k = ap (least end) (near_cons room end x cs t) in omega arith)
      ] in
      let ih = lowest_grown room b c end end' cs less far in_end grows in omega arith)
  | inr s ↦ (let l = ap (least end') (near_cons room end' x cs s) in
      let here = ltb-false room (end' - x.1) s in
      let k = ap (least end) (near_cons room end x cs (le-ltb room (end - x.1) (omega arith))) in
      let ih = lowest_grown room b c end end' cs (omega arith) far in_end grows in
      elim far [ inl below ↦ omega arith | inr above ↦ omega arith ])
]

-- a slow cursor stays slow
pub slow_stay : (room end end' : ℕ) (cs : List (ℕ × ℕ)) → active_in room end cs ≡ [] → end ≤ end' → active_in room end' cs ≡ []
slow_stay room end end' [] none grows = refl
slow_stay room end end' (c ∷ cs) none grows = elim (cases_Bool (is_slow room end c.1)) [
  | inl s ↦ (let far = ltb-true room (end - c.1) s in
      slow_cons room end' c cs (lt-ltb room (end' - c.1) (omega arith)) ∙ slow_stay room end end' cs (sym (slow_cons room end c cs s) ∙ none) grows)
  | inr s ↦ (let some : c ∷ active_in room end cs ≡ [] = sym (near_cons room end c cs s) ∙ none in cc)
]

-- if no cursor is at the least number there is none
pub none_active_at : (base end : ℕ) (cs : List (ℕ × ℕ)) → All (λ v. v ≤ end) (values_of cs) → base ≡ least end cs → active_at base cs ≡ 0 → cs ≡ []
none_active_at base end [] h low z = refl
none_active_at base end (c ∷ cs) h low z =
    let last = All-head (λ v. v ≤ end) c.1 (values_of cs) h in
    let here = active_at-cons base c cs in
    elim (least_met end (c ∷ cs)) [
      | inl at ↦ (let o = one base c.1 (omega arith) in absurd (omega arith))
      | inr some ↦ (let same = ap (λ n. active_at n (c ∷ cs)) low in absurd (omega arith))
    ]
