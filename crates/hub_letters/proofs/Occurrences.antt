-- What a flag says of a word is what the last of the letters says that bear on it.
use Rattle.std.proofs.Common.{ℕ, ◌≡◌, ◌==◌, ◌↔◌, Bool, true, false, List, [], ◌∷◌, ◌++◌, Option, Some, None, map, not, ◌&&◌, ◌||◌, cond, refl, sym, ap, subst, ◌∙◌, inl, inr}
use Rattle.std.specs.Prelude.{All, codes}
use Rattle.std.proofs.lemmas.Bool.{cases_Bool, eqb-true}
use Rattle.std.proofs.lemmas.List.Elements.{All-nil, All-cons, All-head, All-tail}
use Rattle.hub_letters.specs.declared.want.Want.{Want}
use Rattle.hub_letters.specs.declared.want.Want.TheVariants.{Down, Finished}
use Rattle.hub_letters.specs.Wants.{is_hopeless, NeedsUp}
use Rattle.hub_letters.specs.Marks.{Mark, Began, Ran, Reported, Died, Finished, GaveUp, Exited, Other, mark, later, last_among, is_hope, is_gave_up, is_among, LastIs}
use Rattle.hub_letters.specs.Flags.{up_by, settled_by, flags_of}

-- the letters that have a mark of their own
abbrev named : List ℕ
named = codes "suUdDOx"

-- `p` picks the letters that are among `all`, and `by` says of the last of them whether it is among `these`. In this
-- order: what is said of none, the other letters, which ones are picked, what is said of each, and that `all` are named
-- and `these` among them. Each of it can be computed.
abbrev Tests : (Mark → Bool) → (Option Mark → Bool) → List ℕ → List ℕ → Type 0
Tests p by all these = ◌≡◌ {A = Bool × Bool × List Bool × List Bool × List Bool × List Bool}
    (by None, p Other, map (λ c. p (mark c)) named, map (λ c. by (Some (mark c))) all, map (is_among named) all, map (is_among all) these)
    (false, false, map (is_among all) named, map (is_among these) all, map (λ c. true) all, map (λ c. true) these)

-- what is the same of each of some letters is the same of one among them
same_among : (f g : ℕ → Bool) (letters : List ℕ) (c : ℕ) → map f letters ≡ map g letters → is_among letters c ≡ true → f c ≡ g c
same_among f g [] c same h = cc
same_among f g (x ∷ letters) c same h = elim (cases_Bool (c == x)) [
  | inl e ↦ (let is : c ≡ x = eqb-true c x e in let first : f x ≡ g x = cc in subst (λ z. f z ≡ g z) (sym is) first)
  | inr e ↦ same_among f g letters c (cc) (simp e at h)
]

-- a letter that is none of the named ones has the mark of the others
other_mark : (s u U d D O x : Bool) → (s || (u || (U || (d || (D || (O || (x || false))))))) ≡ false
    → cond s Began (cond u Ran (cond U Reported (cond d Died (cond D Finished (cond O GaveUp (cond x Exited Other)))))) ≡ Other
other_mark false false false false false false false e = refl
other_mark s u U d D O x e = absurd (let z = e in cc)

module _ (p : Mark → Bool) (by : Option Mark → Bool) (all these : List ℕ) (t : Tests p by all these) where
  tested : (c : ℕ) → p (mark c) ≡ is_among all c
  tested c = elim (cases_Bool (is_among named c)) [
    | inl n ↦ same_among (λ c. p (mark c)) (is_among all) named c (ap (λ f. f.2) t) n
    | inr n ↦ ap p (other_mark _ _ _ _ _ _ _ n) ∙ ap (λ f. f.1) t ∙ sym (elim (cases_Bool (is_among all c)) [
      | inl a ↦ absurd (let z = same_among (is_among named) (λ c. true) all c (ap (λ f. f.4) t) a in cc)
      | inr a ↦ a
    ])
  ]

  said : (c : ℕ) → p (mark c) ≡ true → by (Some (mark c)) ≡ is_among these c
  said c at = same_among (λ c. by (Some (mark c))) (is_among these) all c (ap (λ f. f.3) t) (sym (tested c) ∙ at)

  none_last : (word : List ℕ) → last_among p (map mark word) ≡ None → All (λ c. is_among all c ≡ false) word
  none_last [] e = All-nil (λ c. is_among all c ≡ false)
  none_last (c ∷ word) e = of (last_among p (map mark word)) (p (mark c)) (none_last word) refl refl
    where
      of : (o : Option Mark) (b : Bool) → (last_among p (map mark word) ≡ None → All (λ c. is_among all c ≡ false) word) → last_among p (map mark word) ≡ o → p (mark c) ≡ b → All (λ c. is_among all c ≡ false) (c ∷ word)
      of (Some m) b rest is at = absurd (let z : later (Some m) (p (mark c)) (mark c) ≡ None = sym (ap (λ o. later o (p (mark c)) (mark c)) is) ∙ e in cc)
      of None true rest is at = absurd (let z : later None true (mark c) ≡ None = sym (λ i. later (is i) (at i) (mark c)) ∙ e in cc)
      of None false rest is at = All-cons (λ c. is_among all c ≡ false) c word (sym (tested c) ∙ at) (rest is)

  last_is : (word : List ℕ) → by (last_among p (map mark word)) ≡ true → LastIs all these word
  last_is [] e = absurd (let z = sym (ap (λ f. f.0) t) ∙ e in cc)
  last_is (c ∷ word) e = of (last_among p (map mark word)) (p (mark c)) (last_is word) refl refl
    where
      of : (o : Option Mark) (b : Bool) → (by (last_among p (map mark word)) ≡ true → LastIs all these word) → last_among p (map mark word) ≡ o → p (mark c) ≡ b → LastIs all these (c ∷ word)
      of (Some m) b onward is at =
          let same : by (last_among p (map mark word)) ≡ true = ap by is ∙ sym (ap (λ o. by (later o (p (mark c)) (mark c))) is) ∙ e in
          let rest = onward same in
          record { before = c ∷ rest.before; letter = rest.letter; after = rest.after; split = ap (λ z. c ∷ z) rest.split; is_one = rest.is_one; is_last = rest.is_last }
      of None true onward is at =
          let here : by (Some (mark c)) ≡ true = sym (λ i. by (later (is i) (at i) (mark c))) ∙ e in
          record { before = []; letter = c; after = word; split = refl; is_one = sym (said c at) ∙ here; is_last = none_last word is }
      of None false onward is at = absurd (let z = sym (ap (λ f. f.0) t) ∙ sym (λ i. by (later (is i) (at i) (mark c))) ∙ e in cc)

  none_after : (word : List ℕ) → All (λ c. is_among all c ≡ false) word → last_among p (map mark word) ≡ None
  none_after [] h = refl
  none_after (c ∷ word) h =
      let rest = none_after word (All-tail (λ c. is_among all c ≡ false) c word h) in
      let here = tested c ∙ All-head (λ c. is_among all c ≡ false) c word h in
      (λ i. later (rest i) (here i) (mark c))

  last_at : (before after : List ℕ) (c : ℕ) → p (mark c) ≡ true → last_among p (map mark after) ≡ None → last_among p (map mark (before ++ c ∷ after)) ≡ Some (mark c)
  last_at [] after c here none = (λ i. later (none i) (here i) (mark c))
  last_at (b ∷ before) after c here none = ap (λ o. later o (p (mark b)) (mark b)) (last_at before after c here none)

  is_by_last : (word : List ℕ) → LastIs all these word → by (last_among p (map mark word)) ≡ true
  is_by_last word l =
      let here = tested l.letter ∙ same_among (is_among all) (λ c. true) these l.letter (ap (λ f. f.5) t) l.is_one in
      ap (λ z. by (last_among p (map mark z))) l.split
      ∙ ap by (last_at l.before l.after l.letter here (none_after l.after l.is_last))
      ∙ said l.letter here ∙ l.is_one

  -- what is said is true just if the last letter says it
  pub by_last : (word : List ℕ) → (by (last_among p (map mark word)) ≡ true) ↔ LastIs all these word
  by_last word = (last_is word, is_by_last word)

-- ---- flags together

abbrev pub is_up_and_settled : Option Mark → Bool
is_up_and_settled m = up_by m && settled_by m

abbrev pub is_down_and_settled : Option Mark → Bool
is_down_and_settled m = not (up_by m) && settled_by m

-- what isn't true isn't so
pub not_true : (b : Bool) (A : Type 0) → (b ≡ true) ↔ A → (not b ≡ true) ↔ (A → ⊥)
not_true true A same = (λ e a. absurd (let z = e in cc), λ none. absurd (none (same.0 refl)))
not_true false A same = (λ e a. absurd (let z = same.1 a in cc), λ none. refl)

-- only a want that needs the service to be up is hopeless
pub hopeless_by_last : (want : Want) (word : List ℕ)
    → (is_hopeless want (flags_of word) ≡ true) ↔ (NeedsUp want × LastIs (codes "Osu") (codes "O") word)
hopeless_by_last Down word = (λ e. absurd (let z = e in cc), λ l. absurd (l.0.0 refl))
hopeless_by_last Finished word = (λ e. absurd (let z = e in cc), λ l. absurd (l.0.1 refl))
hopeless_by_last want word = let h = by_last is_hope is_gave_up _ _ refl word in (λ e. ((λ z. cc, λ z. cc), h.0 e), λ l. h.1 l.1)
