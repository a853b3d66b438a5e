-- Lists of events: prefixes, slices, and the letters of one publisher.
use Rattle.std.proofs.Common.{◌≡◌, ◌≢◌, ◌⊎◌, ℕ, zero, suc, ◌+◌, ◌-◌, ◌≤◌, List, [], ◌∷◌, ◌++◌, length, take, drop, sym, refl, ap, ◌∙◌, subst, inl, inr, append_assoc, append-nil, arith, length-append, eq-eqb, ne_eqb, length-drop}
use Rattle.std.proofs.lemmas.List.{take-append-le, drop-append-le, map-append, nil_from_length}
use lib.Seq.{take-add, drop-drop}
use mathlib.Core.Option.{some, some-injective, some-ne-none}
use lib.ListN.{get_elem?}
use Rattle.hub_record.specs.declared.Event.{Event}
use Rattle.hub_record.specs.World.{letters, as_events}
use Rattle.hub_record.specs.Runs.{by}
use Rattle.hub_fifodir.specs.Events.{StartsWith, slice}

pub starts_self : (l : List Event) → StartsWith l l
starts_self l = ([], sym (append-nil l))

pub starts_more : (l x s : List Event) → StartsWith l s → StartsWith (l ++ x) s
starts_more l x s p = (p.0 ++ x, ap (λ (z : List Event). z ++ x) p.1 ∙ append_assoc s p.0 x)

pub starts_through : (l m s : List Event) → StartsWith l m → StartsWith m s → StartsWith l s
starts_through l m s p q = subst (λ (z : List Event). StartsWith z s) (sym p.1) (starts_more m p.0 s q)

pub starts_length : (l s : List Event) → StartsWith l s → length s ≤ length l
starts_length l s p = omega (arith, ap length p.1, length-append s p.0)

-- a prefix as long as the whole is the whole
pub starts_whole : (s t : List Event) → StartsWith t s → length s ≡ length t → t ≡ s
starts_whole s t p e = let none : p.0 ≡ [] = nil_from_length p.0 (omega (arith, ap length p.1, length-append s p.0)) in p.1 ∙ ap (λ (l : List Event). s ++ l) none ∙ append-nil s

pub slice_longer : (m n : ℕ) (s l : List Event) → StartsWith l s → m ≤ n → n ≤ length s → slice m n l ≡ slice m n s
slice_longer m n s l p le lt =
    let k : ℕ = n - m in
    let a : m ≤ length s = omega arith in
    let b : k ≤ length (drop m s) = omega (arith, length-drop m s) in
    ap (slice m n) p.1 ∙ ap (take k) (drop-append-le m s p.0 a) ∙ take-append-le k (drop m s) p.0 b

pub slice_none : (k : ℕ) (xs : List Event) → slice k k xs ≡ []
slice_none k xs = let z : k - k ≡ 0 = omega arith in ap (λ (n : ℕ). take n (drop k xs)) z

pub slice_join : (a b c : ℕ) (xs : List Event) → a ≤ b → b ≤ c → slice a b xs ++ slice b c xs ≡ slice a c xs
slice_join a b c xs p q =
    let d : ℕ = b - a in let e : ℕ = c - b in
    let whole : c - a ≡ d + e = omega arith in
    let from : b ≡ a + d = omega arith in
    sym (ap (λ (n : ℕ). take n (drop a xs)) whole ∙ take-add d e (drop a xs) ∙ ap (λ (l : List Event). take d (drop a xs) ++ take e l) (drop-drop d a xs ∙ ap (λ (n : ℕ). drop n xs) (sym from)))

pub letters-append : (xs ys : List Event) → letters (xs ++ ys) ≡ letters xs ++ letters ys
letters-append xs ys = map-append (λ (e : Event). e.letter) xs ys

pub by_own : (p : ℕ) (message : List ℕ) → by p (as_events p message) ≡ message
by_own p [] = refl
by_own p (x ∷ xs) = let t = eq-eqb p p refl in simp t (ap (λ (l : List ℕ). x ∷ l) (by_own p xs))

pub by_other : (q p : ℕ) (message : List ℕ) → p ≢ q → by q (as_events p message) ≡ []
by_other q p [] n = refl
by_other q p (x ∷ xs) n = let t = ne_eqb p q n in simp t (by_other q p xs n)

pub at_join : (xs ys : List Event) (k : ℕ) (e : Event) → get_elem? (xs ++ ys) k ≡ some e → (get_elem? xs k ≡ some e) ⊎ ((i : ℕ) × (get_elem? ys i ≡ some e))
at_join [] ys k e at = inr (k, at)
at_join (x ∷ xs) ys zero e at = inl at
at_join (x ∷ xs) ys (suc k) e at = at_join xs ys k e at

pub at_stamped : (p : ℕ) (message : List ℕ) (i : ℕ) (e : Event) → get_elem? (as_events p message) i ≡ some e → e.who ≡ p
at_stamped p [] i e at = absurd (some-ne-none e (sym at))
at_stamped p (x ∷ xs) zero e at = ap (λ (z : Event). z.who) (sym (some-injective (record { who = p; letter = x }) e at))
at_stamped p (x ∷ xs) (suc i) e at = at_stamped p xs i e at

pub by_absent : (n : ℕ) (log : List Event) → ((k : ℕ) (e : Event) → get_elem? log k ≡ some e → e.who ≢ n) → by n log ≡ []
by_absent n [] h = refl
by_absent n (e ∷ es) h = let t = ne_eqb e.who n (h 0 e refl) in simp t (by_absent n es (λ k f at. h (suc k) f at))
