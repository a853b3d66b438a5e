-- Bytes that are cut at their LFs.
use Rattle.std.proofs.Common.{◌≡◌, ℕ, ◌+◌, ◌-◌, ◌<◌, ◌≤◌, suc, Bool, true, false, ◌||◌, cond, List, [], ◌∷◌, ◌++◌, ◌==◌, length, length-drop, take, drop, None, Some, position, inl, inr, refl, sym, ap, ◌∙◌, subst, arith, append-nil, append_assoc}
use Rattle.std.specs.List.{position_from}
use Rattle.std.proofs.lemmas.Bool.{cases_Bool, eqb-true}
use Rattle.std.proofs.lemmas.List.{take_all}
use Rattle.std.proofs.lemmas.List.Folds.{list_any-append}
use Rattle.std.proofs.lemmas.Iterator.Adapters.{position_from-zero}
use Rattle.hub_io.specs.Lines.{has_lf, BeginsWith, onto_first, complete_of, rest_of, complete_after, rest_after, last_line, lines_of}

or_left : (a b : Bool) → (a || b) ≡ false → a ≡ false
or_left true b e = cc
or_left false b e = refl

or_right : (a b : Bool) → (a || b) ≡ false → b ≡ false
or_right true b e = cc
or_right false b e = e

or_true : (a : Bool) → (a || true) ≡ true
or_true true = refl
or_true false = refl

-- ---- an LF among bytes

pub has_lf-append : (front bs : List ℕ) → has_lf front ≡ false → has_lf (front ++ bs) ≡ has_lf bs
has_lf-append front bs e = list_any-append (λ b. b == 10) front bs ∙ ap (λ t. t || has_lf bs) e

pub has_lf-line : (line rest : List ℕ) → has_lf (line ++ 10 ∷ rest) ≡ true
has_lf-line line rest = list_any-append (λ b. b == 10) line (10 ∷ rest) ∙ or_true (has_lf line)

pub has_lf-front : (front bs : List ℕ) → has_lf (front ++ bs) ≡ false → has_lf front ≡ false
has_lf-front front bs e = or_left (has_lf front) (has_lf bs) (sym (list_any-append (λ b. b == 10) front bs) ∙ e)

-- ---- the first line

begins_more : (b : ℕ) (bs line rest : List ℕ) → (b == 10) ≡ false → BeginsWith bs line rest → BeginsWith (b ∷ bs) (b ∷ line) rest
begins_more b bs line rest other f = record { cut = ap (λ t. t || has_lf line) other ∙ f.cut; whole = ap (λ l. b ∷ l) f.whole }

begins_at_once : (b : ℕ) (bs : List ℕ) → (b == 10) ≡ true → BeginsWith (b ∷ bs) [] bs
begins_at_once b bs lf = record { cut = refl; whole = ap (λ x. x ∷ bs) (eqb-true b 10 lf) }

first_from : (bs : List ℕ) (i j : ℕ) → position_from (λ b. b == 10) i bs ≡ Some j → (k : ℕ) × (j ≡ i + k) × (k < length bs) × BeginsWith bs (take k bs) (drop (suc k) bs)
first_from [] i j e = cc
first_from (b ∷ bs) i j e = elim (cases_Bool (b == 10)) [
  | inl lf ↦
      let here : cond true (Some i) (position_from (λ x. x == 10) (i + 1) bs) ≡ Some j = subst (λ t. cond t (Some i) (position_from (λ x. x == 10) (i + 1) bs) ≡ Some j) lf e in
      let same : i ≡ j = cc in
      (0, omega arith, omega arith, begins_at_once b bs lf)
  | inr other ↦
      let later : position_from (λ x. x == 10) (i + 1) bs ≡ Some j = subst (λ t. cond t (Some i) (position_from (λ x. x == 10) (i + 1) bs) ≡ Some j) other e in
      let (k, at, within, first) = first_from bs (i + 1) j later in
      (suc k, omega arith, omega arith, begins_more b bs (take k bs) (drop (suc k) bs) other first)
]

-- the line before the first LF, and the bytes behind that LF
pub first : (bs : List ℕ) (place : ℕ) → position (λ b. b == 10) bs ≡ Some place → BeginsWith bs (take place bs) (take (length bs - (place + 1)) (drop (place + 1) bs))
first bs place e =
    let (k, at, within, f) = first_from bs 0 place (sym (position_from-zero (λ b. b == 10) bs) ∙ e) in
    let same : k ≡ place = omega arith in
    let more : suc k ≡ place + 1 = omega arith in
    let all : drop (place + 1) bs ≡ take (length bs - (place + 1)) (drop (place + 1) bs) = sym (take_all (length bs - (place + 1)) (drop (place + 1) bs) (omega (arith, length-drop (place + 1) bs))) in
    subst (BeginsWith bs (take place bs)) all (subst (λ n. BeginsWith bs (take place bs) (drop n bs)) more (subst (λ n. BeginsWith bs (take n bs) (drop (suc k) bs)) same f))

none_from : (bs : List ℕ) (i : ℕ) → position_from (λ b. b == 10) i bs ≡ None → has_lf bs ≡ false
none_from [] i e = refl
none_from (b ∷ bs) i e = elim (cases_Bool (b == 10)) [
  | inl lf ↦
      let here : Some i ≡ None = subst (λ t. cond t (Some i) (position_from (λ x. x == 10) (i + 1) bs) ≡ None) lf e in
      cc
  | inr other ↦
      let later : position_from (λ x. x == 10) (i + 1) bs ≡ None = subst (λ t. cond t (Some i) (position_from (λ x. x == 10) (i + 1) bs) ≡ None) other e in
      ap (λ t. t || has_lf bs) other ∙ none_from bs (i + 1) later
]

pub none : (bs : List ℕ) → position (λ b. b == 10) bs ≡ None → has_lf bs ≡ false
none bs e = none_from bs 0 (sym (position_from-zero (λ b. b == 10) bs) ∙ e)

-- up to the first LF
pub first_line : (bytes : List ℕ) → has_lf bytes ≡ true → (line after : List ℕ) × (has_lf line ≡ false) × (bytes ≡ line ++ 10 ∷ after)
first_line [] e = cc
first_line (b ∷ bs) e = elim (cases_Bool (b == 10)) [
  | inl lf ↦ ([], bs, refl, ap (λ x. x ∷ bs) (eqb-true b 10 lf))
  | inr other ↦
      let (line, after, cut, is) = first_line bs (sym (ap (λ t. t || has_lf bs) other) ∙ e) in
      (b ∷ line, after, ap (λ t. t || has_lf line) other ∙ cut, ap (λ l. b ∷ l) is)
]

-- ---- one line

pub complete-line : (line rest : List ℕ) → has_lf line ≡ false → complete_of (line ++ 10 ∷ rest) ≡ line ∷ complete_of rest
complete-line [] rest cut = refl
complete-line (b ∷ bs) rest cut =
    ap (λ t. cond t ([] ∷ complete_of (bs ++ 10 ∷ rest)) (onto_first (b ∷ []) (complete_of (bs ++ 10 ∷ rest)))) (or_left (b == 10) (has_lf bs) cut)
    ∙ ap (onto_first (b ∷ [])) (complete-line bs rest (or_right (b == 10) (has_lf bs) cut))

pub complete-none : (part : List ℕ) → has_lf part ≡ false → complete_of part ≡ []
complete-none [] cut = refl
complete-none (b ∷ bs) cut =
    ap (λ t. cond t ([] ∷ complete_of bs) (onto_first (b ∷ []) (complete_of bs))) (or_left (b == 10) (has_lf bs) cut)
    ∙ ap (onto_first (b ∷ [])) (complete-none bs (or_right (b == 10) (has_lf bs) cut))

pub rest-line : (line rest : List ℕ) → rest_of (line ++ 10 ∷ rest) ≡ rest_of rest
rest-line [] rest = refl
rest-line (b ∷ bs) rest =
    ap (λ t. cond t (rest_of (bs ++ 10 ∷ rest)) (b ∷ (bs ++ 10 ∷ rest))) (has_lf-line (b ∷ bs) rest) ∙ rest-line bs rest

pub rest-none : (part : List ℕ) → has_lf part ≡ false → rest_of part ≡ part
rest-none [] cut = refl
rest-none (b ∷ bs) cut = ap (λ t. cond t (rest_of bs) (b ∷ bs)) cut

pub lines-line : (line rest : List ℕ) → has_lf line ≡ false → lines_of (line ++ 10 ∷ rest) ≡ line ∷ lines_of rest
lines-line line rest cut =
    ap (λ ls. ls ++ last_line (rest_of (line ++ 10 ∷ rest))) (complete-line line rest cut)
    ∙ ap (λ r. (line ∷ complete_of rest) ++ last_line r) (rest-line line rest)

pub lines-part : (part : List ℕ) → has_lf part ≡ false → lines_of part ≡ last_line part
lines-part part cut = ap (λ ls. ls ++ last_line (rest_of part)) (complete-none part cut) ∙ ap last_line (rest-none part cut)

-- ---- bytes after the prefix of a line

pub onto_first-nil : (ls : List (List ℕ)) → onto_first [] ls ≡ ls
onto_first-nil [] = refl
onto_first-nil (l ∷ ls) = refl

onto_first-append : (p q : List ℕ) (ls : List (List ℕ)) → onto_first p (onto_first q ls) ≡ onto_first (p ++ q) ls
onto_first-append p q [] = refl
onto_first-append p q (l ∷ ls) = ap (λ x. x ∷ ls) (sym (append_assoc p q l))

pub rest_after-nil : (bs : List ℕ) → rest_after [] bs ≡ rest_of bs
rest_after-nil [] = refl
rest_after-nil (b ∷ bs) = elim (has_lf (b ∷ bs)) as (λ t. cond t (cond t (rest_of bs) (b ∷ bs)) (b ∷ bs) ≡ cond t (rest_of bs) (b ∷ bs)) [ true ↦ refl | false ↦ refl ]

-- a byte that is no LF belongs to the line that has begun
complete_after-more : (p : List ℕ) (b : ℕ) (bs : List ℕ) → (b == 10) ≡ false → complete_after p (b ∷ bs) ≡ complete_after (p ++ b ∷ []) bs
complete_after-more p b bs other =
    ap (λ t. onto_first p (cond t ([] ∷ complete_of bs) (onto_first (b ∷ []) (complete_of bs)))) other ∙ onto_first-append p (b ∷ []) (complete_of bs)

rest_after-more : (p : List ℕ) (b : ℕ) (bs : List ℕ) → (b == 10) ≡ false → rest_after p (b ∷ bs) ≡ rest_after (p ++ b ∷ []) bs
rest_after-more p b bs other =
    ap (λ t. cond (t || has_lf bs) (cond (t || has_lf bs) (rest_of bs) (b ∷ bs)) (p ++ b ∷ bs)) other
    ∙ elim (has_lf bs) as (λ t. cond t (cond t (rest_of bs) (b ∷ bs)) (p ++ b ∷ bs) ≡ cond t (rest_of bs) ((p ++ b ∷ []) ++ bs)) [
      | true ↦ refl
      | false ↦ sym (append_assoc p (b ∷ []) bs)
    ]

complete_after-lf : (p : List ℕ) (b : ℕ) (bs : List ℕ) → (b == 10) ≡ true → complete_after p (b ∷ bs) ≡ p ∷ complete_after [] bs
complete_after-lf p b bs lf =
    ap (λ t. onto_first p (cond t ([] ∷ complete_of bs) (onto_first (b ∷ []) (complete_of bs)))) lf
    ∙ ap (λ l. l ∷ complete_of bs) (append-nil p) ∙ ap (λ ls. p ∷ ls) (sym (onto_first-nil (complete_of bs)))

rest_after-lf : (p : List ℕ) (b : ℕ) (bs : List ℕ) → (b == 10) ≡ true → rest_after p (b ∷ bs) ≡ rest_after [] bs
rest_after-lf p b bs lf = ap (λ t. cond (t || has_lf bs) (cond (t || has_lf bs) (rest_of bs) (b ∷ bs)) (p ++ b ∷ bs)) lf ∙ sym (rest_after-nil bs)

-- bytes, and more of them
pub complete_after-append : (bs cs p : List ℕ) → complete_after p (bs ++ cs) ≡ complete_after p bs ++ complete_after (rest_after p bs) cs
complete_after-append [] cs p = ap (λ q. complete_after q cs) (sym (append-nil p))
complete_after-append (b ∷ bs) cs p = elim (cases_Bool (b == 10)) [
  | inl lf ↦
      complete_after-lf p b (bs ++ cs) lf ∙ ap (λ ls. p ∷ ls) (complete_after-append bs cs [])
      ∙ ap (λ ls. ls ++ complete_after (rest_after [] bs) cs) (sym (complete_after-lf p b bs lf))
      ∙ ap (λ q. complete_after p (b ∷ bs) ++ complete_after q cs) (sym (rest_after-lf p b bs lf))
  | inr other ↦
      complete_after-more p b (bs ++ cs) other ∙ complete_after-append bs cs (p ++ b ∷ [])
      ∙ ap (λ ls. ls ++ complete_after (rest_after (p ++ b ∷ []) bs) cs) (sym (complete_after-more p b bs other))
      ∙ ap (λ q. complete_after p (b ∷ bs) ++ complete_after q cs) (sym (rest_after-more p b bs other))
]

pub rest_after-append : (bs cs p : List ℕ) → rest_after p (bs ++ cs) ≡ rest_after (rest_after p bs) cs
rest_after-append [] cs p = ap (λ q. rest_after q cs) (sym (append-nil p))
rest_after-append (b ∷ bs) cs p = elim (cases_Bool (b == 10)) [
  | inl lf ↦ rest_after-lf p b (bs ++ cs) lf ∙ rest_after-append bs cs [] ∙ ap (λ q. rest_after q cs) (sym (rest_after-lf p b bs lf))
  | inr other ↦ rest_after-more p b (bs ++ cs) other ∙ rest_after-append bs cs (p ++ b ∷ []) ∙ ap (λ q. rest_after q cs) (sym (rest_after-more p b bs other))
]

-- there are no more lines than bytes
pub complete_after_few : (bs p : List ℕ) → length (complete_after p bs) ≤ length bs
complete_after_few [] p = omega arith
complete_after_few (b ∷ bs) p = elim (cases_Bool (b == 10)) [
  | inl lf ↦ let few : length (complete_after [] bs) ≤ length bs = complete_after_few bs [] in omega (arith, ap length (complete_after-lf p b bs lf))
  | inr other ↦ let few : length (complete_after (p ++ b ∷ []) bs) ≤ length bs = complete_after_few bs (p ++ b ∷ []) in omega (arith, ap length (complete_after-more p b bs other))
]

-- bytes that begin with a line
module _ (bs line rest : List ℕ) (f : BeginsWith bs line rest) where
  pub complete_after-begins : (p : List ℕ) → complete_after p bs ≡ (p ++ line) ∷ complete_after [] rest
  complete_after-begins p = ap (onto_first p) (ap complete_of f.whole ∙ complete-line line rest f.cut) ∙ ap (λ ls. (p ++ line) ∷ ls) (sym (onto_first-nil (complete_of rest)))

  pub rest_after-begins : (p : List ℕ) → rest_after p bs ≡ rest_after [] rest
  rest_after-begins p =
      ap (λ t. cond t (rest_of bs) (p ++ bs)) (ap has_lf f.whole ∙ has_lf-line line rest) ∙ ap rest_of f.whole ∙ rest-line line rest ∙ sym (rest_after-nil rest)

-- bytes without LF
pub complete_after-none : (p bs : List ℕ) → has_lf bs ≡ false → complete_after p bs ≡ []
complete_after-none p bs cut = ap (onto_first p) (complete-none bs cut)
