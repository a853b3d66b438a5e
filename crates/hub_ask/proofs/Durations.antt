-- Texts of durations: their digits and their unit.
use Rattle.std.proofs.Common.{append-nil, length-append, drop, ◌≡◌, ◌≢◌, ℕ, suc, ◌+◌, ◌*◌, ◌<◌, ◌≤◌, ◌^◌, List, [], ◌∷◌, ◌++◌, length, get_or, codes, refl, sym, ap, subst, ◌∙◌, arith, inl, inr, Option, None, Some, IfNone}
use Rattle.std.proofs.lemmas.List.{append_cancel_right, length_push}
use Rattle.std.proofs.lemmas.Str.Parse.{digit_at}
use Rattle.std.proofs.Math.Nat.{le-mul_of_pos_right}
use Rattle.std.specs.Int.{IsInRange}
use Rattle.std.specs.Option.{SomeIff}
use Rattle.std.specs.Str.Pattern.{FindsTextSuffix, StripsSuffix}
use Rattle.std.specs.Str.Parse.{AllDigits, IsNumeral, digits_value}
use Rattle.hub_ask.specs.Durations.{AreParts, EndsWithDigit, IsPlace, IsUnit, SpellsDuration, WritesFraction, WritesNumber}
use Rattle.hub_ask.specs.declared.duration.TheConstants.{MOST_MILLIS}

last_of : (xs : List ℕ) (b : ℕ) → get_or (xs ++ b ∷ []) (length xs) 0 ≡ b
last_of [] b = refl
last_of (x ∷ xs) b = last_of xs b

-- a text has one last byte
same_last : (xs ys : List ℕ) (a b : ℕ) → xs ++ a ∷ [] ≡ ys ++ b ∷ [] → a ≡ b
same_last xs ys a b e =
    let long = ap length e in
    let same : length xs ≡ length ys = omega (arith, long, length_push xs a, length_push ys b) in
    sym (last_of xs a) ∙ ap (λ l. get_or l (length xs) 0) e ∙ ap (λ n. get_or (ys ++ b ∷ []) n 0) same ∙ last_of ys b

-- a suffix that was stripped
pub stripped : (unit text rest : List ℕ) → StripsSuffix (FindsTextSuffix unit) text rest → text ≡ rest ++ unit
stripped unit text rest it = it.1.1 ∙ ap (λ l. l ++ unit) (sym it.2)

-- a unit has a millisecond at least
pub some_millis : (unit : List ℕ) (each : ℕ) → IsUnit unit each → 1 ≤ each
some_millis unit each (inl it) = let is = it.1 in omega (arith, is)
some_millis unit each (inr (inl it)) = let is = it.1 in omega (arith, is)
some_millis unit each (inr (inr (inl it))) = let is = it.1 in omega (arith, is)
some_millis unit each (inr (inr (inr (inl it)))) = let is = it.1 in omega (arith, is)
some_millis unit each (inr (inr (inr (inr it)))) = let is = it.1 in omega (arith, is)

-- the last of some digits is one
last_digit : (digits front : List ℕ) (b : ℕ) → AllDigits 10 digits → digits ≡ front ++ b ∷ [] → IsInRange 48 57 b
last_digit digits front b all e =
    let long = ap length e in
    let within : length front < length digits = omega (arith, long, length_push front b) in
    subst (IsInRange 48 57) (ap (λ l. get_or l (length front) 0) e ∙ last_of front b) (digit_at digits (length front) all within)

-- the bytes before `ms` and an `m`, and then an `s`
before_s : (xs : List ℕ) → xs ++ codes "ms" ≡ (xs ++ codes "m") ++ codes "s"
before_s [] = refl
before_s (x ∷ xs) = ap (λ l. x ∷ l) (before_s xs)

-- a text whose last byte is an `s` ends with no `m`
no_m : (xs ys : List ℕ) → xs ++ codes "s" ≡ ys ++ codes "m" → ⊥
no_m xs ys e = let same = same_last xs ys 115 109 e in omega (arith, same)

no_h : (xs ys : List ℕ) → xs ++ codes "s" ≡ ys ++ codes "h" → ⊥
no_h xs ys e = let same = same_last xs ys 115 104 e in omega (arith, same)

m_no_h : (xs ys : List ℕ) → xs ++ codes "m" ≡ ys ++ codes "h" → ⊥
m_no_h xs ys e = let same = same_last xs ys 109 104 e in omega (arith, same)

no_digit_s : (digits front : List ℕ) → EndsWithDigit digits → digits ≡ front ++ codes "s" → ⊥
no_digit_s digits front all e = let r = all front 115 e in omega (arith, r)

no_digit_m : (digits front : List ℕ) → EndsWithDigit digits → digits ≡ front ++ codes "m" → ⊥
no_digit_m digits front all e = let r = all front 109 e in omega (arith, r)

no_digit_h : (digits front : List ℕ) → EndsWithDigit digits → digits ≡ front ++ codes "h" → ⊥
no_digit_h digits front all e = let r = all front 104 e in omega (arith, r)

-- digits and no unit are the text
alone : (text digits other : List ℕ) → other ≡ [] → text ≡ digits ++ other → text ≡ digits
alone text digits other none e = e ∙ ap (λ u. digits ++ u) none ∙ append-nil digits

-- no unit is at the end of the text
pub record HasNoUnit (text : List ℕ) : Type 0 where
  pub ms : (front : List ℕ) → text ≢ front ++ codes "ms"
  pub s : (front : List ℕ) → text ≢ front ++ codes "s"
  pub m : (front : List ℕ) → text ≢ front ++ codes "m"
  pub h : (front : List ℕ) → text ≢ front ++ codes "h"

module _ (digits other : List ℕ) (millis : ℕ) (unit : IsUnit other millis) (ends : EndsWithDigit digits) where
  -- the text is a number and `ms`
  only_ms : (text number : List ℕ) → text ≡ number ++ codes "ms" → text ≡ digits ++ other → (digits ≡ number) × (millis ≡ 1)
  only_ms text number split e = of_ms unit
    where
      of_ms : IsUnit other millis → (digits ≡ number) × (millis ≡ 1)
      of_ms (inl it) = (append_cancel_right digits number (codes "ms") (sym (e ∙ ap (λ u. digits ++ u) it.0) ∙ split), it.1)
      of_ms (inr (inl it)) =
          let same : digits ++ codes "s" ≡ (number ++ codes "m") ++ codes "s" = sym (e ∙ ap (λ u. digits ++ u) it.0) ∙ split ∙ before_s number in
          absurd (no_digit_m digits number ends (append_cancel_right digits (number ++ codes "m") (codes "s") same))
      of_ms (inr (inr (inl it))) = absurd (no_m (number ++ codes "m") digits (sym (before_s number) ∙ sym split ∙ e ∙ ap (λ u. digits ++ u) it.0))
      of_ms (inr (inr (inr (inl it)))) = absurd (no_h (number ++ codes "m") digits (sym (before_s number) ∙ sym split ∙ e ∙ ap (λ u. digits ++ u) it.0))
      of_ms (inr (inr (inr (inr it)))) = absurd (no_digit_s digits (number ++ codes "m") ends (sym (alone text digits other it.0 e) ∙ split ∙ before_s number))

  -- the text is a number and `s`
  only_s : (text number : List ℕ) → text ≡ number ++ codes "s" → ((front : List ℕ) → text ≢ front ++ codes "ms") → text ≡ digits ++ other → (digits ≡ number) × (millis ≡ 1000)
  only_s text number split no_ms e = of_s unit
    where
      of_s : IsUnit other millis → (digits ≡ number) × (millis ≡ 1000)
      of_s (inl it) = absurd (no_ms digits (e ∙ ap (λ u. digits ++ u) it.0))
      of_s (inr (inl it)) = (append_cancel_right digits number (codes "s") (sym (e ∙ ap (λ u. digits ++ u) it.0) ∙ split), it.1)
      of_s (inr (inr (inl it))) = absurd (no_m number digits (sym split ∙ e ∙ ap (λ u. digits ++ u) it.0))
      of_s (inr (inr (inr (inl it)))) = absurd (no_h number digits (sym split ∙ e ∙ ap (λ u. digits ++ u) it.0))
      of_s (inr (inr (inr (inr it)))) = absurd (no_digit_s digits number ends (sym (alone text digits other it.0 e) ∙ split))

  -- the text is a number and `m`
  only_m : (text number : List ℕ) → text ≡ number ++ codes "m" → text ≡ digits ++ other → (digits ≡ number) × (millis ≡ 60000)
  only_m text number split e = of_m unit
    where
      of_m : IsUnit other millis → (digits ≡ number) × (millis ≡ 60000)
      of_m (inl it) = absurd (no_m (digits ++ codes "m") number (sym (before_s digits) ∙ sym (e ∙ ap (λ u. digits ++ u) it.0) ∙ split))
      of_m (inr (inl it)) = absurd (no_m digits number (sym (e ∙ ap (λ u. digits ++ u) it.0) ∙ split))
      of_m (inr (inr (inl it))) = (append_cancel_right digits number (codes "m") (sym (e ∙ ap (λ u. digits ++ u) it.0) ∙ split), it.1)
      of_m (inr (inr (inr (inl it)))) = absurd (m_no_h number digits (sym split ∙ e ∙ ap (λ u. digits ++ u) it.0))
      of_m (inr (inr (inr (inr it)))) = absurd (no_digit_m digits number ends (sym (alone text digits other it.0 e) ∙ split))

  -- the text is a number and `h`
  only_h : (text number : List ℕ) → text ≡ number ++ codes "h" → text ≡ digits ++ other → (digits ≡ number) × (millis ≡ 3600000)
  only_h text number split e = of_h unit
    where
      of_h : IsUnit other millis → (digits ≡ number) × (millis ≡ 3600000)
      of_h (inl it) = absurd (no_h (digits ++ codes "m") number (sym (before_s digits) ∙ sym (e ∙ ap (λ u. digits ++ u) it.0) ∙ split))
      of_h (inr (inl it)) = absurd (no_h digits number (sym (e ∙ ap (λ u. digits ++ u) it.0) ∙ split))
      of_h (inr (inr (inl it))) = absurd (m_no_h digits number (sym (e ∙ ap (λ u. digits ++ u) it.0) ∙ split))
      of_h (inr (inr (inr (inl it)))) = (append_cancel_right digits number (codes "h") (sym (e ∙ ap (λ u. digits ++ u) it.0) ∙ split), it.1)
      of_h (inr (inr (inr (inr it)))) = absurd (no_digit_h digits number ends (sym (alone text digits other it.0 e) ∙ split))

  -- the text has no unit
  only_alone : (text : List ℕ) → HasNoUnit text → text ≡ digits ++ other → (digits ≡ text) × (millis ≡ 1000)
  only_alone text none e = of_none unit
    where
      of_none : IsUnit other millis → (digits ≡ text) × (millis ≡ 1000)
      of_none (inl it) = absurd (none.ms digits (e ∙ ap (λ u. digits ++ u) it.0))
      of_none (inr (inl it)) = absurd (none.s digits (e ∙ ap (λ u. digits ++ u) it.0))
      of_none (inr (inr (inl it))) = absurd (none.m digits (e ∙ ap (λ u. digits ++ u) it.0))
      of_none (inr (inr (inr (inl it)))) = absurd (none.h digits (e ∙ ap (λ u. digits ++ u) it.0))
      of_none (inr (inr (inr (inr it)))) = (sym (alone text digits other it.0 e), it.1)

pub parts_of_ms : (text number : List ℕ) → text ≡ number ++ codes "ms" → AreParts text number 1
parts_of_ms text number split =
    record { unit = codes "ms"; of_unit = inl (refl, refl); split = split; only = λ digits other millis unit ends e. only_ms digits other millis unit ends text number split e }

pub parts_of_s : (text number : List ℕ) → text ≡ number ++ codes "s" → ((front : List ℕ) → text ≢ front ++ codes "ms") → AreParts text number 1000
parts_of_s text number split no_ms =
    record { unit = codes "s"; of_unit = inr (inl (refl, refl)); split = split; only = λ digits other millis unit ends e. only_s digits other millis unit ends text number split no_ms e }

pub parts_of_m : (text number : List ℕ) → text ≡ number ++ codes "m" → AreParts text number 60000
parts_of_m text number split =
    record { unit = codes "m"; of_unit = inr (inr (inl (refl, refl))); split = split; only = λ digits other millis unit ends e. only_m digits other millis unit ends text number split e }

pub parts_of_h : (text number : List ℕ) → text ≡ number ++ codes "h" → AreParts text number 3600000
parts_of_h text number split =
    record { unit = codes "h"; of_unit = inr (inr (inr (inl (refl, refl)))); split = split; only = λ digits other millis unit ends e. only_h digits other millis unit ends text number split e }

pub parts_alone : (text : List ℕ) → HasNoUnit text → AreParts text text 1000
parts_alone text none =
    record { unit = []; of_unit = inr (inr (inr (inr (refl, refl)))); split = sym (append-nil text); only = λ digits other millis unit ends e. only_alone digits other millis unit ends text none e }

-- ---- numbers, which may have a point

-- the end of two texts is that of the second one
end_of_both : (xs ys front : List ℕ) (b : ℕ) → 0 < length ys → xs ++ ys ≡ front ++ b ∷ [] → (back : List ℕ) × (ys ≡ back ++ b ∷ [])
end_of_both [] ys front b some e = (front, e)
end_of_both (x ∷ []) ys [] b some e = let long = ap length e in absurd (omega (arith, long, some))
end_of_both (x ∷ y ∷ xs) ys [] b some e = let long = ap length e in absurd (omega (arith, long))
end_of_both (x ∷ xs) ys (f ∷ front) b some e = end_of_both xs ys front b some (cc e)

seam : (whole fraction : List ℕ) → whole ++ (46 ∷ fraction) ≡ (whole ++ 46 ∷ []) ++ fraction
seam [] fraction = refl
seam (w ∷ whole) fraction = ap (λ l. w ∷ l) (seam whole fraction)

pub ends_with_digit : (number : List ℕ) (thousandths : ℕ) → WritesNumber number thousandths → EndsWithDigit number
ends_with_digit number thousandths (inl it) front byte e = last_digit number front byte it.0.1 e
ends_with_digit number thousandths (inr it) front byte e =
    let behind : (it.whole ++ 46 ∷ []) ++ it.fraction ≡ front ++ byte ∷ [] = sym (it.split ∙ seam it.whole it.fraction) ∙ e in
    let (back, is) = end_of_both (it.whole ++ 46 ∷ []) it.fraction front byte it.written.numeral.0 behind in
    last_digit it.fraction back byte it.written.numeral.1 is

-- no digit is a point
no_point : (digits : List ℕ) → AllDigits 10 digits → (i : ℕ) → i < length digits → get_or digits i 0 ≢ 46
no_point digits all i within e = let r = digit_at digits i all within in omega (arith, r, e)

-- one place for so many digits
same_place : (count one other : ℕ) → IsPlace count one → IsPlace count other → one ≡ other
same_place count one other (inl a) (inl b) = a.1 ∙ sym b.1
same_place count one other (inl a) (inr (inl b)) = let x = a.0 in let y = b.0 in absurd (omega (arith, x, y))
same_place count one other (inl a) (inr (inr b)) = let x = a.0 in let y = b.0 in absurd (omega (arith, x, y))
same_place count one other (inr (inl a)) (inl b) = let x = a.0 in let y = b.0 in absurd (omega (arith, x, y))
same_place count one other (inr (inl a)) (inr (inl b)) = a.1 ∙ sym b.1
same_place count one other (inr (inl a)) (inr (inr b)) = let x = a.0 in let y = b.0 in absurd (omega (arith, x, y))
same_place count one other (inr (inr a)) (inl b) = let x = a.0 in let y = b.0 in absurd (omega (arith, x, y))
same_place count one other (inr (inr a)) (inr (inl b)) = let x = a.0 in let y = b.0 in absurd (omega (arith, x, y))
same_place count one other (inr (inr a)) (inr (inr b)) = a.1 ∙ sym b.1

pub same_fraction : (digits : List ℕ) (one other : ℕ) → WritesFraction digits one → WritesFraction digits other → one ≡ other
same_fraction digits one other a b =
    a.counted ∙ ap (λ n. digits_value 10 digits * n) (same_place (length digits) a.place b.place a.of_place b.of_place) ∙ sym b.counted

-- no byte of the text is a point
abbrev pub HasNoPoint : List ℕ → Type 0
HasNoPoint text = (i : ℕ) → i < length text → get_or text i 0 ≢ 46

-- a point at this place
point_at : (whole fraction : List ℕ) → get_or (whole ++ (46 ∷ fraction)) (length whole) 0 ≡ 46
point_at [] fraction = refl
point_at (w ∷ whole) fraction = point_at whole fraction

pub has_point : (text whole fraction : List ℕ) → HasNoPoint text → text ≡ whole ++ (46 ∷ fraction) → ⊥
has_point text whole fraction none e =
    let long = ap length e in
    none (length whole) (omega (arith, long, length-append whole (46 ∷ fraction))) (ap (λ l. get_or l (length whole) 0) e ∙ point_at whole fraction)

-- a text is split at its first point in one way
pub one_split : (whole fraction front back : List ℕ) → HasNoPoint whole → HasNoPoint front → whole ++ (46 ∷ fraction) ≡ front ++ (46 ∷ back)
    → (whole ≡ front) × (fraction ≡ back)
one_split [] fraction [] back none lacks e = (refl, ap (drop 1) e)
one_split [] fraction (f ∷ front) back none lacks e = absurd (lacks 0 (omega arith) (sym (ap (λ l. get_or l 0 0) e)))
one_split (w ∷ whole) fraction [] back none lacks e = absurd (none 0 (omega arith) (ap (λ l. get_or l 0 0) e))
one_split (w ∷ whole) fraction (f ∷ front) back none lacks e =
    let (same, rest) = one_split whole fraction front back (λ i l. none (suc i) (omega (arith, l))) (λ i l. lacks (suc i) (omega (arith, l))) (ap (drop 1) e) in
    ((λ i. ap (λ l. get_or l 0 0) e i ∷ same i), rest)

same_thousandths : (number : List ℕ) (one other : ℕ) → WritesNumber number one → WritesNumber number other → one ≡ other
same_thousandths number one other (inl a) (inl b) = a.1 ∙ sym b.1
same_thousandths number one other (inl a) (inr b) = absurd (has_point number b.whole b.fraction (no_point number a.0.1) b.split)
same_thousandths number one other (inr a) (inl b) = absurd (has_point number a.whole a.fraction (no_point number b.0.1) a.split)
same_thousandths number one other (inr a) (inr b) =
    let (whole, fraction) = one_split a.whole a.fraction b.whole b.fraction (no_point a.whole a.numeral.1) (no_point b.whole b.numeral.1) (sym a.split ∙ b.split) in
    let value = ap (λ ds. digits_value 10 ds * 1000) whole in
    let behind = same_fraction b.fraction a.behind b.behind (subst (λ ds. WritesFraction ds a.behind) fraction a.written) b.written in
    omega (arith, value, behind, a.counted, b.counted)

-- ---- numbers of more than 64 bits

pub fraction_too_large : (digits : List ℕ) (place : ℕ) → IsPlace (length digits) place → (IsNumeral 10 digits → 2 ^ 64 ≤ digits_value 10 digits * place)
    → (thousandths : ℕ) → WritesFraction digits thousandths → 2 ^ 64 ≤ thousandths
fraction_too_large digits place of_place large thousandths it =
    let counted : thousandths ≡ digits_value 10 digits * place = it.counted ∙ ap (λ n. digits_value 10 digits * n) (same_place (length digits) it.place place it.of_place of_place) in
    let over = large it.numeral in
    omega (arith, counted, over)

some_place : (count place : ℕ) → IsPlace count place → 1 ≤ place
some_place count place (inl it) = let is = it.1 in omega (arith, is)
some_place count place (inr (inl it)) = let is = it.1 in omega (arith, is)
some_place count place (inr (inr it)) = let is = it.1 in omega (arith, is)

-- a number of more than 64 bits stays one
pub still_large : (number each : ℕ) → 1 ≤ each → (number < 2 ^ 64 → ⊥) → 2 ^ 64 ≤ number * each
still_large number each some over =
    let more : number ≤ number * each = le-mul_of_pos_right {m = each} number some in
    omega (arith, over, more)

pub digits_too_large : (digits : List ℕ) (place : ℕ) → IsPlace (length digits) place → (IsNumeral 10 digits × (digits_value 10 digits < 2 ^ 64) → ⊥)
    → (thousandths : ℕ) → WritesFraction digits thousandths → 2 ^ 64 ≤ thousandths
digits_too_large digits place of_place none =
    fraction_too_large digits place of_place (λ numeral. still_large (digits_value 10 digits) place (some_place (length digits) place of_place) (λ few. none (numeral, few)))

-- a number without a point
pub alone_too_large : (number : List ℕ) → HasNoPoint number → (IsNumeral 10 number → 2 ^ 64 ≤ digits_value 10 number * 1000)
    → (thousandths : ℕ) → WritesNumber number thousandths → 2 ^ 64 ≤ thousandths
alone_too_large number none large thousandths (inl it) = let over = large it.0 in let is = it.1 in omega (arith, over, is)
alone_too_large number none large thousandths (inr it) = absurd (has_point number it.whole it.fraction none it.split)

-- one with a point
pub both_too_large : (number whole fraction : List ℕ) → number ≡ whole ++ (46 ∷ fraction) → HasNoPoint whole
    → (IsNumeral 10 whole → (behind : ℕ) → WritesFraction fraction behind → 2 ^ 64 ≤ digits_value 10 whole * 1000 + behind)
    → (thousandths : ℕ) → WritesNumber number thousandths → 2 ^ 64 ≤ thousandths
both_too_large number whole fraction split none large thousandths (inl it) = absurd (has_point number whole fraction (no_point number it.0.1) split)
both_too_large number whole fraction split none large thousandths (inr it) =
    let (same, rest) = one_split it.whole it.fraction whole fraction (no_point it.whole it.numeral.1) none (sym it.split ∙ split) in
    let value = ap (λ ds. digits_value 10 ds * 1000) same in
    let over = large (subst (IsNumeral 10) same it.numeral) it.behind (subst (λ ds. WritesFraction ds it.behind) rest it.written) in
    let counted = it.counted in
    omega (arith, value, over, counted)

pub written_with_point : (number whole fraction : List ℕ) (behind thousandths : ℕ) → number ≡ whole ++ (46 ∷ fraction) → IsNumeral 10 whole → WritesFraction fraction behind
    → thousandths ≡ digits_value 10 whole * 1000 + behind → WritesNumber number thousandths
written_with_point number whole fraction behind thousandths split numeral written counted =
    inr (record { whole = whole; fraction = fraction; split = split; numeral = numeral; behind = behind; written = written; counted = counted })

-- what is made of a checked sum or product
pub if_none : (r : Option ℕ) (P : Type 0) (v : ℕ) (Q : Type 0) → SomeIff r P v → ((P → ⊥) → Q) → IfNone r Q
if_none None P v Q is make = make is
if_none (Some x) P v Q is make = tt

-- ---- durations

-- a text that is of another length at each number which it may have is no duration, or one that is too long
pub not_millis : (text number : List ℕ) (each : ℕ) → AreParts text number each
    → ((thousandths millis : ℕ) → WritesNumber number thousandths → millis * 1000 ≡ thousandths * each → MOST_MILLIS < millis)
    → (millis : ℕ) → SpellsDuration text millis → MOST_MILLIS < millis
not_millis text number each parts more millis it =
    let same = parts.only it.number it.unit it.each it.of_unit (ends_with_digit it.number it.thousandths it.written) it.split in
    more it.thousandths millis (subst (λ ds. WritesNumber ds it.thousandths) same.0 it.written) (it.counted ∙ ap (λ n. it.thousandths * n) same.1)

-- the number has more than 64 bits
pub number_too_large : (text number : List ℕ) (each : ℕ) → AreParts text number each → ((thousandths : ℕ) → WritesNumber number thousandths → 2 ^ 64 ≤ thousandths)
    → (millis : ℕ) → SpellsDuration text millis → MOST_MILLIS < millis
number_too_large text number each parts large = not_millis text number each parts
    (λ thousandths millis written counted. let over = large thousandths written in
    let more : thousandths ≤ thousandths * each = le-mul_of_pos_right {m = each} thousandths (some_millis parts.unit each parts.of_unit) in
    omega (arith, over, more, counted))

-- or it is these thousandths
pub of_thousandths : (text number : List ℕ) (each thousandths : ℕ) → AreParts text number each → WritesNumber number thousandths
    → ((millis : ℕ) → millis * 1000 ≡ thousandths * each → MOST_MILLIS < millis) → (millis : ℕ) → SpellsDuration text millis → MOST_MILLIS < millis
of_thousandths text number each thousandths parts written more = not_millis text number each parts
    (λ other millis is counted. more millis (counted ∙ ap (λ n. n * each) (same_thousandths number other thousandths is written)))

pub is_spelled : (text number : List ℕ) (each thousandths millis : ℕ) → AreParts text number each → WritesNumber number thousandths → millis * 1000 ≡ thousandths * each → SpellsDuration text millis
is_spelled text number each thousandths millis parts written counted =
    record { number = number; unit = parts.unit; each = each; of_unit = parts.of_unit; split = parts.split; thousandths = thousandths; written = written; counted = counted }
