-- How many names fit in a reply.
use Rattle.std.proofs.Common.{◌≡◌, ◌≢◌, ℕ, zero, suc, ◌+◌, ◌<◌, ◌≤◌, List, [], ◌∷◌, ◌++◌, length, take, drop, get_or, Bool, true, false, true≢false, ◌&&◌, nat_le, nat_lt, refl, sym, ap, subst, ◌∙◌, inl, inr, take-append-drop, length-append, arith}
use Rattle.std.specs.Prelude.{All}
use Rattle.std.specs.List.{list_all}
use Rattle.std.proofs.lemmas.Bool.{cases_Bool, cases_lt, cases_eq, leb-true, leb-false, le-leb, lt-leb}
use Rattle.std.proofs.lemmas.List.{take_at, drop_at, drop-drop, take_more, drop_more, drop_all}
use Rattle.std.proofs.lemmas.List.Elements.{All-drop}
use Rattle.hub_requests.specs.declared.bounds.TheConstants.{LONGEST_NAME, LONGEST_REPLY}
use Rattle.hub_requests.specs.declared.reply.Reply.TheVariants.{Listed, Nothing}
use Rattle.hub_requests.specs.Listings.{fit, greatest_fit, fitting, names_shown, IsLongestFit, AreShown, joined}
use Rattle.hub_requests.specs.Names.{is_name, is_name_byte}
use Rattle.hub_requests.specs.Texts.{text_of}
use Rattle.hub_requests.proofs.NamesText.{length-listed, length-names_text-push, length-names_text-take}

-- ---- whether names fit

pub short_fits : (names : List (List ℕ)) → length (text_of (Listed names)) ≤ LONGEST_REPLY → fit names ≡ true
short_fits names short = le-leb (length (text_of (Listed names))) LONGEST_REPLY short

pub long_fails : (names : List (List ℕ)) → LONGEST_REPLY < length (text_of (Listed names)) → fit names ≡ false
long_fails names long = lt-leb (length (text_of (Listed names))) LONGEST_REPLY long

pub fits_short : (names : List (List ℕ)) → fit names ≡ true → length (text_of (Listed names)) ≤ LONGEST_REPLY
fits_short names e = leb-true (length (text_of (Listed names))) LONGEST_REPLY e

pub fails_long : (names : List (List ℕ)) → fit names ≡ false → LONGEST_REPLY < length (text_of (Listed names))
fails_long names e = leb-false (length (text_of (Listed names))) LONGEST_REPLY e

-- where so many don't fit, more don't either
pub more_fails : (names : List (List ℕ)) (i j : ℕ) → i ≤ j → fit (take i names) ≡ false → fit (take j names) ≡ false
more_fails names i j few fails =
    let long = fails_long (take i names) fails in
    let one = length-listed (take i names) in
    let other = length-listed (take j names) in
    let longer = length-names_text-take i j names few in
    long_fails (take j names) (omega (arith, long, one, other, longer))

-- ---- the greatest number that fits

pub greatest_fit-step : (names : List (List ℕ)) (most : ℕ) → fit (take (suc most) names) ≡ false → greatest_fit names (suc most) ≡ greatest_fit names most
greatest_fit-step names most e = simp e

pub greatest_fit-here : (names : List (List ℕ)) (most : ℕ) → fit (take (suc most) names) ≡ true → greatest_fit names (suc most) ≡ suc most
greatest_fit-here names most e = simp e

-- it is the number that fits where the next one doesn't
pub greatest_fit-is : (names : List (List ℕ)) (i most : ℕ) → i ≤ most → fit (take i names) ≡ true → (i < most → fit (take (i + 1) names) ≡ false) → greatest_fit names most ≡ i
greatest_fit-is names i zero few fits next = omega (arith, few)
greatest_fit-is names i (suc most) few fits next = elim (cases_eq i (suc most)) [
  | inl e ↦ greatest_fit-here names most (subst (λ (n : ℕ). fit (take n names) ≡ true) e fits) ∙ sym e
  | inr ne ↦
      let below : i ≤ most = omega (arith, few, ne) in
      let fails : fit (take (suc most) names) ≡ false = more_fails names (i + 1) (suc most) (omega (arith, below)) (next (omega (arith, below))) in
      greatest_fit-step names most fails ∙ greatest_fit-is names i most below fits (λ less. next (omega (arith, less)))
]

pub record IsGreatest (names : List (List ℕ)) (most k : ℕ) : Type 0 where
  pub few : k ≤ most
  pub fits : fit (take k names) ≡ true
  pub next : k < most → fit (take (k + 1) names) ≡ false

pub greatest : (names : List (List ℕ)) (most : ℕ) → IsGreatest names most (greatest_fit names most)
greatest names zero = record { few = omega arith; fits = refl; next = λ less. absurd (omega (arith, less)) }
greatest names (suc most) = elim (cases_Bool (fit (take (suc most) names))) [
  | inl t ↦ subst (λ (k : ℕ). IsGreatest names (suc most) k) (sym (greatest_fit-here names most t)) (record { few = omega arith; fits = t; next = λ less. absurd (omega (arith, less)) })
  | inr f ↦
      let g = greatest names most in
      let k = greatest_fit names most in
      subst (λ (k : ℕ). IsGreatest names (suc most) k) (sym (greatest_fit-step names most f)) (record {
        few = omega (arith, g.few);
        fits = g.fits;
        next = λ less. elim (cases_lt (greatest_fit names most) most) [
          | inl inside ↦ g.next inside
          | inr past ↦ subst (λ (n : ℕ). fit (take n names) ≡ false) (let e : suc most ≡ greatest_fit names most + 1 = omega (arith, g.few, past) in e) f
        ];
      })
]

-- ---- the longest beginning that fits

head_of : (xs ys : List (List ℕ)) (x y : List ℕ) → x ∷ xs ≡ y ∷ ys → x ≡ y
head_of xs ys x y e = cc

nonempty : (xs more : List (List ℕ)) (next : List ℕ) (k : ℕ) → drop k xs ≡ next ∷ more → k < length xs
nonempty xs more next k e = elim (cases_lt k (length xs)) [
  | inl inside ↦ inside
  | inr past ↦ let none = drop_all k xs past in absurd (let no : next ∷ more ≡ [] = sym e ∙ none in cc)
]

pub take_next : (xs more : List (List ℕ)) (next : List ℕ) (k : ℕ) → drop k xs ≡ next ∷ more → take (k + 1) xs ≡ take k xs ++ next ∷ []
take_next xs more next k e =
    let inside = nonempty xs more next k e in
    let here : get_or xs k next ≡ next = head_of (drop (k + 1) xs) more (get_or xs k next) next (sym (drop_more xs k next inside) ∙ e) in
    take_more xs k next inside ∙ ap (λ (n : List ℕ). take k xs ++ n ∷ []) here

pub fitting_is_longest : (names : List (List ℕ)) → IsLongestFit names (fitting names)
fitting_is_longest names =
    let g = greatest names (length names) in
    let k = greatest_fit names (length names) in record {
      rest = drop (greatest_fit names (length names)) names;
      first = sym (take-append-drop (greatest_fit names (length names)) names);
      fits = fits_short (fitting names) g.fits;
      full = λ next more e.
          subst (λ (l : List (List ℕ)). LONGEST_REPLY < length (text_of (Listed l))) (take_next names more next (greatest_fit names (length names)) e)
          (fails_long (take (greatest_fit names (length names) + 1) names) (g.next (nonempty names more next (greatest_fit names (length names)) e)));
    }

-- so many of the first names are the longest beginning that fits
pub only_longest : (names shown : List (List ℕ)) → IsLongestFit names shown → shown ≡ fitting names
only_longest names shown l =
    let i = length shown in
    let begin : take (length shown) names ≡ shown = ap (take (length shown)) l.first ∙ take_at shown l.rest (length shown) refl in
    let behind : drop (length shown) names ≡ l.rest = ap (drop (length shown)) l.first ∙ drop_at shown l.rest (length shown) refl in
    let size : length names ≡ length shown + length l.rest = ap length l.first ∙ length-append shown l.rest in
    let fits : fit (take (length shown) names) ≡ true = ap fit begin ∙ short_fits shown l.fits in
    let few : length shown ≤ length names = omega (arith, size) in
    let most : greatest_fit names (length names) ≡ length shown = greatest_fit-is names (length shown) (length names) few fits (λ less.
    let here = drop_more names (length shown) [] less in
    let rest : l.rest ≡ get_or names (length shown) [] ∷ drop (length shown + 1) names = sym behind ∙ here in
    let grown : take (length shown + 1) names ≡ shown ++ get_or names (length shown) [] ∷ [] = take_more names (length shown) [] less ∙ ap (λ (b : List (List ℕ)). b ++ get_or names (length shown) [] ∷ []) begin in
    ap fit grown ∙ long_fails (shown ++ get_or names (length shown) [] ∷ []) (l.full (get_or names (length shown) []) (drop (length shown + 1) names) rest)) in
    sym (ap (λ (n : ℕ). take n names) most ∙ begin)

-- ---- one reply after another

-- a name by itself fits
second : (a b c : Bool) → (a && b && c) ≡ true → b ≡ true
second true true c e = refl
second true false c e = e
second false b c e = absurd (true≢false (sym e))

short_name : (name : List ℕ) → is_name name ≡ true → length name ≤ LONGEST_NAME
short_name name e = leb-true (length name) LONGEST_NAME (second (nat_lt 0 (length name)) (nat_le (length name) LONGEST_NAME) (list_all is_name_byte name) e)

pub some_fits : (name : List ℕ) (rest : List (List ℕ)) → is_name name ≡ true → fitting (name ∷ rest) ≢ []
some_fits name rest is none =
    let l = fitting_is_longest (name ∷ rest) in
    let first : name ∷ rest ≡ l.rest = l.first ∙ ap (λ (f : List (List ℕ)). f ++ l.rest) none in
    let long : LONGEST_REPLY < length (text_of (Listed (fitting (name ∷ rest) ++ name ∷ []))) = l.full name rest (sym first) in
    let alone : fitting (name ∷ rest) ++ name ∷ [] ≡ name ∷ [] = ap (λ (f : List (List ℕ)). f ++ name ∷ []) none in
    let size = ap (λ (f : List (List ℕ)). length (text_of (Listed f))) alone in
    let bytes = length-listed (name ∷ []) in
    let plain = length-names_text-push [] name in
    let short = short_name name is in
    omega (arith, long, size, bytes, plain, short)

shown_none : (names : List (List ℕ)) → names_shown names ≡ Nothing → names ≡ []
shown_none [] e = refl
shown_none (name ∷ rest) e = cc

shown_listed : (names shown : List (List ℕ)) → names_shown names ≡ Listed shown → names ≡ shown
shown_listed [] shown e = cc
shown_listed (name ∷ rest) shown e = cc

none_left : (names : List (List ℕ)) → All (λ name. is_name name ≡ true) names → fitting names ≡ [] → names ≡ []
none_left [] are none = refl
none_left (name ∷ rest) are none = absurd (some_fits name rest (are 0 [] (omega arith)) none)

pub replies_show_all : (names : List (List ℕ)) (from : ℕ) (shown : List (List (List ℕ))) → All (λ name. is_name name ≡ true) names → AreShown names from shown → joined shown ≡ drop from names
replies_show_all names from [] are shows = sym (none_left (drop from names) (All-drop (λ name. is_name name ≡ true) from names are) (shown_none (fitting (drop from names)) shows))
replies_show_all names from (one ∷ later) are shows =
    let is : fitting (drop from names) ≡ one = shown_listed (fitting (drop from names)) one shows.0 in
    let l = fitting_is_longest (drop from names) in
    let first : drop from names ≡ one ++ l.rest = l.first ∙ ap (λ (f : List (List ℕ)). f ++ l.rest) is in
    let behind : drop (from + length one) names ≡ l.rest = sym (drop-drop (length one) from names) ∙ ap (drop (length one)) first ∙ drop_at one l.rest (length one) refl in
    let rest : joined later ≡ drop (from + length one) names = replies_show_all names (from + length one) later are shows.1 in
    ap (λ (r : List (List ℕ)). one ++ r) (rest ∙ behind) ∙ sym first
