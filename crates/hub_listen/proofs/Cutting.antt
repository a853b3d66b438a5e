-- Patterns that match texts of letters alike.
use Rattle.std.proofs.Common.{◌≡◌, ℕ, zero, suc, ◌+◌, ◌-◌, ◌*◌, Bool, true, false, cond, List, [], ◌∷◌, ◌++◌, map, take, length, Option, None, Some, nat_lt, slice_get, refl, sym, ap, ap₂, ◌∙◌, subst, arith}
use Rattle.std.proofs.lemmas.List.Elements.{All-get_or, All-head, All-tail}
use Rattle.std.proofs.lemmas.Option.{same_Some, slice_get_within, get_or_from_slice_get, slice_get-get_or}
use Rattle.std.proofs.lemmas.Str.{len_utf8_bounds}
use Rattle.std.proofs.lemmas.Str.Ascii.{IsAscii-nil, IsAscii-cons}
use Rattle.std.specs.Str.{IsAscii}
use Rattle.std.specs.Option.{option_or}
use Rattle.std.specs.Char.{len_utf8}
use mathlib.Core.Path.{fun_ext}
use Rattle.regex_class.specs.Ranges.{Range}
use Rattle.regex_hir.specs.Text.{is_some_and, char_at}
use Rattle.regex_hir.specs.Re.{Re, byte_in, char_in, cat, alt, group, plus, empty, write, rounds, attempt}
use Rattle.regex_hir.specs.Meaning.{meaning, cat_all, alt_all, optional, copies, up_to, repeat}
use Rattle.regex_hir.specs.declared.hir.Hir.{Hir}
use Rattle.regex_hir.proofs.AttemptLemmas.{option_and_then_cong}
use Rattle.regex_hir.proofs.TextLemmas.{char_at_ascii, char_at_fits}
use Rattle.hub_listen.specs.Letters.{IsLetter, AreLetters, HasSameLetters, SameInLetters, AreSameInLetters, none_left, one_more}

pub same_refl : (a : Re) → SameInLetters a a
same_refl a = record { at = λ text letters rest i. refl }

pub same_of_eq : (a b c d : Re) → a ≡ b → c ≡ d → SameInLetters b d → SameInLetters a c
same_of_eq a b c d e f same = subst (λ x. SameInLetters x c) (sym e) (subst (SameInLetters b) (sym f) same)

pub ascii_of : (text : List ℕ) → AreLetters text → IsAscii text
ascii_of [] letters = IsAscii-nil
ascii_of (b ∷ text) letters =
    let letter = All-head IsLetter b text letters in
    IsAscii-cons b text (omega arith) (ascii_of text (All-tail IsLetter b text letters))

-- in one text, as functions
whole : (a b : Re) (text : List ℕ) → SameInLetters a b → AreLetters text → attempt text a ≡ attempt text b
whole a b text same letters = fun_ext (λ rest. fun_ext (λ i. same.at text letters rest i))

-- ---- classes

letter_at : (text : List ℕ) (i byte : ℕ) → AreLetters text → slice_get text i ≡ Some byte → IsLetter byte
letter_at text i byte letters e =
    subst IsLetter (get_or_from_slice_get text i byte 0 e) (All-get_or IsLetter text i 0 (slice_get_within text i byte e) letters)

is_some_and_cong : (o : Option ℕ) (p q : ℕ → Bool) → ((x : ℕ) → o ≡ Some x → p x ≡ q x) → is_some_and o p ≡ is_some_and o q
is_some_and_cong None p q h = refl
is_some_and_cong (Some x) p q h = h x refl

pub same_bytes : (a b : List Range) → HasSameLetters a b → SameInLetters (byte_in a) (byte_in b)
unfolding attempt
same_bytes a b same = record {
  at = λ text letters rest i.
      ap (λ t. cond t (rest (i + 1)) None)
      (is_some_and_cong (slice_get text i) _ _ (λ byte e. same byte (letter_at text i byte letters e)));
}

-- each character of the text is a letter
char_is_letter : (text : List ℕ) (i c : ℕ) → AreLetters text → char_at text i ≡ Some c → IsLetter c
char_is_letter text i c letters e =
    let fits = char_at_fits text i c e in
    let some = len_utf8_bounds c in
    let here = slice_get-get_or text i 0 (omega arith) in
    let letter = letter_at text i _ letters here in
    subst IsLetter (same_Some _ _ (sym (char_at_ascii text i _ here (omega arith)) ∙ e)) letter

pub same_chars : (a b : List Range) → HasSameLetters a b → SameInLetters (char_in a) (char_in b)
unfolding attempt
same_chars a b same = record {
  at = λ text letters rest i.
      option_and_then_cong _ _ (char_at text i)
      (λ c e. ap (λ t. cond t (rest (i + len_utf8 c)) None) (same c (char_is_letter text i c letters e)));
}

-- ---- what is made of parts

module _ (a b : Re) (same : SameInLetters a b) where
  pub same_cat : (c d : Re) → SameInLetters c d → SameInLetters (cat a c) (cat b d)
  unfolding attempt
  same_cat c d other = record {
    at = λ text letters rest i. ap₂ (λ f g. f (g rest) i) (whole a b text same letters) (whole c d text other letters);
  }

  pub same_alt : (c d : Re) → SameInLetters c d → SameInLetters (alt a c) (alt b d)
  unfolding attempt
  same_alt c d other = record { at = λ text letters rest i. ap₂ option_or (same.at text letters rest i) (other.at text letters rest i) }

  pub same_group : (n : ℕ) → SameInLetters (group n a) (group n b)
  unfolding attempt
  same_group n = record {
    at = λ text letters rest i.
        ap (λ f. write (2 * n) i (f (λ j. write (2 * n + 1) j (rest j)) i)) (whole a b text same letters);
  }

  same_plus : (greedy : Bool) → SameInLetters (plus greedy a) (plus greedy b)
  unfolding attempt
  same_plus greedy = record {
    at = λ text letters rest i.
        ap (λ f. f (λ j. cond (nat_lt i j) (rounds greedy f rest (length text - j) j) (rest j)) i) (whole a b text same letters);
  }

  same_copies : (n : ℕ) (c d : Re) → SameInLetters c d → SameInLetters (copies n a c) (copies n b d)
  same_copies zero c d other = other
  same_copies (suc n) c d other = same_cat _ _ (same_copies n c d other)

same_optional : (greedy : Bool) (a b : Re) → SameInLetters a b → SameInLetters (optional greedy a) (optional greedy b)
same_optional true a b same = same_alt a b same empty empty (same_refl empty)
same_optional false a b same = same_alt empty empty (same_refl empty) a b same

same_up_to : (greedy : Bool) (n : ℕ) (a b : Re) → SameInLetters a b → SameInLetters (up_to greedy n a) (up_to greedy n b)
same_up_to greedy zero a b same = same_refl empty
same_up_to greedy (suc n) a b same = same_optional greedy _ _ (same_cat a b same _ _ (same_up_to greedy n a b same))

pub same_repeat : (least : ℕ) (most : Option ℕ) (greedy : Bool) (a b : Re) → SameInLetters a b
    → SameInLetters (repeat least most greedy a) (repeat least most greedy b)
unfolding repeat
same_repeat zero None greedy a b same = same_optional greedy _ _ (same_plus a b same greedy)
same_repeat (suc n) None greedy a b same = same_copies a b same n _ _ (same_plus a b same greedy)
same_repeat least (Some most) greedy a b same = same_copies a b same least _ _ (same_up_to greedy (most - least) a b same)

-- ---- lists

pub same_cat_all : (all others : List Re) → AreSameInLetters all others → SameInLetters (cat_all all) (cat_all others)
same_cat_all _ _ none_left = same_refl empty
same_cat_all _ _ (one_more a b more others same rest) = same_cat a b same _ _ (same_cat_all more others rest)

pub same_alt_all : (all others : List Re) → AreSameInLetters all others → SameInLetters (alt_all all) (alt_all others)
same_alt_all _ _ none_left = same_refl _
same_alt_all _ _ (one_more a b more others same rest) = same_alt a b same _ _ (same_alt_all more others rest)

same_push : (a b : Re) → SameInLetters a b → (more others : List Re) → AreSameInLetters more others
    → AreSameInLetters (more ++ a ∷ []) (others ++ b ∷ [])
same_push a b same _ _ none_left = one_more a b [] [] same none_left
same_push a b same _ _ (one_more c d more others first rest) = one_more c d _ _ first (same_push a b same more others rest)

map_push : (xs : List Hir) (x : Hir) → map meaning (xs ++ x ∷ []) ≡ map meaning xs ++ meaning x ∷ []
map_push [] x = refl
map_push (y ∷ xs) x = ap (λ l. meaning y ∷ l) (map_push xs x)

-- one more tree is cut
pub cut_more : (old new subs : List Hir) (tree sub : Hir) (i : ℕ) → new ≡ old ++ tree ∷ [] → take (i + 1) subs ≡ take i subs ++ sub ∷ []
    → SameInLetters (meaning tree) (meaning sub) → AreSameInLetters (map meaning old) (map meaning (take i subs))
    → AreSameInLetters (map meaning new) (map meaning (take (i + 1) subs))
cut_more old new subs tree sub i e f same before =
    subst (λ l. AreSameInLetters (map meaning l) (map meaning (take (i + 1) subs))) (sym e)
    (subst (λ l. AreSameInLetters (map meaning (old ++ tree ∷ [])) (map meaning l)) (sym f)
    (subst (λ l. AreSameInLetters l (map meaning (take i subs ++ sub ∷ []))) (sym (map_push old tree))
    (subst (AreSameInLetters (map meaning old ++ meaning tree ∷ [])) (sym (map_push (take i subs) sub))
    (same_push _ _ same _ _ before))))
