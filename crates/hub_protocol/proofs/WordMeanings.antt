-- A list of words is read as the meanings of its words.
use Rattle.std.proofs.Common.{◌≡◌, ◌≢◌, ℕ, ◌+◌, ◌<◌, ◌≤◌, List, length, get_or, take, map, Bool, true, false, Option, None, Some, MatchOption, refl, sym, ap, ◌∙◌, subst, arith}
use Rattle.std.specs.Prelude.{All}
use Rattle.std.specs.Borrow.{Bor}
use Rattle.std.specs.List.{AllByRecursion, list_any}
use Rattle.std.specs.Str.{bytes_eq}
use Rattle.std.proofs.lemmas.Bool.{false≢true}
use Rattle.std.proofs.lemmas.List.{get_or-map, length-map, take_all}
use Rattle.std.proofs.lemmas.List.Elements.{All-from_recursion, All-more, All-same, All-weaker}
use Rattle.std.proofs.lemmas.List.Folds.{list_any_none}
use Rattle.std.proofs.lemmas.Slice.Eq.{bytes_eq-Decides}
use Rattle.hub_protocol.specs.Meanings.{AreWordsOf, HasWord, IsMeaning, entry_shown}

-- ---- a list, entry by entry

entry_at : {T : Type 0} (list : List (Bor (List ℕ) × T)) (i : ℕ) (entry : Bor (List ℕ) × T) → i < length list → entry ≡ get_or list i entry → get_or (map entry_shown list) i (entry_shown entry) ≡ entry_shown entry
entry_at list i entry below at = get_or-map entry_shown list i entry (entry_shown entry) below ∙ ap entry_shown (sym at)

inside : {T : Type 0} (list : List (Bor (List ℕ) × T)) (i : ℕ) → i < length list → i < length (map entry_shown list)
inside list i below = omega (arith, length-map list entry_shown, below)

pub found : {T : Type 0} (list : List (Bor (List ℕ) × T)) (word : List ℕ) (i : ℕ) (entry : Bor (List ℕ) × T) → i < length list → entry ≡ get_or list i entry → bytes_eq entry.0.now word ≡ true
    → IsMeaning (map entry_shown list) word (Some entry.1)
found list word i entry below at hit = (i, entry_shown entry, inside list i below, entry_at list i entry below at, (sym ((bytes_eq-Decides entry.0.now word).0 hit), refl))

pub not_yet : {T : Type 0} (list : List (Bor (List ℕ) × T)) (word : List ℕ) (i : ℕ) (entry : Bor (List ℕ) × T) → i < length list → entry ≡ get_or list i entry → bytes_eq entry.0.now word ≡ false
    → All (λ e. word ≢ e.0) (take i (map entry_shown list)) → All (λ e. word ≢ e.0) (take (i + 1) (map entry_shown list))
not_yet {T} list word i entry below at miss none =
    let other : word ≢ entry.0.now = λ e. false≢true (sym miss ∙ (bytes_eq-Decides entry.0.now word).1 (sym e)) in
    All-more (λ e. word ≢ e.0) (map entry_shown list) i (entry_shown entry) (inside list i below) none
    (subst (λ (e : List ℕ × T). word ≢ e.0) (sym (entry_at list i entry below at)) other)

pub nowhere : {T : Type 0} (list : List (Bor (List ℕ) × T)) (word : List ℕ) (i : ℕ) → length list ≤ i → All (λ e. word ≢ e.0) (take i (map entry_shown list)) → All (λ e. word ≢ e.0) (map entry_shown list)
nowhere list word i past none =
    All-same (λ e. word ≢ e.0) (map entry_shown list) (take i (map entry_shown list)) (sym (take_all i (map entry_shown list) (omega (arith, length-map list entry_shown, past)))) none

-- ---- the whole list

differs : (a b : List ℕ) (same : Bool) → bytes_eq a b ≡ same → a ≢ b → same ≡ false
differs a b false e other = refl
differs a b true e other = absurd (other ((bytes_eq-Decides a b).0 e))

-- a word that isn't found is not one of the list
pub no_meaning : {T : Type 0} (list : List (List ℕ × T)) (word text : List ℕ) → HasWord list text → All (λ entry. word ≢ entry.0) list → word ≢ text
no_meaning {T} list word text has none e =
    let miss : list_any (λ entry. bytes_eq entry.0 text) list ≡ false =
    list_any_none _ list (All-weaker (λ (entry : List ℕ × T). word ≢ entry.0) (λ entry. bytes_eq entry.0 text ≡ false) (λ entry other. differs entry.0 text _ refl (λ s. other (e ∙ sym s))) list none) in
    false≢true (sym miss ∙ has)

-- what holds of each entry holds of a word and what it means
pub meaning_holds : {T : Type 0} (P : List ℕ → T → Type 0) (list : List (List ℕ × T)) (word : List ℕ) (x : T) → AllByRecursion (λ entry. P entry.0 entry.1) list → IsMeaning list word (Some x) → P word x
meaning_holds {T} P list word x each (k, entry, below, at, (text, meaning)) =
    let here : P entry.0 entry.1 = subst (λ (e : List ℕ × T). P e.0 e.1) at (All-from_recursion (λ (e : List ℕ × T). P e.0 e.1) list each k entry below) in
    subst (λ m. P word m) (sym meaning) (subst (λ w. P w entry.1) (sym text) here)

-- if each meaning has its word in the list, and each word of the list is that of its meaning
pub meant : {T : Type 0} (word_of : T → List ℕ) (list : List (List ℕ × T)) (word : List ℕ) (found : Option T) → ((x : T) → HasWord list (word_of x)) → AreWordsOf word_of list
    → IsMeaning list word found → MatchOption found ((x : T) → word ≢ word_of x) (λ x. word ≡ word_of x)
meant word_of list word None has each none = λ x. no_meaning list word (word_of x) (has x) none
meant word_of list word (Some x) has each some = meaning_holds (λ w m. w ≡ word_of m) list word x each some
