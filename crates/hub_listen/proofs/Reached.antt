-- The states of the searches of a text if more text follows.
use Rattle.std.proofs.Common.{◌≡◌, ℕ, ◌<◌, ◌≤◌, List, ◌++◌, length, slice_get, sym, ◌∙◌, inl, inr, ⊎_elim, arith, zero, suc, ◌+◌, [], ◌∷◌, get_or, Some, refl, ap₂}
use Rattle.std.specs.Str.{IsAscii}
use Rattle.regex_nfa.specs.Paths.{EmptyEdge, by_first, by_second, by_save, by_look}
use Rattle.regex_nfa.specs.declared.nfa.Nfa.{Nfa}
use Rattle.hub_listen.specs.Alive.{Reaches, begins, reads, skips, Enters, AreAlive, HasMatch}
use Rattle.std.proofs.lemmas.Option.{slice_get-get_or}
use Rattle.regex_hir.specs.Looks.{holds, holds_between, side_before, side_after}
use Rattle.regex_hir.specs.Text.{byte_before, char_at, char_before}
use Rattle.regex_hir.specs.declared.look.Look as look
use Rattle.regex_hir.proofs.TextLemmas.{byte_before-zero, byte_before-add-one, char_at_ascii, char_before-zero, char_before_ascii}

-- ---- what assertions see of a text if more text follows

pub slice_get-append : (a b : List ℕ) (i : ℕ) → i < length a → slice_get (a ++ b) i ≡ slice_get a i
slice_get-append [] b i h = absurd (omega arith)
slice_get-append (x ∷ a) b zero h = refl
slice_get-append (x ∷ a) b (suc i) h = slice_get-append a b i (omega arith)

module _ (text more : List ℕ) (ascii : IsAscii text) where
  at : (i : ℕ) → i < length text → slice_get (text ++ more) i ≡ Some (get_or text i 0)
  at i h = slice_get-append text more i h ∙ slice_get-get_or text i 0 h

  char_at-append : (i : ℕ) → i < length text → char_at (text ++ more) i ≡ char_at text i
  char_at-append i h =
      char_at_ascii (text ++ more) i _ (at i h) (ascii i) ∙ sym (char_at_ascii text i _ (slice_get-get_or text i 0 h) (ascii i))

  byte_before_next : (i : ℕ) → i < length text → byte_before (text ++ more) (i + 1) ≡ byte_before text (i + 1)
  byte_before_next i h = byte_before-add-one (text ++ more) i ∙ slice_get-append text more i h ∙ sym (byte_before-add-one text i)

  char_before_next : (i : ℕ) → i < length text → char_before (text ++ more) (i + 1) ≡ char_before text (i + 1)
  char_before_next i h =
      char_before_ascii (text ++ more) (i + 1) _ (byte_before-add-one (text ++ more) i ∙ at i h) (ascii i)
      ∙ sym (char_before_ascii text (i + 1) _ (byte_before-add-one text i ∙ slice_get-get_or text i 0 h) (ascii i))

  side_before-append : (i : ℕ) → i < length text → side_before (text ++ more) i ≡ side_before text i
  side_before-append zero h =
      ap₂ (λ b c. record { byte = b; char = c }) (byte_before-zero (text ++ more) ∙ sym (byte_before-zero text))
      (char_before-zero (text ++ more) ∙ sym (char_before-zero text))
  side_before-append (suc i) h =
      let next : suc i ≡ i + 1 = omega arith in
      rw next (ap₂ (λ b c. record { byte = b; char = c }) (byte_before_next i (omega arith)) (char_before_next i (omega arith)))

  side_after-append : (i : ℕ) → i < length text → side_after (text ++ more) i ≡ side_after text i
  side_after-append i h = ap₂ (λ b c. record { byte = b; char = c }) (slice_get-append text more i h) (char_at-append i h)

  holds-append : (l : look.Look) (i : ℕ) → i < length text → holds l (text ++ more) i ≡ holds l text i
  unfolding holds
  holds-append l i h = ap₂ (holds_between l) (side_before-append i h) (side_after-append i h)

  pub EmptyEdge-longer : (nfa : Nfa) (i p q : ℕ) → i < length text → EmptyEdge nfa text i p q → EmptyEdge nfa (text ++ more) i p q
  EmptyEdge-longer nfa i p q h (by_first second is) = by_first second is
  EmptyEdge-longer nfa i p q h (by_second first is) = by_second first is
  EmptyEdge-longer nfa i p q h (by_save slot is) = by_save slot is
  EmptyEdge-longer nfa i p q h (by_look l is ok) = by_look l is (holds-append l i h ∙ ok)

  pub EmptyEdge-prefix : (nfa : Nfa) (i p q : ℕ) → i < length text → EmptyEdge nfa (text ++ more) i p q → EmptyEdge nfa text i p q
  EmptyEdge-prefix nfa i p q h (by_first second is) = by_first second is
  EmptyEdge-prefix nfa i p q h (by_second first is) = by_second first is
  EmptyEdge-prefix nfa i p q h (by_save slot is) = by_save slot is
  EmptyEdge-prefix nfa i p q h (by_look l is ok) = by_look l is (sym (holds-append l i h) ∙ ok)

-- ---- which states the searches reach

pub Reaches-entered : (nfa : Nfa) (text : List ℕ) (q i : ℕ) → Enters nfa text q i → Reaches nfa text q i
Reaches-entered nfa text q i e =
    ⊎_elim (λ here. begins q i here.0 here.1)
    (λ r. reads q i r.from r.place r.byte r.reached r.read r.goes r.next) e

-- a text that has the bytes and the empty edges of another below n
module _ (nfa : Nfa) (text other : List ℕ) (n : ℕ) (bytes : (i : ℕ) → i < n → slice_get other i ≡ slice_get text i)
    (edges : (i p q : ℕ) → i < n → EmptyEdge nfa text i p q → EmptyEdge nfa other i p q) where
  Reaches-other : (q i : ℕ) → i < n → Reaches nfa text q i → Reaches nfa other q i
  Reaches-other q i h (begins _ _ is start) = begins q i is start
  Reaches-other q i h (reads _ _ p j b reached read goes next) =
      let inside : j < n = omega arith in reads q i p j b (Reaches-other p j inside reached) (bytes j inside ∙ read) goes next
  Reaches-other q i h (skips _ _ p reached edge) = skips q i p (Reaches-other p i h reached) (edges i p q h edge)

  -- what comes after place i has no part in which states are entered there
  Enters-other : (q i : ℕ) → i ≤ n → Enters nfa text q i → Enters nfa other q i
  Enters-other q i h e =
      ⊎_elim (λ here. inl here)
      (λ r. let next = r.next in let inside : r.place < n = omega arith in inr (record {
        from = r.from;
        place = r.place;
        byte = r.byte;
        reached = Reaches-other r.from r.place inside r.reached;
        read = bytes r.place inside ∙ r.read;
        goes = r.goes;
        next = r.next;
      }))
      e

module _ (nfa : Nfa) (text more : List ℕ) (ascii : IsAscii text) where
  bytes-prefix : (i : ℕ) → i < length text → slice_get text i ≡ slice_get (text ++ more) i
  bytes-prefix i h = sym (slice_get-append text more i h)

  pub AreAlive-longer : (i : ℕ) (states : List ℕ) → i ≤ length text → AreAlive nfa text i states → AreAlive nfa (text ++ more) i states
  AreAlive-longer i states h alive q = (
    λ has. Enters-other nfa text (text ++ more) (length text) (slice_get-append text more) (EmptyEdge-longer text more ascii nfa) q i h ((alive q).0 has),
    λ e. (alive q).1 (Enters-other nfa (text ++ more) text (length text) bytes-prefix (EmptyEdge-prefix text more ascii nfa) q i h e),
  )

  pub HasMatch-prefix : (i : ℕ) → i < length text → HasMatch nfa (text ++ more) i → HasMatch nfa text i
  HasMatch-prefix i h m = record {
    state = m.state;
    reached = Reaches-other nfa (text ++ more) text (length text) bytes-prefix (EmptyEdge-prefix text more ascii nfa) m.state i h m.reached;
    match_state = m.match_state;
  }
