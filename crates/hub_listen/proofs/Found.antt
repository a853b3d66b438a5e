-- A pattern finds a match in a text exactly if a search reaches a match state.
use Rattle.std.proofs.Common.{◌≡◌, ℕ, ◌+◌, ◌-◌, ◌<◌, ◌≤◌, true, false, List, [], ◌∷◌, ◌++◌, length, None, is_some, if◌then◌else◌, refl, sym, ap, ◌∙◌, subst, ⊎_elim, arith, true≢false, length-append}
use Rattle.std.proofs.lemmas.Bool.{cases_Bool, cases_lt, cond-true}
use Rattle.std.proofs.lemmas.List.Elements.{All-push}
use Rattle.std.proofs.lemmas.Str.Ascii.{All-from_ascii}
use Rattle.std.specs.Str.{IsAscii}
use Rattle.std.specs.Coded.{coded_bool}
use denote.Struct.Props.{≡_prop}
use mathlib.Core.Logic.{∥∥₁_elim}
use Rattle.regex_hir.specs.Re.{Re, accept, attempt}
use Rattle.regex_hir.specs.Find.{find_str, first_between}
use Rattle.regex_hir.specs.Text.{is_boundary}
use Rattle.regex_hir.proofs.FindLemmas.{first_between_cong}
use Rattle.regex_hir.proofs.OptionLemmas.{value_of_IsSome}
use Rattle.regex_nfa.specs.Run.{run, find_in}
use Rattle.regex_nfa.specs.Paths.{Accepts, matched, skipped, consumed}
use Rattle.regex_nfa.specs.declared.nfa.Nfa.{Nfa}
use Rattle.regex_nfa.proofs.RunLemmas.{byte_below_some, byte_below-length}
use Rattle.regex_nfa.proofs.PathsLemmas.{Accepts-of_run, Accepts_span, IsSome-run_of_Accepts}
use Rattle.regex_nfa.proofs.SearchLemmas.{run_unanchored}
use Rattle.regex_compile.specs.Implements.{Implements}
use Rattle.regex_syntax.proofs.Written.{is_some-option_map}
use Rattle.regex.proofs.Utf8Lemmas.{test_of_IsCharBoundary}
use Rattle.hub_listen.specs.Hit.{finds}
use Rattle.hub_listen.specs.Letters.{IsLetter, AreLetters, SameInLetters}
use Rattle.hub_listen.specs.Alive.{finds_by, SearchesFor, Reaches, begins, reads, skips, AreAlive, HasMatch}
use Rattle.hub_listen.proofs.Cutting.{ascii_of}
use Rattle.hub_listen.proofs.Patterns.{bytes_of}
use Rattle.hub_listen.proofs.Reached.{AreAlive-longer, HasMatch-prefix}

-- ---- what the NFA of a pattern finds

boundary : (text : List ℕ) → IsAscii text → (i : ℕ) → i ≤ length text → is_boundary text i ≡ true
boundary text ascii i le = test_of_IsCharBoundary text i (le, λ inside high. absurd (omega (arith, ascii i)))

pub find_str-finds_by : (nfa : Nfa) (re : Re) → Implements nfa re → (text : List ℕ) → IsAscii text → is_some (find_str re text 0) ≡ finds_by nfa text
unfolding find_str find_in
find_str-finds_by nfa re implements text ascii =
    ap is_some
    (first_between_cong (λ i. if is_boundary text i then attempt text re accept i else None) (run nfa text (length text) nfa.start) 0 (length text)
    (λ i p q. cond-true (is_boundary text i) (attempt text re accept i) None (boundary text ascii i q) ∙ sym (implements text i)))
    ∙ sym (is_some-option_map (λ m. m.trace) (first_between (run nfa text (length text) nfa.start) 0 (length text)))
    ∙ ap is_some (sym (run_unanchored nfa text (length text) 0 (bytes_of text (All-from_ascii text ascii)) (omega arith) (omega arith)))

-- of two patterns that match texts of letters alike, both find a match or none does
pub find_str_same : (a b : Re) → SameInLetters a b → (text : List ℕ) → AreLetters text → is_some (find_str a text 0) ≡ is_some (find_str b text 0)
unfolding find_str
find_str_same a b same text letters =
    ap is_some
    (first_between_cong (λ i. if is_boundary text i then attempt text a accept i else None)
    (λ i. if is_boundary text i then attempt text b accept i else None) 0 (length text)
    (λ i p q. ap (λ o. if is_boundary text i then o else None) (same.at text letters accept i)))

-- ---- matches and paths

module _ (nfa : Nfa) (text : List ℕ) where
  HasMatch-of_Accepts : (end q i : ℕ) → Accepts nfa text (length text) end q i → Reaches nfa text q i → HasMatch nfa text end
  HasMatch-of_Accepts end q i (matched _ _ is e) h = record { state = q; reached = subst (Reaches nfa text q) e h; match_state = is }
  HasMatch-of_Accepts end q i (skipped _ _ r edge rest) h = HasMatch-of_Accepts end r i rest (skips r i q h edge)
  HasMatch-of_Accepts end q i (consumed _ _ r edge rest) h =
      HasMatch-of_Accepts end r (i + 1) rest
      (reads r (i + 1) q i edge.0 h (byte_below_some text (length text) i edge.0 edge.1).1 edge.2 refl)

  Accepts-of_Reaches : (end q i : ℕ) → Reaches nfa text q i → Accepts nfa text (length text) end q i
      → Accepts nfa text (length text) end nfa.unanchored 0
  Accepts-of_Reaches end q i (begins _ _ is start) path =
      subst (λ x. Accepts nfa text (length text) end x 0) is (subst (Accepts nfa text (length text) end q) start path)
  Accepts-of_Reaches end q i (reads _ _ p j b reached read goes next) path =
      Accepts-of_Reaches end p j reached
      (consumed p j q (b, byte_below-length text j ∙ read, goes) (subst (Accepts nfa text (length text) end q) next path))
  Accepts-of_Reaches end q i (skips _ _ p reached edge) path = Accepts-of_Reaches end p i reached (skipped p i q edge path)

  match_of_finds_by : finds_by nfa text ≡ true → (i : ℕ) × (i ≤ length text) × HasMatch nfa text i
  match_of_finds_by h =
      let found = value_of_IsSome (run nfa text (length text) nfa.unanchored 0) h in
      let path = Accepts-of_run nfa text (length text) nfa.unanchored 0 found.0 found.1 in
      let span = Accepts_span nfa text (length text) found.0.end nfa.unanchored 0 path in (
        found.0.end,
        omega arith,
        HasMatch-of_Accepts found.0.end nfa.unanchored 0 path (begins nfa.unanchored 0 refl refl),
      )

  finds_by_of_match : (i : ℕ) → HasMatch nfa text i → finds_by nfa text ≡ true
  finds_by_of_match i m =
      IsSome-run_of_Accepts nfa text (length text) i nfa.unanchored 0
      (Accepts-of_Reaches i m.state i m.reached (matched m.state i m.match_state refl))

-- ---- one more letter

module _ (nfa : Nfa) (pattern : List ℕ) (searches : SearchesFor nfa pattern) where
  pub finds_match : (text : List ℕ) → AreLetters text → (i : ℕ) → HasMatch nfa text i → finds pattern text ≡ true
  finds_match text letters i m = searches text letters ∙ finds_by_of_match nfa text i m

  -- if a text has no match, a longer one has none unless it ends where the text ended, or later
  pub finds_no_more : (text : List ℕ) (b : ℕ) → AreLetters text → AreLetters (text ++ b ∷ []) → (1 ≤ length text → finds pattern text ≡ false)
      → ¬ (HasMatch nfa (text ++ b ∷ []) (length text)) → ¬ (HasMatch nfa (text ++ b ∷ []) (length text + 1))
      → finds pattern (text ++ b ∷ []) ≡ false
  finds_no_more text b letters all quiet before behind =
      ⊎_elim
      (λ (found : finds pattern (text ++ b ∷ []) ≡ true).
      let m = match_of_finds_by nfa (text ++ b ∷ []) (sym (searches (text ++ b ∷ []) all) ∙ found) in
      let len = length-append text (b ∷ []) in
      ⊎_elim
      (λ (inside : m.0 < length text).
      absurd (true≢false (sym (finds_match text letters m.0 (HasMatch-prefix nfa text (b ∷ []) (ascii_of text letters) m.0 inside m.2)) ∙ quiet (omega arith))))
      (λ (late : length text ≤ m.0).
      ⊎_elim
      (λ (last : length text < m.0).
      let within = m.1 in let same : m.0 ≡ length text + 1 = omega arith in absurd (behind (subst (HasMatch nfa (text ++ b ∷ [])) same m.2)))
      (λ (here : m.0 ≤ length text). let same : m.0 ≡ length text = omega arith in absurd (before (subst (HasMatch nfa (text ++ b ∷ [])) same m.2)))
      (cases_lt (length text) m.0))
      (cases_lt m.0 (length text)))
      (λ none. none)
      (cases_Bool (finds pattern (text ++ b ∷ [])))

-- ---- the same for a text that is spelled elsewhere

pub AreAlive-pushed : (nfa : Nfa) (old text : List ℕ) (b : ℕ) (states : List ℕ) → AreLetters old → text ≡ old ++ b ∷ []
    → AreAlive nfa old (length old) states → AreAlive nfa text (length text - 1) states
AreAlive-pushed nfa old text b states letters e alive =
    let len : length text - 1 ≡ length old = omega (arith, ap length e ∙ length-append old (b ∷ [])) in
    subst (λ n. AreAlive nfa text n states) (sym len)
    (subst (λ t. AreAlive nfa t (length old) states) (sym e) (AreAlive-longer nfa old (b ∷ []) (ascii_of old letters) (length old) states (omega arith) alive))

module _ (nfa : Nfa) (pattern : List ℕ) (searches : ∥ SearchesFor nfa pattern ∥₁) where
  pub heard_match : (text spelled : List ℕ) → text ≡ spelled → AreLetters spelled → (i : ℕ) × HasMatch nfa text i → finds pattern spelled ≡ true
  heard_match text spelled e letters found =
      ∥∥₁_elim searches (≡_prop coded_bool _ _)
      (λ s. finds_match nfa pattern s spelled letters found.0 (subst (λ t. HasMatch nfa t found.0) e found.1))

  pub heard_nothing : (old text spelled : List ℕ) (b : ℕ) → AreLetters old → IsLetter b → (1 ≤ length old → finds pattern old ≡ false)
      → text ≡ old ++ b ∷ [] → ¬ (HasMatch nfa text (length text - 1)) → ¬ (HasMatch nfa text (length text)) → spelled ≡ old ++ b ∷ []
      → finds pattern spelled ≡ false
  heard_nothing old text spelled b letters letter quiet e before behind same =
      let len = ap length e ∙ length-append old (b ∷ []) in
      let first : length text - 1 ≡ length old = omega arith in
      let last : length text ≡ length old + 1 = omega arith in
      ∥∥₁_elim searches (≡_prop coded_bool _ _)
      (λ s. ap (finds pattern) same
      ∙ finds_no_more nfa pattern s old b letters (All-push IsLetter old b letters letter) quiet
      (λ m. before (subst (HasMatch nfa text) (sym first) (subst (λ t. HasMatch nfa t (length old)) (sym e) m)))
      (λ m. behind (subst (HasMatch nfa text) (sym last) (subst (λ t. HasMatch nfa t (length old + 1)) (sym e) m))))
