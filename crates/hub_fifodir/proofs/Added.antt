-- What a publisher's call shows, once its message was added or refused: m0 is before the lock, m1 with it, and m3 after it.
use Rattle.std.proofs.Common.{◌≡◌, ◌≢◌, ℕ, Bool, true, false, not, nat_eq, ◌+◌, ◌<◌, List, ◌++◌, length, take, Option, Some, None, Result, Ok, Err, IfOk, IfErr, OnErr, OnOk, refl, sym, ap, ◌∙◌, subst, inl, inr, arith, length-append}
use Rattle.std.specs.Option.{option_eq}
use Rattle.std.proofs.Math.Seq.{take-append_seam}
use Rattle.std.proofs.lemmas.Bool.{cases_Bool, eqb-true, eq-eqb}
use Rattle.hub_letters.specs.declared.state.State.{State}
use Rattle.hub_letters.specs.States.{word_behind, is_at_end}
use Rattle.hub_letters.proofs.Told.{brings}
use Rattle.hub_record.specs.declared.Event.{Event}
use Rattle.hub_record.specs.declared.Kind.{Kind}
use Rattle.hub_record.specs.declared.Kind.TheVariants.{Service}
use Rattle.hub_record.specs.declared.PubError.{PubError}
use Rattle.hub_record.specs.World.{World, letters, as_events, last_publisher, IsLawfulIn}
use Rattle.hub_fifodir.specs.Locks.{RepresentsWorld}
use Rattle.hub_record.proofs.Keeps.{length_stamped}
use Rattle.hub_record.proofs.Publishing.{letters_after}
use Rattle.hub_fifodir.specs.declared.views.Sight.{Sight}
use Rattle.hub_fifodir.specs.declared.locked.Locked.{Locked}
use Rattle.hub_fifodir.specs.Rule.{book_of, IsBehind, IsSound}
use Rattle.hub_fifodir.specs.Steps.{M, Locks, Grows, IsWriter, mine_of}
use Rattle.hub_fifodir.specs.Passes.{HasAdded, IsRefusedBy}
use Rattle.hub_fifodir.proofs.Logs.{starts_more}
use Rattle.hub_fifodir.proofs.Publishing.{knew_own, role_held}

-- the message of the publisher n was accepted, and its first event has this number
abbrev IsPublished : M → M → ℕ → List ℕ → ℕ → Type 0
IsPublished m0 m3 n message first = (m3.0.sight.closed ≡ 0) × (first + length message ≡ length m3.0.sight.seen) × (mine_of m3.0.role ≡ mine_of m0.0.role ++ message)
    × ((others : List Event) × (m3.0.sight.seen ≡ (m0.0.sight.seen ++ others) ++ as_events n message))

module _ (m0 m1 m3 : M) (n : ℕ) (b : Locked) (w : IsWriter m0 n) (h : Locks book_of IsBehind IsSound m0.0 m1.0 b) (message : List ℕ) where
  pub grows : (r : Result ℕ PubError) → HasAdded m1 n message r m3 → Grows m0.0.sight m3.0.sight
  grows (Ok first) a = subst (Grows m0.0.sight) (sym a.3) (
    starts_more m1.0.sight.seen (as_events n message) m0.0.sight.seen h.renews.grows.0,
    λ k. absurd (k (sym (ap (λ (s : Sight). s.closed) (h.renews.grows.1 k)) ∙ a.0)),
  )
  grows (Err e) a = subst (Grows m0.0.sight) (sym a.1) h.renews.grows

  pub knew : (r : Result ℕ PubError) → HasAdded m1 n message r m3 → 0 < n → m3.0.sight.closed ≡ n → m0.0.sight.closed ≢ 0
  knew (Ok first) a pos e = let z : m3.0.sight.closed ≡ 0 = ap (λ (s : Sight). s.closed) a.3 in absurd (omega arith)
  knew (Err e) a pos is = knew_own m0 m1 n b w h pos (sym (ap (λ (s : Sight). s.closed) a.1) ∙ is)

  pub published : (r : Result ℕ PubError) → HasAdded m1 n message r m3 → IfOk r (IsPublished m0 m3 n message)
  published (Ok first) a = let seen : m3.0.sight.seen ≡ m1.0.sight.seen ++ as_events n message = ap (λ (s : Sight). s.seen) a.3 in (
    ap (λ (s : Sight). s.closed) a.3,
    ap (λ (x : ℕ). x + length message) a.1 ∙ sym (ap length seen ∙ length-append m1.0.sight.seen (as_events n message) ∙ ap (λ (x : ℕ). length m1.0.sight.seen + x) (length_stamped n message)),
    a.4 ∙ ap (λ (l : List ℕ). l ++ message) (ap mine_of (role_held m0 m1 n b w h)),
    (h.renews.grows.0.0, seen ∙ ap (λ (l : List Event). l ++ as_events n message) h.renews.grows.0.1),
  )
  published (Err e) a = tt

  pub kept : (r : Result ℕ PubError) → HasAdded m1 n message r m3 → OnErr r (mine_of m3.0.role ≡ mine_of m0.0.role)
  kept (Ok first) a = tt
  kept (Err e) a = ap mine_of a.2 ∙ ap mine_of (role_held m0 m1 n b w h)

  pub refused : (r : Result ℕ PubError) → HasAdded m1 n message r m3 → IfErr r (λ e. IsRefusedBy m3.0.rules m3.0.sight message e)
  refused (Ok first) a = tt
  refused (Err e) a = subst (λ x. IsRefusedBy x m3.0.sight message e) (sym a.0) (subst (λ s. IsRefusedBy m1.0.rules s message e) (sym a.1) a.3)

pub rules_now : (m1 m3 : M) (n : ℕ) (message : List ℕ) (r : Result ℕ PubError) → HasAdded m1 n message r m3 → m3.0.rules ≡ m1.0.rules
rules_now m1 m3 n message (Ok first) a = a.2
rules_now m1 m3 n message (Err e) a = a.0

-- what was seen before the message
seen_before : (m1 m3 : M) (n : ℕ) (message : List ℕ) (first : ℕ) → HasAdded m1 n message (Ok first) m3 → take first m3.0.sight.seen ≡ m1.0.sight.seen
seen_before m1 m3 n message first a = (λ i. take (a.1 i) (a.3 i).seen) ∙ take-append_seam m1.0.sight.seen (as_events n message)

-- ---- the message is the word for a state

module _ (m0 m1 m3 : M) (n : ℕ) (b : Locked) (w : IsWriter m0 n) (h : Locks book_of IsBehind IsSound m0.0 m1.0 b) (state : State) (message : List ℕ)
    (is : message ≡ word_behind state (letters m1.0.sight.seen)) where
  pub told : (r : Result ℕ PubError) → HasAdded m1 n message r m3
      → IfOk r (λ first. IsPublished m0 m3 n (word_behind state (letters (take first m3.0.sight.seen))) first)
  told (Ok first) a =
      subst (λ (x : List ℕ). IsPublished m0 m3 n x first) (is ∙ ap (λ (l : List Event). word_behind state (letters l)) (sym (seen_before m1 m3 n message first a)))
      (published m0 m1 m3 n b w h message (Ok first) a)
  told (Err e) a = tt

  pub is_there : (r : Result ℕ PubError) → HasAdded m1 n message r m3 → m1.0.rules.kind ≡ Service → OnOk r (is_at_end state (letters m3.0.sight.seen) ≡ true)
  is_there (Ok first) a kind =
      ap (λ (s : Sight). is_at_end state (letters s.seen)) a.3
      ∙ ap (is_at_end state) (letters_after m1.0.sight.seen n message ∙ ap (λ (l : List ℕ). letters m1.0.sight.seen ++ l) is)
      ∙ brings state (letters m1.0.sight.seen) (subst (λ (k : Kind). IsLawfulIn k (letters m1.0.sight.seen)) kind h.renews.sound_is.1)
  is_there (Err e) a kind = tt

  pub untold : (r : Result ℕ PubError) → HasAdded m1 n message r m3
      → IfErr r (λ e. IsRefusedBy m3.0.rules m3.0.sight (word_behind state (letters m3.0.sight.seen)) e)
  untold (Ok first) a = tt
  untold (Err e) a = subst (λ (x : List ℕ). IsRefusedBy m3.0.rules m3.0.sight x e)
      (is ∙ ap (λ (s : Sight). word_behind state (letters s.seen)) (sym a.1))
      (refused m0 m1 m3 n b w h message (Err e) a)

-- the word behind the record is the word behind what was seen of it
pub word_seen : (m0 m1 : M) (b : Locked) (h : Locks book_of IsBehind IsSound m0.0 m1.0 b) (state : State) (message : List ℕ)
    → ((w : World) → RepresentsWorld b w → message ≡ word_behind state (letters w.events)) → message ≡ word_behind state (letters m1.0.sight.seen)
word_seen m0 m1 b h state message e = e h.behind.world h.behind.for ∙ ap (λ (l : List Event). word_behind state (letters l)) h.behind.events

-- ---- the last event was the publisher's own

module _ (m1 m3 : M) (n : ℕ) (message : List ℕ) (own : last_publisher m1.0.sight.seen ≡ Some n) where
  pub was_last : (r : Result ℕ PubError) → HasAdded m1 n message r m3 → IfOk r (λ first. last_publisher (take first m3.0.sight.seen) ≡ Some n)
  was_last (Ok first) a = ap last_publisher (seen_before m1 m3 n message first a) ∙ own
  was_last (Err e) a = tt

  pub still_last : (mine : List ℕ) (r : Result ℕ PubError) → HasAdded m1 n message r m3 → OnErr r (mine_of m3.0.role ≡ mine) → OnErr r ((last_publisher m3.0.sight.seen ≡ Some n) × (mine_of m3.0.role ≡ mine))
  still_last mine (Ok first) a same = tt
  still_last mine (Err e) a same = (ap (λ (s : Sight). last_publisher s.seen) a.1 ∙ own, same)

-- the last publisher of the record is that of what was seen of it
pub last_seen : (m0 m1 : M) (b : Locked) (h : Locks book_of IsBehind IsSound m0.0 m1.0 b) (last : Option ℕ) → ((w : World) → RepresentsWorld b w → last ≡ last_publisher w.events) → last ≡ last_publisher m1.0.sight.seen
last_seen m0 m1 b h last e = e h.behind.world h.behind.for ∙ ap last_publisher h.behind.events

-- what a comparison of the last publisher with a number says
pub own_by : (last : Option ℕ) (n : ℕ) (differs : Bool) → differs ≡ not (option_eq nat_eq last (Some n)) → differs ≡ false → last ≡ Some n
own_by None n differs e f = absurd (let k : true ≡ false = sym e ∙ f in cc)
own_by (Some p) n differs e f = elim (cases_Bool (nat_eq p n)) [
  | inl same ↦ ap Some (eqb-true p n same)
  | inr other ↦ (let k : true ≡ false = sym (e ∙ ap not other) ∙ f in cc)
]

pub other_by : (last : Option ℕ) (n : ℕ) (differs : Bool) → differs ≡ not (option_eq nat_eq last (Some n)) → differs ≡ true → last ≡ Some n → ⊥
other_by last n differs e t own =
    let k : true ≡ false = sym t ∙ e ∙ ap (λ (o : Option ℕ). not (option_eq nat_eq o (Some n))) own ∙ ap not (eq-eqb n n refl) in cc
