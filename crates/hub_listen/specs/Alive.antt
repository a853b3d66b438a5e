-- The states of an NFA in which the searches of a text are alive. A search begins at each place of the text: before the
-- unanchored start of the NFA is a loop that reads any byte.
use Rattle.std.specs.Prelude.{◌≡◌, ◌≢◌, ◌⊎◌, ◌↔◌, ℕ, ◌+◌, ◌<◌, List, Some, slice_get, slice_index, Bool, length, is_some}
use Rattle.regex_nfa.specs.States.{next_on}
use Rattle.regex_nfa.specs.Run.{state_of, run}
use Rattle.regex_nfa.specs.Paths.{EmptyEdge}
use Rattle.regex_nfa.specs.declared.state.State.TheVariants.{Match}
use Rattle.regex_nfa.specs.declared.nfa.Nfa.{Nfa}
use Rattle.regex_dfa.specs.Moves.{Has}
use Rattle.hub_listen.specs.declared.alive.Alive.{Alive as Found}
use Rattle.hub_listen.specs.Hit.{finds}
use Rattle.hub_listen.specs.Letters.{AreLetters}

-- some search is in the state q at place i of the text
pub data Reaches (nfa : Nfa) (text : List ℕ) : ℕ → ℕ → Type 0 where
  begins : (q i : ℕ) → q ≡ nfa.unanchored → i ≡ 0 → Reaches nfa text q i
  reads : (q i p j b : ℕ) → Reaches nfa text p j → slice_get text j ≡ Some b
      → next_on nfa.transitions.items (state_of nfa p) b ≡ Some q → i ≡ j + 1 → Reaches nfa text q i
  skips : (q i p : ℕ) → Reaches nfa text p i → EmptyEdge nfa text i p q → Reaches nfa text q i

-- a search that was in some state just before the byte enters q when it reads the byte
pub record ReadsInto (nfa : Nfa) (text : List ℕ) (q i : ℕ) : Type 0 where
  pub from : ℕ
  pub place : ℕ
  pub byte : ℕ
  pub reached : Reaches nfa text from place
  pub read : slice_get text place ≡ Some byte
  pub goes : next_on nfa.transitions.items (state_of nfa from) byte ≡ Some q
  pub next : i ≡ place + 1

-- Some search enters the state q at place i: it reads the byte before i, or it begins. What comes at i has no part in
-- it.
abbrev pub Enters : Nfa → List ℕ → ℕ → ℕ → Type 0
Enters nfa text q i = ((q ≡ nfa.unanchored) × (i ≡ 0)) ⊎ ReadsInto nfa text q i

-- the states are those that some search enters at place i
abbrev pub AreAlive : Nfa → List ℕ → ℕ → List ℕ → Type 0
AreAlive nfa text i states = (q : ℕ) → Has states q ↔ Enters nfa text q i

-- some search is in each of the states at place i
abbrev pub AreReached : Nfa → List ℕ → ℕ → List ℕ → Type 0
AreReached nfa text i states = (q : ℕ) → Has states q → Reaches nfa text q i

-- a match ends at place i
pub record HasMatch (nfa : Nfa) (text : List ℕ) (i : ℕ) : Type 0 where
  pub state : ℕ
  pub reached : Reaches nfa text state i
  pub match_state : state_of nfa state ≡ Match

-- `states` has all of `seeds`, none in which no search is, and all to which empty edges lead from its first n. None of
-- these n is a match.
pub record ClosesBelow (nfa : Nfa) (text : List ℕ) (i : ℕ) (seeds states : List ℕ) (n : ℕ) : Type 0 where
  pub keeps : (q : ℕ) → Has seeds q → Has states q
  pub reached : AreReached nfa text i states
  pub closed : (k r : ℕ) → k < n → EmptyEdge nfa text i (slice_index states k) r → Has states r
  pub unmatched : (k : ℕ) → k < n → state_of nfa (slice_index states k) ≢ Match

-- `states` has those to which one of `reached` goes on the byte
abbrev pub AreRead : Nfa → ℕ → List ℕ → List ℕ → Type 0
AreRead nfa byte reached states =
    (r : ℕ) → Has states r ↔ ((q : ℕ) × Has reached q × (next_on nfa.transitions.items (state_of nfa q) byte ≡ Some r))

-- there is room for this many states
abbrev pub HasRoom : Found → ℕ → Type 0
HasRoom alive count = (alive.states.count ≡ count) × (alive.reached.count ≡ count) × (alive.kept.count ≡ count)

-- ---- how an NFA is related to a pattern

-- the NFA finds a match in the text
abbrev pub finds_by : Nfa → List ℕ → Bool
finds_by nfa text = is_some (run nfa text (length text) nfa.unanchored 0)

-- the NFA finds a match in each text of letters in which the pattern does, and in no other
abbrev pub SearchesFor : Nfa → List ℕ → Type 0
SearchesFor nfa pattern = (text : List ℕ) → AreLetters text → finds pattern text ≡ finds_by nfa text
