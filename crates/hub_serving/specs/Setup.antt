-- What a setup does: the lines that a hub carries out before it listens.
use Rattle.std.specs.Prelude.{◌≡◌, ◌⊎◌, ℕ, ◌+◌, ⊤, Bool, true, false, not, ◌==◌, List, [], ◌∷◌, ◌++◌, length, filter, All, Result, Ok, Err}
use Rattle.hub_front.specs.Serving.{Asking, AnswersLine, Run}
use Rattle.hub_requests.specs.declared.reply.Reply.{Reply}
use Rattle.hub_requests.specs.declared.reply.Reply.TheVariants.{No}
use Rattle.hub_endings.specs.declared.fault.Fault.{Fault}
use Rattle.hub_endings.specs.declared.fault.Fault.TheVariants.{Memory, SetupLine}
use Rattle.hub_endings.specs.declared.refused_line.RefusedLine.{RefusedLine}

-- whether a line asks for something: it isn't empty, and no comment
abbrev pub asks_something : List ℕ → Bool
asks_something [] = false
asks_something (b ∷ bs) = not (b == 35)

-- the lines that ask for something
abbrev pub asking_of : List (List ℕ) → List (List ℕ)
asking_of lines = filter asks_something lines

abbrev pub IsNoRefusal : Reply → Type 0
IsNoRefusal (No refusal) = ⊥
IsNoRefusal other = ⊤

-- The desk was asked what the lines spell that ask for something, one after another, and nothing else. It refused none of it.
pub record AreCarriedOut {D : Type 0} (asks : Asking D) (old : D) (lines : List (List ℕ)) (new : D) : Type 0 where
  pub replies : List Reply
  pub run : Run asks old (asking_of lines) replies new
  pub accepted : All IsNoRefusal replies

-- The lines before the first one that is refused were carried out, and none behind it was asked. Lines are numbered from 1.
pub record IsRefusedAt {D : Type 0} (asks : Asking D) (old : D) (lines : List (List ℕ)) (at : RefusedLine) (new : D) : Type 0 where
  pub front : List (List ℕ)
  pub line : List ℕ
  pub after : List (List ℕ)
  pub among : lines ≡ front ++ line ∷ after
  pub number : at.number ≡ length front + 1
  pub asking : asks_something line ≡ true
  pub mid : D
  pub before : AreCarriedOut asks old front mid
  pub refused : AnswersLine asks mid line (No at.refusal) new

-- all of the lines were carried out, or one was refused
abbrev pub AsksLines : {D : Type 0} → Asking D → D → List (List ℕ) → D → Result (Unit {0}) RefusedLine → Type 0
AsksLines asks old lines new (Ok done) = AreCarriedOut asks old lines new
AsksLines asks old lines new (Err at) = IsRefusedAt asks old lines at new

-- a session that carried out the lines, or was refused one, and then ended
abbrev pub SetsUp : {D : Type 0} → Asking D → (ends : D → D → Type 0) → D → List (List ℕ) → D → Result (Unit {0}) RefusedLine → Type 0
SetsUp {D} asks ends old lines new result = (mid : D) × AsksLines asks old lines mid result × ends mid new

-- what the program tells of a setup
abbrev pub setup_fault : Result (Unit {0}) RefusedLine → Result (Unit {0}) Fault
setup_fault (Ok done) = Ok done
setup_fault (Err at) = Err (SetupLine at)

-- A session over a desk that begins so set the hub up, and that is what is told. Or there was no memory for the desk.
abbrev pub IsSetUp : {D : Type 0} → (begins : D → Type 0) → Asking D → (ends : D → D → Type 0) → List (List ℕ) → Result (Unit {0}) Fault → Type 0
IsSetUp {D} begins asks ends lines told = (told ≡ Err Memory)
    ⊎ ((old new : D) × (done : Result (Unit {0}) RefusedLine) × begins old × SetsUp asks ends old lines new done × (told ≡ setup_fault done))
