-- What a thread does that serves one session after the other: turns.
use Rattle.std.specs.Prelude.{◌≡◌, ◌≢◌, ◌⊎◌, ℕ, zero, suc, ◌<◌, ◌≤◌, Result, Ok, Err}
use Rattle.hub_io.specs.declared.fault.FrontError.{FrontError}
use Rattle.hub_io.specs.declared.fault.FrontError.TheVariants.{Memory}
use Rattle.hub_server.specs.Gates.{Giving}
use Rattle.hub_server.specs.declared.gate.Next.TheVariants.{Session, Failed, Over}
use Rattle.hub_server.specs.declared.lasting.TheConstants.{AGAIN, FEW_LINES}

-- how a session ends: its reader before and after, its writer before and after, its result
abbrev pub Ending : Type 0 → Type 0 → Type 1
Ending R W = (reader read : R) → (writer written : W) → Result ℕ FrontError → Type 0

-- What a journal learns: a session begins, and gets this number. The session with this number ended so, and left its reader and its
-- writer so. Something failed that is tried again.
pub record Telling (J R W : Type 0) : Type 1 where
  pub numbers : J → ℕ → J → Type 0
  pub tells : J → ℕ → R → W → Result ℕ FrontError → J → Type 0
  pub fails : J → J → Type 0

-- the journal was told so often that something failed, and nothing else
abbrev pub Fails : {J : Type 0} → (J → J → Type 0) → ℕ → J → J → Type 0
Fails fails zero old new = new ≡ old
Fails {J} fails (suc count) old new = (mid : J) × Fails fails count old mid × fails mid new

-- All that a journal learns of the session of this reader and this writer: it gave the number of the session. It was told of each try
-- that found no memory, and these are at most `again`. Then it was told once, under that number, what the session ended with. That is
-- want of memory only if the session was tried again `again` times.
pub record IsTold {J R W : Type 0} (t : Telling J R W) (again : ℕ) (ends : Ending R W) (reader : R) (writer : W) (result : Result ℕ FrontError)
    (old new : J) : Type 0 where
  pub number : ℕ
  pub begun : J
  pub numbered : t.numbers old number begun
  pub tries : ℕ
  pub tried : J
  pub waited : Fails t.fails tries begun tried
  pub few : tries ≤ again
  pub last : result ≡ Err Memory → tries ≡ again
  pub read : R
  pub written : W
  pub ended : ends reader read writer written result
  pub told : t.tells tried number read written result new

-- a session that ended so may have left much: it had many lines, or stopped while there was memory for it
abbrev pub LeavesMuch : Result ℕ FrontError → Type 0
LeavesMuch (Ok lines) = FEW_LINES < lines
LeavesMuch (Err fault) = fault ≢ Memory

-- the gate gave one session, and it was served and told with this result
pub record Serves {G J R W : Type 0} (gives : Giving G R W) (t : Telling J R W) (ends : Ending R W) (result : Result ℕ FrontError)
    (gate : G) (journal : J) (gate' : G) (journal' : J) : Type 0 where
  pub reader : R
  pub writer : W
  pub given : gives gate (Session reader writer) gate'
  pub told : IsTold t AGAIN ends reader writer result journal journal'

-- A turn that another one follows: a session was served that left little, or the gate failed and the journal was told, once.
abbrev pub GoesOn : {G J R W : Type 0} → Giving G R W → Telling J R W → Ending R W → G → J → G → J → Type 0
GoesOn gives t ends gate journal gate' journal' =
    ((result : Result ℕ FrontError) × (LeavesMuch result → ⊥) × Serves gives t ends result gate journal gate' journal')
    ⊎ (gives gate Failed gate' × t.fails journal journal')

-- so many such turns, one after another
abbrev pub Turns : {G J R W : Type 0} → Giving G R W → Telling J R W → Ending R W → ℕ → G → J → G → J → Type 0
Turns gives t ends zero gate journal gate' journal' = (gate' ≡ gate) × (journal' ≡ journal)
Turns {G} {J} gives t ends (suc count) gate journal gate' journal' =
    (mid : G) × (told : J) × Turns gives t ends count gate journal mid told × GoesOn gives t ends mid told gate' journal'

-- The last turn: the gate was over and nothing was told, or a session was served that may have left much.
abbrev pub IsLast : {G J R W : Type 0} → Giving G R W → Telling J R W → Ending R W → G → J → G → J → Type 0
IsLast gives t ends gate journal gate' journal' =
    (gives gate Over gate' × (journal' ≡ journal))
    ⊎ ((result : Result ℕ FrontError) × LeavesMuch result × Serves gives t ends result gate journal gate' journal')

-- all that was asked of a gate, and told to a journal: some turns, and a last one
pub record IsLasting {G J R W : Type 0} (gives : Giving G R W) (t : Telling J R W) (ends : Ending R W)
    (gate : G) (journal : J) (gate' : G) (journal' : J) : Type 0 where
  pub count : ℕ
  pub mid : G
  pub told : J
  pub turns : Turns gives t ends count gate journal mid told
  pub last : IsLast gives t ends mid told gate' journal'
