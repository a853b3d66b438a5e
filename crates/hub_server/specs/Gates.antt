-- What a gate was asked for, and what it gave.
use Rattle.std.specs.Prelude.{◌≡◌, ◌⊎◌, ℕ, ◌<◌, ◌≤◌, Bool, true, false, List, [], ◌∷◌, length}
use Rattle.hub_server.specs.declared.gate.Next.{Next}
use Rattle.hub_server.specs.declared.gate.Next.TheVariants.{Session, Failed, Over}
use Rattle.hub_reports.specs.declared.report.ServeError.{ServeError}
use Rattle.hub_reports.specs.declared.report.ServeError.TheVariants.{Spawn}
use Rattle.hub_reports.specs.declared.spawning.NoThread.{NoThread}

-- how a gate gives: the gate before, what it gives, the gate after
abbrev pub Giving : Type 0 → Type 0 → Type 0 → Type 1
Giving G R W = G → Next R W → G → Type 0

-- how a gate closes: the gate before, the gate after
abbrev pub Closing : Type 0 → Type 1
Closing G = G → G → Type 0

-- the gate gave these sessions, one after another
abbrev pub Gave : {G R W : Type 0} → Giving G R W → G → List (R × W) → G → Type 0
Gave gives old [] new = new ≡ old
Gave {G} gives old (session ∷ sessions) new =
    (mid : G) × gives old (Session session.0 session.1) mid × Gave gives mid sessions new

-- Why a gate that had given `count` of at most `most` sessions gave no more: it wasn't asked again, or it failed
-- (`true`), or it was over.
abbrev pub Ends : {G R W : Type 0} → Giving G R W → (most count : ℕ) → G → Bool → G → Type 0
Ends gives most count old true new = (count < most) × gives old Failed new
Ends gives most count old false new = ((count ≡ most) × (new ≡ old)) ⊎ ((count < most) × gives old Over new)

-- All that a gate was asked for if at most `most` sessions are wanted: it gave these, and Ends says why it gave no
-- more.
pub record IsAsked {G R W : Type 0} (gives : Giving G R W) (most : ℕ) (old : G) (given : List (R × W)) (failed : Bool) (new : G) : Type 0 where
  pub gate : G
  pub gave : Gave gives old given gate
  pub ends : Ends gives most (length given) gate failed new

-- What a gate was asked for before an error: at most `most` sessions, and no more after it failed or was over. That a
-- thread couldn't be started is reported only if the gate had just given the session for it.
pub record StopsEarly {G R W : Type 0} (gives : Giving G R W) (most : ℕ) (old new : G) (error : ServeError) : Type 0 where
  pub given : List (R × W)
  pub gate : G
  pub gave : Gave gives old given gate
  pub few : length given ≤ most
  pub ends : (new ≡ gate) ⊎ (gives gate Failed new ⊎ gives gate Over new)
  pub spawn : (refused : NoThread) → error ≡ Spawn refused → (0 < length given) × (new ≡ gate)

-- this held for the gate when it was closed, and after that it wasn't called again
pub record ThenCloses {G : Type 0} (closes : Closing G) (before : G → Type 0) (new : G) : Type 0 where
  pub last : G
  pub asked : before last
  pub closed : closes last new
