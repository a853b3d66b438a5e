-- What a door gives, over a listener that says what it accepts.
use Rattle.std.specs.Prelude.{◌≡◌, ◌⊎◌, ℕ, zero, suc, Option, None, Some, Result, Ok, Err}
use Rattle.std.specs.IoError.{error_kind}
use Rattle.std.specs.declared.io.Error.{Error}
use Rattle.std.specs.declared.io.ErrorKind.TheVariants.{ConnectionAborted, Interrupted}
use Rattle.hub_server.specs.declared.gate.Next.{Next}
use Rattle.hub_server.specs.declared.gate.Next.TheVariants.{Session, Failed, Over}

-- how a listener accepts: the listener before, the two halves of a connection or a fault, the listener after
abbrev pub Accepting : Type 0 → Type 0 → Type 0 → Type 1
Accepting L R W = L → Result (R × W) Error → L → Type 0

-- the fault concerns one connection only: its client had left before, or a signal came
abbrev pub Passes : Error → Type 0
Passes fault = (error_kind fault ≡ ConnectionAborted) ⊎ (error_kind fault ≡ Interrupted)

-- so many accepts failed, each by a fault that passes
abbrev pub Passed : {L R W : Type 0} → Accepting L R W → ℕ → L → L → Type 0
Passed accepts zero old new = new ≡ old
Passed {L} accepts (suc count) old new = (mid : L) × (fault : Error) × Passed accepts count old mid × Passes fault × accepts mid (Err fault) new

-- one accept gave this: the halves of its connection, or it failed by a fault that doesn't pass
abbrev pub Accepts : {L R W : Type 0} → Accepting L R W → L → Next R W → L → Type 0
Accepts accepts old (Session reader writer) new = accepts old (Ok (reader, writer)) new
Accepts accepts old Failed new = (fault : Error) × (Passes fault → ⊥) × accepts old (Err fault) new
Accepts accepts old Over new = ⊥

-- All that a listener was asked for one session: it accepted again after each fault that passes, and gave what the last accept gave.
pub record AcceptsOne {L R W : Type 0} (accepts : Accepting L R W) (old : L) (next : Next R W) (new : L) : Type 0 where
  pub count : ℕ
  pub mid : L
  pub passed : Passed accepts count old mid
  pub last : Accepts accepts mid next new

-- what a door gives that has this listener, or is closed
abbrev pub Opens : {L R W : Type 0} → Accepting L R W → Option L → Next R W → Option L → Type 0
Opens accepts None next new = (next ≡ Over) × (new ≡ None)
Opens accepts (Some old) next None = ⊥
Opens accepts (Some old) next (Some new) = AcceptsOne accepts old next new
