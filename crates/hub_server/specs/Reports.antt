-- What a report shows.
use Rattle.std.specs.Prelude.{ℕ, Bool, List, Result}
use Rattle.std.specs.List.{AllZip}
use Rattle.hub_front.specs.Serving.{Asking}
use Rattle.hub_front.specs.declared.stay.Stay.{Stay}
use Rattle.hub_io.specs.declared.fault.FrontError.{FrontError}
use Rattle.hub_server.specs.Gates.{Giving, Closing, IsAsked, ThenCloses}
use Rattle.hub_io.specs.Counted.{Reading, Writing}
use Rattle.hub_server.specs.Sessions.{IsResult}

-- each session, which may stay so long, has its result, in order
abbrev pub AreResults : {D R W : Type 0} → Stay → (D → Type 0) → Asking D → (D → D → Type 0) → Reading R → Writing W → List (R × W) → List (Result ℕ FrontError) → Type 0
AreResults stay begins asks ends r w = AllZip (λ session result. IsResult stay begins asks ends r w session.0 session.1 result)

-- if at most `most` sessions are wanted, each of which may stay so long: the sessions that the gate gave have these results,
-- `failed` says whether it failed, and it was closed
pub record IsReport {D R W G : Type 0} (stay : Stay) (begins : D → Type 0) (asks : Asking D) (ends : D → D → Type 0) (r : Reading R) (w : Writing W)
    (gives : Giving G R W) (closes : Closing G) (most : ℕ) (old new : G) (results : List (Result ℕ FrontError)) (failed : Bool) : Type 0 where
  pub given : List (R × W)
  pub asked : ThenCloses closes (λ last. IsAsked gives most old given failed last) new
  pub each : AreResults stay begins asks ends r w given results
