-- What the result of a session shows.
use Rattle.std.proofs.Common.{◌≡◌, ℕ, ◌+◌, Option, None, Some, Err, refl, ap, arith}
use Rattle.hub_front.specs.Serving.{Asking}
use Rattle.hub_front.specs.declared.stay.Stay.{Stay}
use Rattle.hub_io.specs.Telling.{Rises}
use Rattle.hub_io.specs.declared.fault.FrontError.TheVariants.{Memory}
use Rattle.hub_io.specs.Counted.{Reading, Writing}
use Rattle.hub_server.specs.Sessions.{IsEnded}

-- a count that stays grew by none
grows_by_none : (told : Option ℕ) → Rises told told 0
grows_by_none None = tt
grows_by_none (Some k) = let same : k ≡ k + 0 = omega arith in ap Some same

-- memory ran out before a desk was opened
pub no_desk : {D R W : Type 0} (stay : Stay) (begins : D → Type 0) (asks : Asking D) (ends : D → D → Type 0) (r : Reading R) (w : Writing W) (reader : R) (writer : W)
    → IsEnded stay begins asks ends r w reader reader writer writer (Err Memory)
no_desk stay begins asks ends r w reader writer = record {
  served = λ other. absurd (other refl);
  untouched = λ same. (refl, refl);
  reads = (0, (omega arith), grows_by_none (r.reads reader), λ turns. absurd (cc turns));
  read_faults = grows_by_none (r.faults reader);
  write_faults = grows_by_none (w.faults writer);
}
