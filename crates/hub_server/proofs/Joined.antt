-- What joined threads returned.
use Rattle.std.proofs.Common.{subst, ℕ, List, [], ◌∷◌, ◌++◌, Result}
use Rattle.std.specs.Prelude.{All}
use Rattle.std.specs.List.{AllZip}
use Rattle.std.proofs.lemmas.List.Elements.{All-head, All-tail}
use Rattle.hub_front.specs.Serving.{Asking}
use Rattle.hub_io.specs.declared.fault.FrontError.{FrontError}
use Rattle.hub_front.specs.declared.stay.Stay.{Stay}
use Rattle.hub_io.specs.Counted.{Reading, Writing}
use Rattle.hub_server.specs.Sessions.{IsResult}
use Rattle.hub_server.specs.declared.promise.Session.{Session}
use Rattle.hub_server.specs.Promised.{AreOver, IsShare, streams_of}
use Rattle.hub_server.specs.Reports.{AreResults}

-- each result keeps the promise of the session at its place
pub kept_in_order : {R W O : Type 0} (K : Session R W O → Result ℕ FrontError → Type 0) (Q : R × W → Result ℕ FrontError → Type 0) (T : Session R W O → Type 0)
    → ((session : Session R W O) (r : Result ℕ FrontError) → T session → K session r → Q (session.reader.value, session.writer.value) r)
    → (sessions : List (Session R W O)) (results : List (Result ℕ FrontError)) → All T sessions → AllZip K sessions results
    → AllZip Q (streams_of sessions) results
kept_in_order K Q T keeps [] [] such each = tt
kept_in_order K Q T keeps [] (r ∷ rs) such each = absurd each
kept_in_order K Q T keeps (s ∷ ss) [] such each = absurd each
kept_in_order K Q T keeps (s ∷ ss) (r ∷ rs) such each =
    (keeps s r (All-head T s ss such) each.0, kept_in_order K Q T keeps ss rs (All-tail T s ss such) each.1)

-- a result by a desk that begins so is one by a desk that begins as these say
result_by : {D R W : Type 0} (stay : Stay) (begins begins' : D → Type 0) (asks : Asking D) (ends : D → D → Type 0) (r : Reading R) (w : Writing W)
    (reader : R) (writer : W) (result : Result ℕ FrontError) → ((desk : D) → begins desk → begins' desk)
    → IsResult stay begins asks ends r w reader writer result → IsResult stay begins' asks ends r w reader writer result
result_by stay begins begins' asks ends r w reader writer result widens it = record {
  read = it.read;
  written = it.written;
  ended = record {
    served = λ other. let served = it.ended.served other in record {
      old = served.old;
      new = served.new;
      begun = widens served.old served.begun;
      finished = served.finished;
      stopped = served.stopped;
    };
    untouched = it.ended.untouched;
    reads = it.ended.reads;
    read_faults = it.ended.read_faults;
    write_faults = it.ended.write_faults;
  };
}

-- a result by a share of these desks is one by these
result_by_share : {O D R W : Type 0} (opens : O → D → Type 0) (stay : O → Stay) (asks : Asking D) (ends : D → D → Type 0) (r : Reading R) (w : Writing W)
    (desks share : O) (reader : R) (writer : W) (result : Result ℕ FrontError) → IsShare opens stay desks share
    → IsResult (stay share) (opens share) asks ends r w reader writer result → IsResult (stay desks) (opens desks) asks ends r w reader writer result
result_by_share opens stay asks ends r w desks share reader writer result shares it =
    subst (λ n. IsResult n (opens desks) asks ends r w reader writer result) shares.as_long
    (result_by (stay share) (opens share) (opens desks) asks ends r w reader writer result shares.opened it)

-- the results of sessions whose desks are from shares of these
pub results_in_order : {O D R W : Type 0} (opens : O → D → Type 0) (stay : O → Stay) (asks : Asking D) (ends : D → D → Type 0) (r : Reading R) (w : Writing W)
    (desks : O) (sessions : List (Session R W O)) (results : List (Result ℕ FrontError)) → AreOver opens stay desks sessions
    → AllZip (λ session result. IsResult (stay session.desks.value) (opens session.desks.value) asks ends r w session.reader.value session.writer.value result) sessions results
    → AreResults (stay desks) (opens desks) asks ends r w (streams_of sessions) results
results_in_order opens stay asks ends r w desks sessions results over each =
    kept_in_order (λ session result. IsResult (stay session.desks.value) (opens session.desks.value) asks ends r w session.reader.value session.writer.value result)
    (λ streams result. IsResult (stay desks) (opens desks) asks ends r w streams.0 streams.1 result)
    (λ session. IsShare opens stay desks session.desks.value)
    (λ session result shares kept. result_by_share opens stay asks ends r w desks session.desks.value session.reader.value session.writer.value result shares kept)
    sessions results over each

-- one more at the end of each
pub AllZip-push : {X Y : Type 0} (R : X → Y → Type 0) (xs : List X) (ys : List Y) (x : X) (y : Y) → AllZip R xs ys → R x y → AllZip R (xs ++ x ∷ []) (ys ++ y ∷ [])
AllZip-push R [] [] x y each r = (r, tt)
AllZip-push R [] (b ∷ ys) x y each r = absurd each
AllZip-push R (a ∷ xs) [] x y each r = absurd each
AllZip-push R (a ∷ xs) (b ∷ ys) x y each r = (each.0, AllZip-push R xs ys x y each.1 r)
