-- What the threads of the sessions promise.
use Rattle.std.specs.Prelude.{◌≡◌, All, List, Option, map, IfSome, IfNone, IsSome}
use Rattle.std.specs.declared.thread.PromisedHandle.{PromisedHandle}
use Rattle.hub_front.specs.declared.stay.Stay.{Stay}
use Rattle.hub_server.specs.declared.promise.Session.{Session}

-- the thread has this promise until it is joined, and its result keeps it then
pub record IsKept {T P : Type 0} (kept_by : P → T → Type 0) (promise : P) (thread : Option (PromisedHandle T P)) (result : Option T) : Type 0 where
  pub runs : IfSome thread (λ handle. handle.promise ≡ promise)
  pub ended : IfSome result (kept_by promise)
  pub joined : IfNone thread (IsSome result)

-- the reader and the writer of each session
abbrev pub streams_of : {R W O : Type 0} → List (Session R W O) → List (R × W)
streams_of = map (λ session. (session.reader.value, session.writer.value))

-- what shares the desks of these: it opens such desks too, for sessions that may stay as long
pub record IsShare {O D : Type 0} (opens : O → D → Type 0) (stay : O → Stay) (desks share : O) : Type 0 where
  pub opened : (desk : D) → opens share desk → opens desks desk
  pub as_long : stay share ≡ stay desks

-- each has its desk from a share of these
abbrev pub AreOver : {R W O D : Type 0} → (O → D → Type 0) → (O → Stay) → O → List (Session R W O) → Type 0
AreOver opens stay desks = All (λ session. IsShare opens stay desks session.desks.value)
