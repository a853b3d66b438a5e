-- What the result of one session shows.
use Rattle.std.specs.Prelude.{◌≡◌, ◌≢◌, ℕ, Result, Err, IfOk, IfErr}
use Rattle.hub_io.specs.Faults.{read_faults, write_faults}
use Rattle.hub_front.specs.Serving.{Asking, Finished, ReadsWithin, most_reads}
use Rattle.hub_front.specs.declared.stay.Stay.{Stay}
use Rattle.hub_gather.specs.Gathering.{StoppedIn}
use Rattle.hub_io.specs.Counted.{Reading, Writing}
use Rattle.hub_io.specs.Telling.{Rises}
use Rattle.hub_io.specs.declared.fault.FrontError.{FrontError}
use Rattle.hub_io.specs.declared.fault.FrontError.TheVariants.{Memory}

-- a desk that begins so has served the lines of the reader, in a session that may stay so long, as far as the result says, and was ended
pub record IsServed {D R W : Type 0} (stay : Stay) (begins : D → Type 0) (asks : Asking D) (ends : D → D → Type 0) (r : Reading R) (w : Writing W)
    (reader read : R) (writer written : W) (result : Result ℕ FrontError) : Type 0 where
  pub old : D
  pub new : D
  pub begun : begins old
  pub finished : IfOk result (Finished asks ends old new (w.contents writer) (w.contents written) (r.remaining reader) (r.remaining read))
  pub stopped : IfErr result (StoppedIn stay asks ends old new (w.contents writer) (w.contents written) (r.remaining reader) (r.remaining read))

-- A session of this reader and this writer ended with this result, stayed no longer than it may, and left them so. If memory ran
-- out, nothing was read. An error is reported if its fault was counted, and only then.
pub record IsEnded {D R W : Type 0} (stay : Stay) (begins : D → Type 0) (asks : Asking D) (ends : D → D → Type 0) (r : Reading R) (w : Writing W)
    (reader read : R) (writer written : W) (result : Result ℕ FrontError) : Type 0 where
  pub served : result ≢ Err Memory → IsServed stay begins asks ends r w reader read writer written result
  pub untouched : result ≡ Err Memory → (read ≡ reader) × (written ≡ writer)
  pub reads : ReadsWithin (most_reads stay) (r.reads reader) (r.reads read) result
  pub read_faults : Rises (r.faults reader) (r.faults read) (read_faults result)
  pub write_faults : Rises (w.faults writer) (w.faults written) (write_faults result)

-- a session of this reader and this writer may have this result, whatever it left of them
pub record IsResult {D R W : Type 0} (stay : Stay) (begins : D → Type 0) (asks : Asking D) (ends : D → D → Type 0) (r : Reading R) (w : Writing W)
    (reader : R) (writer : W) (result : Result ℕ FrontError) : Type 0 where
  pub read : R
  pub written : W
  pub ended : IsEnded stay begins asks ends r w reader read writer written result
