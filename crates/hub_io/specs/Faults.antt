-- What is written at a fault, and the faults of an outcome.
use Rattle.std.specs.Prelude.{ℕ, ◌<◌, List, length, take, codes, Option, Result, Err}
use Rattle.std.specs.Io.KnownBytes.{Appends}
use Rattle.hub_io.specs.declared.fault.FrontError.{FrontError}
use Rattle.hub_io.specs.declared.fault.FrontError.TheVariants as fault
use Rattle.hub_io.specs.declared.fault.FrontError.TheVariants.{Read, Write, Turns}

-- a prefix of the bytes was written, and not all of them
pub record AppendsPart (held holds : Option (List ℕ)) (bytes : List ℕ) : Type 0 where
  pub count : ℕ
  pub part : count < length bytes
  pub written : Appends held holds (take count bytes)

-- the reader's faults: it stops at the first
abbrev pub read_faults : {T : Type 0} → Result T FrontError → ℕ
read_faults (Err Read) = 1
read_faults result = 0

-- the writer's faults: it stops at the first
abbrev pub write_faults : {T : Type 0} → Result T FrontError → ℕ
write_faults (Err Write) = 1
write_faults result = 0

-- the text of a fault
abbrev pub fault_text : FrontError → List ℕ
fault_text Read = codes "read failed"
fault_text Write = codes "write failed"
fault_text Turns = codes "too many reads"
fault_text fault.Memory = codes "out of memory"
