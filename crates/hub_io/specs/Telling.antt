-- What is counted of readers and writers: how often they were called, and how often they failed.
use Rattle.std.specs.Prelude.{◌≡◌, ℕ, zero, suc, ◌+◌, ⊤, Option, None, Some, Result, Ok, Err}

-- a count, if it is known, grew by n
abbrev pub Rises : Option ℕ → Option ℕ → ℕ → Type 0
Rises None new n = ⊤
Rises (Some k) new n = new ≡ Some (k + n)

-- a read that fails is a fault
abbrev pub faults_of_read : {E : Type 0} → Result ℕ E → ℕ
faults_of_read (Ok n) = 0
faults_of_read (Err e) = 1

-- a write is a fault if it fails or takes no byte
abbrev pub faults_of_write : {E : Type 0} → Result ℕ E → ℕ
faults_of_write (Ok zero) = 1
faults_of_write (Ok (suc n)) = 0
faults_of_write (Err e) = 1
