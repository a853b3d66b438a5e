-- What is counted of readers and writers.
use Rattle.std.specs.Prelude.{ℕ, List, Option}

-- what is counted of readers: what they have left, how many reads were made, and how many of them failed
pub record Reading (R : Type 0) : Type 0 where
  pub remaining : R → Option (List ℕ)
  pub reads : R → Option ℕ
  pub faults : R → Option ℕ

-- what is counted of writers: what they have got, and how many writes failed
pub record Writing (W : Type 0) : Type 0 where
  pub contents : W → Option (List ℕ)
  pub faults : W → Option ℕ
