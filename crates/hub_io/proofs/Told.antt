-- Counts of faults, from one call to the next.
use Rattle.std.proofs.Common.{◌≡◌, ℕ, ◌+◌, ◌<◌, zero, suc, Option, None, Some, Ok, ap, ◌∙◌, arith}
use Rattle.hub_io.specs.Telling.{Rises, faults_of_write}

pub Grows-none : (a : Option ℕ) → Rises a a 0
Grows-none None = tt
Grows-none (Some k) = let e : k ≡ k + 0 = omega arith in ap Some e

pub Rises-add : (a b c : Option ℕ) (m n : ℕ) → Rises a b m → Rises b c n → Rises a c (m + n)
Rises-add None b c m n p q = tt
Rises-add (Some k) None c m n p q = cc
Rises-add (Some k) (Some l) c m n p q =
    let e : l ≡ k + m = cc in
    let s : l + n ≡ k + (m + n) = omega arith in
    q ∙ ap Some s

pub Rises-trans : (a b c : Option ℕ) (n : ℕ) → Rises a b 0 → Rises b c n → Rises a c n
Rises-trans None b c n p q = tt
Rises-trans (Some k) None c n p q = cc
Rises-trans (Some k) (Some m) c n p q = let e : m ≡ k + 0 = cc in let s : m + n ≡ k + n = omega arith in q ∙ ap Some s

-- a write that took some bytes isn't a fault
pub taken-Rises : (E : Type 0) (a b : Option ℕ) (n : ℕ) → 0 < n → Rises a b (faults_of_write {E = E} (Ok n)) → Rises a b 0
taken-Rises E a b zero some g = absurd (omega arith)
taken-Rises E a b (suc n) some g = g
