-- A fact that holds at every outcome.
use Rattle.std.proofs.Common.{◌≡◌, Result, Ok, Err, OnOk, OnErr, IfOk, IfErr, sym, subst}
use Rattle.hub_io.specs.declared.fault.FrontError.{FrontError}
use Rattle.hub_io.specs.declared.fault.FrontError.TheVariants.{Write, Turns}

pub OnErr-known : {T E P : Type 0} (r : Result T E) → P → OnErr r P
OnErr-known (Ok x) p = tt
OnErr-known (Err e) p = p

-- the error is known
pub IfErr-known : {T E : Type 0} (P : E → Type 0) (r : Result T E) (e : E) → r ≡ Err e → P e → IfErr r P
IfErr-known P r e is p = subst (λ x. IfErr x P) (sym is) p

pub IfOk-from : {T E P : Type 0} (Q R : T → Type 0) (r : Result T E) → ((x : T) → P → Q x → R x) → OnOk r P → IfOk r Q → IfOk r R
IfOk-from Q R (Ok x) f p q = f x p q
IfOk-from Q R (Err e) f p q = tt

pub IfErr-from : {T E P : Type 0} (Q R : E → Type 0) (r : Result T E) → ((e : E) → P → Q e → R e) → OnErr r P → IfErr r Q → IfErr r R
IfErr-from Q R (Ok x) f p q = tt
IfErr-from Q R (Err e) f p q = f e p q

-- a fault of the writer isn't the end of the reads
pub only_write : {T : Type 0} (r : Result T FrontError) → IfErr r (λ e. e ≡ Write) → r ≡ Err Turns → ⊥
only_write (Ok x) fault turns = cc
only_write (Err e) fault turns = let it : e ≡ Turns = cc in let other : Write ≡ Turns = cc in cc
