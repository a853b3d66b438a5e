-- What is above the rows of a table.
use Rattle.std.proofs.Common.{◌≡◌, ℕ, ◌==◌, true, false, length, List, [], ◌∷◌, ◌++◌, codes, Result, Ok, Err, OnOk, is_ok, if◌then◌else◌, subst, arith}
use Rattle.std.proofs.lemmas.Bool.{eqb-true}
use Rattle.hub_look.specs.Tables.{head_of, headings_of, width_of}

-- words, since there is no name
pub headings_none : {Word T E : Type 0} (text : Word → List ℕ) (names : List Word) (table grown : List ℕ) (result : Result T E)
    → (length names == 0) ≡ true → grown ≡ (if is_ok result then table ++ codes "no services\n" else table) → OnOk result (grown ≡ table ++ headings_of text names)
headings_none text [] table grown (Ok done) none put = put
headings_none text (n ∷ names) table grown (Ok done) none put = let is : length (n ∷ names) ≡ 0 = eqb-true (length (n ∷ names)) 0 none in absurd (omega arith)
headings_none text names table grown (Err error) none put = tt

pub headings_some : {Word T E : Type 0} (text : Word → List ℕ) (names : List Word) (width : ℕ) (table grown : List ℕ) (result : Result T E)
    → (length names == 0) ≡ false → width ≡ width_of text names → OnOk result (grown ≡ table ++ head_of width) → OnOk result (grown ≡ table ++ headings_of text names)
headings_some text [] width table grown result some wide put = absurd (let k = some in cc)
headings_some text (n ∷ names) width table grown result some wide put = subst (λ w. OnOk result (grown ≡ table ++ head_of w)) wide put
