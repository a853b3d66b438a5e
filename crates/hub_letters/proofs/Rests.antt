-- What may follow at a stage, with the O's left out.
use Rattle.std.proofs.Common.{ℕ, suc, zero, ◌≡◌, Bool, true, false, List, [], ◌∷◌, ◌++◌, Option, Some, None, filter, take, refl, sym, ap, subst, ◌⊎◌, inl, inr}
use Rattle.std.specs.List.{flat_map}
use Rattle.hub_letters.specs.declared.stage.Stage.{Stage}
use Rattle.hub_letters.specs.declared.stage.Stage.TheVariants.{Off, Idle, Starting, Ready, Ending}
use Rattle.hub_letters.specs.Marks.{Mark, Began, Ran, Reported, Died, Finished, GaveUp, Exited}
use Rattle.hub_letters.specs.Lawful.{is_kept, Block, Silent, Loud, block_marks, Segment, exit_marks, segment_marks}
use Rattle.hub_letters.specs.Stages.{next_by}

-- the rest of a row; `begun` is what is left of the block that has begun
pub record Rest (begun : List Mark) (ms : List Mark) : Type 0 where
  pub blocks : List Block
  pub cut : ℕ
  pub exits : Bool
  pub segments : List Segment
  pub spelled : ms ≡ (take cut (begun ++ flat_map block_marks blocks) ++ exit_marks exits) ++ flat_map segment_marks segments

abbrev pub Left : Stage → List Mark → Type 0
Left Off ms = (gs : List Segment) × (ms ≡ flat_map segment_marks gs)
Left Idle ms = Rest [] ms
Left Starting ms = Rest (Died ∷ Finished ∷ []) ms ⊎ Rest (Reported ∷ Died ∷ Finished ∷ []) ms
Left Ready ms = Rest (Died ∷ Finished ∷ []) ms
Left Ending ms = Rest (Finished ∷ []) ms

abbrev pub LeftIn : Option Stage → List Mark → Type 0
LeftIn None ms = ⊥
LeftIn (Some q) ms = Left q ms

at_end : (begun : List Mark) → Rest begun []
at_end begun = record { blocks = []; cut = 0; exits = false; segments = []; spelled = refl }

pub nothing : (q : Stage) → Left q []
nothing Off = ([], refl)
nothing Idle = at_end _
nothing Starting = inl (at_end _)
nothing Ready = at_end _
nothing Ending = at_end _

-- ---- one more mark before the others

one_more : (m : Mark) (begun ms : List Mark) → Rest begun ms → Rest (m ∷ begun) (m ∷ ms)
one_more m begun ms r = record { blocks = r.blocks; cut = suc r.cut; exits = r.exits; segments = r.segments; spelled = ap (λ z. m ∷ z) r.spelled }

opens : (ms : List Mark) → Left Starting ms → Rest [] (Ran ∷ ms)
opens ms (inl r) = record { blocks = Silent ∷ r.blocks; cut = suc r.cut; exits = r.exits; segments = r.segments; spelled = ap (λ z. Ran ∷ z) r.spelled }
opens ms (inr r) = record { blocks = Loud ∷ r.blocks; cut = suc r.cut; exits = r.exits; segments = r.segments; spelled = ap (λ z. Ran ∷ z) r.spelled }

exits_now : (begun ms : List Mark) → Left Off ms → Rest begun (Exited ∷ ms)
exits_now begun ms r = record { blocks = []; cut = 0; exits = true; segments = r.0; spelled = ap (λ z. Exited ∷ z) r.1 }

begins : (ms : List Mark) → Left Idle ms → Left Off (Began ∷ ms)
begins ms r = (record { blocks = r.blocks; cut = r.cut; exits = r.exits } ∷ r.segments, ap (λ z. Began ∷ z) r.spelled)

cuts : (begun ms : List Mark) → Left Off ms → Rest begun ms
cuts begun ms r = record { blocks = []; cut = 0; exits = false; segments = r.0; spelled = r.1 }

-- the marks of a word with one more mark before it
pub back : (q : Stage) (m : Mark) (w : List Mark) → LeftIn (next_by q m) (filter is_kept w) → Left q (filter is_kept (m ∷ w))
back Off Began w r = begins _ r
back Idle Began w r = cuts _ _ (begins _ r)
back Idle Ran w r = opens _ r
back Idle Exited w r = exits_now _ _ r
back Starting Began w r = inl (cuts _ _ (begins _ r))
back Starting Reported w r = inr (one_more _ _ _ r)
back Starting Died w r = inl (one_more _ _ _ r)
back Starting Exited w r = inl (exits_now _ _ r)
back Ready Began w r = cuts _ _ (begins _ r)
back Ready Died w r = one_more _ _ _ r
back Ready Exited w r = exits_now _ _ r
back Ending Began w r = cuts _ _ (begins _ r)
back Ending Finished w r = one_more _ _ _ r
back Ending Exited w r = exits_now _ _ r
back Idle GaveUp w r = r
back Starting GaveUp w r = r
back Ready GaveUp w r = r
back Ending GaveUp w r = r
back q m w r = absurd r

-- ---- the first mark removed

data Peel (begun : List Mark) (m : Mark) (ms : List Mark) : Type 0 where
  More : (rest : List Mark) → begun ≡ m ∷ rest → Rest rest ms → Peel begun m ms
  Opens : begun ≡ [] → m ≡ Ran → Left Starting ms → Peel begun m ms
  Leaves : m ≡ Exited → Left Off ms → Peel begun m ms
  Begins : m ≡ Began → Left Idle ms → Peel begun m ms

ended : (begun : List Mark) (m : Mark) (ms : List Mark) (exits : Bool) (gs : List Segment) → m ∷ ms ≡ exit_marks exits ++ flat_map segment_marks gs → Peel begun m ms
ended begun m ms true gs e = Leaves (cc) (gs, cc)
ended begun m ms false [] e = cc
ended begun m ms false (g ∷ gs) e = Begins (cc) (record { blocks = g.blocks; cut = g.cut; exits = g.exits; segments = gs; spelled = cc })

peel : (begun : List Mark) (m : Mark) (ms : List Mark) (cut : ℕ) (blocks : List Block) (exits : Bool) (gs : List Segment) → m ∷ ms ≡ (take cut (begun ++ flat_map block_marks blocks) ++ exit_marks exits) ++ flat_map segment_marks gs → Peel begun m ms
peel begun m ms zero blocks exits gs e = ended begun m ms exits gs e
peel [] m ms (suc n) [] exits gs e = ended [] m ms exits gs e
peel [] m ms (suc n) (Silent ∷ bs) exits gs e = Opens refl (cc) (inl record { blocks = bs; cut = n; exits = exits; segments = gs; spelled = cc })
peel [] m ms (suc n) (Loud ∷ bs) exits gs e = Opens refl (cc) (inr record { blocks = bs; cut = n; exits = exits; segments = gs; spelled = cc })
peel (a ∷ begun) m ms (suc n) blocks exits gs e = More begun (cc) record { blocks = blocks; cut = n; exits = exits; segments = gs; spelled = cc }

peeled : (begun : List Mark) (m : Mark) (ms : List Mark) → Rest begun (m ∷ ms) → Peel begun m ms
peeled begun m ms r = peel begun m ms r.cut r.blocks r.exits r.segments r.spelled

off : (m : Mark) (ms : List Mark) (gs : List Segment) → m ∷ ms ≡ flat_map segment_marks gs → LeftIn (next_by Off m) ms
off m ms [] e = cc
off m ms (g ∷ gs) e =
    let is : Began ≡ m = cc in
    let r : Rest [] ms = record { blocks = g.blocks; cut = g.cut; exits = g.exits; segments = gs; spelled = cc } in
    subst (λ z. LeftIn (next_by Off z) ms) is r

idle : (m : Mark) (ms : List Mark) → Peel [] m ms → LeftIn (next_by Idle m) ms
idle m ms (More rest e r) = cc
idle m ms (Opens e is r) = subst (λ z. LeftIn (next_by Idle z) ms) (sym is) r
idle m ms (Leaves is r) = subst (λ z. LeftIn (next_by Idle z) ms) (sym is) r
idle m ms (Begins is r) = subst (λ z. LeftIn (next_by Idle z) ms) (sym is) r

-- at a stage inside a block that goes on with `a`, to the stage `to`
inside : (q to : Stage) (a : Mark) (rest : List Mark) (m : Mark) (ms : List Mark) → (Rest rest ms → LeftIn (next_by q a) ms) → (Left Off ms → LeftIn (next_by q Exited) ms) → (Left Idle ms → LeftIn (next_by q Began) ms) → Peel (a ∷ rest) m ms → LeftIn (next_by q m) ms
inside q to a rest m ms more leaves begins (More rest' e r) =
    let is : a ≡ m = cc in
    let same : rest' ≡ rest = cc in
    subst (λ z. LeftIn (next_by q z) ms) is (more (subst (λ z. Rest z ms) same r))
inside q to a rest m ms more leaves begins (Opens e is r) = cc
inside q to a rest m ms more leaves begins (Leaves is r) = subst (λ z. LeftIn (next_by q z) ms) (sym is) (leaves r)
inside q to a rest m ms more leaves begins (Begins is r) = subst (λ z. LeftIn (next_by q z) ms) (sym is) (begins r)

pub forth : (q : Stage) (m : Mark) (ms : List Mark) → Left q (m ∷ ms) → LeftIn (next_by q m) ms
forth Off m ms (gs, e) = off m ms gs e
forth Idle m ms r = idle m ms (peeled _ m ms r)
forth Starting m ms (inl r) = inside Starting Ending _ _ m ms (λ x. x) (λ x. x) (λ x. x) (peeled _ m ms r)
forth Starting m ms (inr r) = inside Starting Ready _ _ m ms (λ x. x) (λ x. x) (λ x. x) (peeled _ m ms r)
forth Ready m ms r = inside Ready Ending _ _ m ms (λ x. x) (λ x. x) (λ x. x) (peeled _ m ms r)
forth Ending m ms r = inside Ending Idle _ _ m ms (λ x. x) (λ x. x) (λ x. x) (peeled _ m ms r)
