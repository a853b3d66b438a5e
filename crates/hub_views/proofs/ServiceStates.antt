-- The word for a service's state is that of its stage.
use Rattle.std.proofs.Common.{◌≡◌, ℕ, Bool, true, false, List, [], ◌∷◌, length, Option, Some, None, is_some, map, refl, sym, ap, ◌∙◌, arith}
use Rattle.hub_letters.specs.declared.flags.Flags.{Flags}
use Rattle.hub_letters.specs.declared.stage.Stage.{Stage}
use Rattle.hub_letters.specs.declared.stage.Stage.TheVariants as stage
use Rattle.hub_letters.specs.declared.state.State.{State}
use Rattle.hub_letters.specs.declared.state.State.TheVariants.{Off, Down, Up, Ready, Failed}
use Rattle.hub_letters.specs.Marks.{Mark, Began, Ran, Reported, Died, Finished, GaveUp, Exited, Other, mark, last_among, later, is_life, is_supervision, is_hope, is_began, is_gave_up}
use Rattle.hub_letters.specs.Flags.{up_by, settled_by, flags_of}
use Rattle.hub_letters.specs.Stages.{stage_where, stage_of}
use Rattle.hub_letters.specs.States.{is_at, is_at_end}
use Rattle.hub_protocol.specs.Spelling.{text_of_state}
use Rattle.hub_views.specs.ServiceStates.{stage_word, state_word}

abbrev flags : (up settled supervised failed : Bool) → Flags
flags up settled supervised failed = record { up = up; settled = settled; supervised = supervised; failed = failed }

-- ---- what the marks of a word say

abbrev is_life_or_none : Option Mark → Bool
is_life_or_none None = true
is_life_or_none (Some m) = is_life m

life_more : (m : Mark) (life : Option Mark) → is_life_or_none life ≡ true → is_life_or_none (later life (is_life m) m) ≡ true
life_more m (Some n) h = h
life_more Began None h = refl
life_more Ran None h = refl
life_more Reported None h = refl
life_more Died None h = refl
life_more Finished None h = refl
life_more GaveUp None h = refl
life_more Exited None h = refl
life_more Other None h = refl

last_is_life : (ms : List Mark) → is_life_or_none (last_among is_life ms) ≡ true
last_is_life [] = refl
last_is_life (m ∷ ms) = life_more m (last_among is_life ms) (last_is_life ms)

-- a start of the supervisor bears on its service's life
start_more : (m : Mark) (life supervision : Option Mark) → (is_began supervision ≡ true → is_some life ≡ true)
    → is_began (later supervision (is_supervision m) m) ≡ true → is_some (later life (is_life m) m) ≡ true
start_more m (Some n) supervision h e = refl
start_more m None (Some k) h e = absurd (let z = h e in cc)
start_more Began None None h e = refl
start_more Ran None None h e = refl
start_more Reported None None h e = refl
start_more Died None None h e = refl
start_more Finished None None h e = refl
start_more GaveUp None None h e = absurd (let z = e in cc)
start_more Exited None None h e = absurd (let z = e in cc)
start_more Other None None h e = absurd (let z = e in cc)

start_is_life : (ms : List Mark) → is_began (last_among is_supervision ms) ≡ true → is_some (last_among is_life ms) ≡ true
start_is_life [] e = absurd (let z = e in cc)
start_is_life (m ∷ ms) e = start_more m (last_among is_life ms) (last_among is_supervision ms) (start_is_life ms) e

-- ---- the stage's word

by_marks : (b : Bool) (m : Option Mark) (f : Bool) → is_life_or_none m ≡ true → (b ≡ true → is_some m ≡ true)
    → state_word (flags (up_by m) (settled_by m) b f) ≡ stage_word (stage_where b m) (flags (up_by m) (settled_by m) b f)
by_marks false m f l h = refl
by_marks true None f l h = absurd (let z = h refl in cc)
by_marks true (Some Began) f l h = refl
by_marks true (Some Ran) f l h = refl
by_marks true (Some Reported) f l h = refl
by_marks true (Some Died) f l h = refl
by_marks true (Some Finished) f l h = refl
by_marks true (Some GaveUp) f l h = absurd (let z = l in cc)
by_marks true (Some Exited) f l h = absurd (let z = l in cc)
by_marks true (Some Other) f l h = absurd (let z = l in cc)

pub is_of_stage : (word : List ℕ) → state_word (flags_of word) ≡ stage_word (stage_of word) (flags_of word)
is_of_stage word =
    let ms = map mark word in
    by_marks (is_began (last_among is_supervision ms)) (last_among is_life ms) (is_gave_up (last_among is_hope ms)) (last_is_life ms) (start_is_life ms)

-- ---- the states of `tell`

at_stage : (it : State) (q : Stage) (u s v f : Bool) → stage_word q (flags u s v f) ≡ text_of_state it → is_at it q (flags u s v f) ≡ true
at_stage Off stage.Off false s v f e = refl
at_stage Down stage.Idle u s v false e = refl
at_stage Up stage.Starting u s v f e = refl
at_stage Ready stage.Ready u s v f e = refl
at_stage Failed stage.Idle u s v true e = refl
at_stage it stage.Off true s v f e = let lengths = ap length e in absurd (omega (arith, lengths))
at_stage it stage.Off false s v f e = let lengths = ap length e in absurd (omega (arith, lengths))
at_stage it stage.Idle u s v true e = let lengths = ap length e in absurd (omega (arith, lengths))
at_stage it stage.Idle u s v false e = let lengths = ap length e in absurd (omega (arith, lengths))
at_stage it q u s v f e = let lengths = ap length e in absurd (omega (arith, lengths))

pub is_told : (it : State) (word : List ℕ) → state_word (flags_of word) ≡ text_of_state it → is_at_end it word ≡ true
is_told it word e =
    let f = flags_of word in
    at_stage it (stage_of word) f.up f.settled f.supervised f.failed (sym (is_of_stage word) ∙ e)
