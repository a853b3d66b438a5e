-- The word for a state, behind a lawful word, is lawful and brings the service there.
use Rattle.std.proofs.Common.{ℕ, ◌≡◌, Bool, true, false, List, [], ◌++◌, Option, Some, None, map, refl, sym, ap, ◌∙◌, ◌↔◌}
use Rattle.std.proofs.lemmas.List.{map-append}
use Rattle.hub_letters.specs.declared.flags.Flags.{Flags}
use Rattle.hub_letters.specs.declared.stage.Stage.{Stage}
use Rattle.hub_letters.specs.declared.stage.Stage.TheVariants as stage
use Rattle.hub_letters.specs.declared.state.State.{State}
use Rattle.hub_letters.specs.declared.state.State.TheVariants.{Off, Down, Up, Ready, Failed}
use Rattle.hub_letters.specs.Marks.{Mark, Began, Ran, Reported, mark, last_among, is_life, is_supervision, is_began}
use Rattle.hub_letters.specs.Flags.{up_by, flags_by, flags_of, flags_folded}
use Rattle.hub_letters.specs.Lawful.{IsLawful}
use Rattle.hub_letters.specs.Stages.{stage_where, stage_of, follow_by}
use Rattle.hub_letters.specs.States.{is_at, word_to, word_behind, is_at_end}
use Rattle.hub_letters.proofs.Folded.{flags_onward, follow_done}

-- a service that is supervised and down isn't up
down_at_idle : (b : Bool) (m : Option Mark) → stage_where b m ≡ stage.Idle → up_by m ≡ false
down_at_idle false m e = absurd (let z = e in cc)
down_at_idle true None e = refl
down_at_idle true (Some Began) e = refl
down_at_idle true (Some Ran) e = absurd (let z = e in cc)
down_at_idle true (Some Reported) e = absurd (let z = e in cc)
down_at_idle true (Some m) e = refl

abbrev flags : (up settled supervised failed : Bool) → Flags
flags up settled supervised failed = record { up = up; settled = settled; supervised = supervised; failed = failed }

-- where the word for a state leads, letter by letter
record Arrives (state : State) (from : Stage) (f : Flags) : Type 0 where
  to : Stage
  followed : follow_by (Some from) (map mark (word_to state from f)) ≡ Some to
  there : is_at state to (flags_folded f (map mark (word_to state from f))) ≡ true

arrives : (state : State) (from : Stage) (u s v f : Bool) → (from ≡ stage.Idle → u ≡ false) → Arrives state from (flags u s v f)
arrives Off stage.Off true s v f h = record { to = stage.Off; followed = refl; there = refl }
arrives Off stage.Off false s v f h = record { to = stage.Off; followed = refl; there = refl }
arrives Off stage.Idle true s v f h = absurd (let z = h refl in cc)
arrives Off stage.Idle false s v f h = record { to = stage.Off; followed = refl; there = refl }
arrives Off from u s v f h = record { to = stage.Off; followed = refl; there = refl }
arrives Down stage.Off u s v f h = record { to = stage.Idle; followed = refl; there = refl }
arrives Down stage.Idle u s v f h = record { to = stage.Idle; followed = refl; there = refl }
arrives Down stage.Starting u s v f h = record { to = stage.Idle; followed = refl; there = refl }
arrives Down stage.Ready u s v f h = record { to = stage.Idle; followed = refl; there = refl }
arrives Down stage.Ending u s v f h = record { to = stage.Idle; followed = refl; there = refl }
arrives Up stage.Off u s v f h = record { to = stage.Starting; followed = refl; there = refl }
arrives Up stage.Idle u s v f h = record { to = stage.Starting; followed = refl; there = refl }
arrives Up stage.Starting u s v f h = record { to = stage.Starting; followed = refl; there = refl }
arrives Up stage.Ready u s v f h = record { to = stage.Ready; followed = refl; there = refl }
arrives Up stage.Ending u s v f h = record { to = stage.Starting; followed = refl; there = refl }
arrives Ready stage.Off u s v f h = record { to = stage.Ready; followed = refl; there = refl }
arrives Ready stage.Idle u s v f h = record { to = stage.Ready; followed = refl; there = refl }
arrives Ready stage.Starting u s v f h = record { to = stage.Ready; followed = refl; there = refl }
arrives Ready stage.Ready u s v f h = record { to = stage.Ready; followed = refl; there = refl }
arrives Ready stage.Ending u s v f h = record { to = stage.Ready; followed = refl; there = refl }
arrives Failed stage.Off u s v true h = record { to = stage.Idle; followed = refl; there = refl }
arrives Failed stage.Idle u s v true h = record { to = stage.Idle; followed = refl; there = refl }
arrives Failed stage.Starting u s v true h = record { to = stage.Idle; followed = refl; there = refl }
arrives Failed stage.Ready u s v true h = record { to = stage.Idle; followed = refl; there = refl }
arrives Failed stage.Ending u s v true h = record { to = stage.Idle; followed = refl; there = refl }
arrives Failed stage.Off u s v false h = record { to = stage.Idle; followed = refl; there = refl }
arrives Failed stage.Idle u s v false h = record { to = stage.Idle; followed = refl; there = refl }
arrives Failed stage.Starting u s v false h = record { to = stage.Idle; followed = refl; there = refl }
arrives Failed stage.Ready u s v false h = record { to = stage.Idle; followed = refl; there = refl }
arrives Failed stage.Ending u s v false h = record { to = stage.Idle; followed = refl; there = refl }

module _ (state : State) (word : List ℕ) (l : IsLawful word) where
  abbrev f : Flags
  f = flags_of word

  arrived : Arrives state (stage_of word) (flags f.up f.settled f.supervised f.failed)
  arrived = arrives state (stage_of word) f.up f.settled f.supervised f.failed
      (down_at_idle (is_began (last_among is_supervision (map mark word))) (last_among is_life (map mark word)))

  done : IsLawful (word ++ word_behind state word) × (arrived.to ≡ stage_of (word ++ word_behind state word))
  done = follow_done word (word_behind state word) (stage_of word) arrived.to l refl arrived.followed

  pub is_lawful : IsLawful (word ++ word_behind state word)
  is_lawful = done.0

  pub brings : is_at_end state (word ++ word_behind state word) ≡ true
  brings =
      ap (λ z. is_at state z (flags_of (word ++ word_behind state word))) (sym done.1)
      ∙ ap (λ z. is_at state arrived.to (flags_by z)) (map-append mark word (word_behind state word))
      ∙ ap (is_at state arrived.to) (sym (flags_onward (map mark word) (map mark (word_behind state word))))
      ∙ arrived.there

empty_by : (state : State) (from : Stage) (u s v f : Bool) → (word_to state from (flags u s v f) ≡ []) ↔ (is_at state from (flags u s v f) ≡ true)
empty_by Off stage.Off true s v f = (λ e. absurd (let z = e in cc), λ e. absurd (let z = e in cc))
empty_by Off stage.Off false s v f = (λ e. refl, λ e. refl)
empty_by Failed stage.Idle u s v true = (λ e. refl, λ e. refl)
empty_by Failed from u s v true = (λ e. absurd (let z = e in cc), λ e. absurd (let z = e in cc))
empty_by Failed from u s v false = (λ e. absurd (let z = e in cc), λ e. absurd (let z = e in cc))
empty_by Down stage.Idle u s v f = (λ e. refl, λ e. refl)
empty_by Up stage.Starting u s v f = (λ e. refl, λ e. refl)
empty_by Up stage.Ready u s v f = (λ e. refl, λ e. refl)
empty_by Ready stage.Ready u s v f = (λ e. refl, λ e. refl)
empty_by state from u s v f = (λ e. absurd (let z = e in cc), λ e. absurd (let z = e in cc))

pub is_empty : (state : State) (word : List ℕ) → (word_behind state word ≡ []) ↔ (is_at_end state word ≡ true)
is_empty state word = let f = flags_of word in empty_by state (stage_of word) f.up f.settled f.supervised f.failed
