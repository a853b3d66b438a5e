-- Modes, spans, wants, states, wills and policies with the same spelling are one.
use Rattle.std.proofs.Common.{◌≡◌, ◌≢◌, ℕ, List, false, refl, sym, ◌∙◌}
use Rattle.std.specs.Str.{bytes_eq}
use Rattle.std.proofs.lemmas.Slice.Eq.{bytes_eq-Decides}
use Rattle.std.proofs.lemmas.Bool.{false≢true}
use Rattle.hub_letters.specs.declared.want.Want.{Want}
use Rattle.hub_letters.specs.declared.want.Want.TheVariants.{Up, Ready, Down, Finished, Restarted, RestartedReady}
use Rattle.hub_letters.specs.declared.state.State.{State}
use Rattle.hub_letters.specs.declared.state.State.TheVariants as state
use Rattle.hub_letters.specs.declared.mode.Mode.{Mode}
use Rattle.hub_letters.specs.declared.mode.Mode.TheVariants.{Once, Repeat}
use Rattle.hub_letters.specs.declared.span.Span.{Span}
use Rattle.hub_letters.specs.declared.span.Span.TheVariants.{All, Any}
use Rattle.hub_requests.specs.declared.will.Will.{Will}
use Rattle.hub_requests.specs.declared.will.Will.TheVariants as will
use Rattle.hub_protocol.specs.Spelling.{text_of_mode, text_of_span, text_of_state, text_of_want, text_of_will}

-- texts that a test tells apart
pub apart : (a b : List ℕ) → bytes_eq a b ≡ false → a ≢ b
apart a b other e = false≢true (sym other ∙ (bytes_eq-Decides a b).1 e)

pub same_mode : (a b : Mode) → text_of_mode a ≡ text_of_mode b → a ≡ b
same_mode Once Once e = refl
same_mode Repeat Repeat e = refl
same_mode a b e = absurd (apart (text_of_mode a) (text_of_mode b) refl e)

pub same_span : (a b : Span) → text_of_span a ≡ text_of_span b → a ≡ b
same_span All All e = refl
same_span Any Any e = refl
same_span a b e = absurd (apart (text_of_span a) (text_of_span b) refl e)

pub same_want : (a b : Want) → text_of_want a ≡ text_of_want b → a ≡ b
same_want Up Up e = refl
same_want Ready Ready e = refl
same_want Down Down e = refl
same_want Finished Finished e = refl
same_want Restarted Restarted e = refl
same_want RestartedReady RestartedReady e = refl
same_want a b e = absurd (apart (text_of_want a) (text_of_want b) refl e)

pub same_state : (a b : State) → text_of_state a ≡ text_of_state b → a ≡ b
same_state state.Off state.Off e = refl
same_state state.Down state.Down e = refl
same_state state.Up state.Up e = refl
same_state state.Ready state.Ready e = refl
same_state state.Failed state.Failed e = refl
same_state a b e = absurd (apart (text_of_state a) (text_of_state b) refl e)

pub same_will : (a b : Will) → text_of_will a ≡ text_of_will b → a ≡ b
same_will will.Off will.Off e = refl
same_will will.Down will.Down e = refl
same_will will.Failed will.Failed e = refl
same_will will.None will.None e = refl
same_will a b e = absurd (apart (text_of_will a) (text_of_will b) refl e)
