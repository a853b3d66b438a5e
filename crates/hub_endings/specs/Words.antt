-- What is wrong with words.
use Rattle.std.specs.Prelude.{◌≡◌, ℕ, ◌<◌, ◌≤◌, true, false, Bool, List, Option, None, Some, Result, Ok, Err}
use Rattle.std.specs.List.{list_any}
use Rattle.hub_ask.specs.Durations.{SpellsDuration}
use Rattle.hub_ask.specs.declared.duration.TheConstants.{MOST_MILLIS}
use Rattle.hub_client.specs.Passing.{has_lf}
use Rattle.hub_endings.specs.declared.ending.BadWords.{BadWords}
use Rattle.hub_endings.specs.declared.ending.BadWords.TheVariants as bad
use Rattle.hub_endings.specs.declared.ending.Ending.{Ending}
use Rattle.hub_endings.specs.declared.ending.Ending.TheVariants.{Refused, Stopped, Unreached, Failed}
use Rattle.hub_endings.specs.declared.fault.Fault.TheVariants.{Memory}

-- whether one of these words has an LF; text gives the bytes of a word
abbrev pub any_breaks : {T : Type 0} → (text : T → List ℕ) → List T → Bool
any_breaks text words = list_any (λ word. has_lf (text word)) words

-- it is no duration, or one that is too long
abbrev pub IsNoDuration : (duration : List ℕ) → Type 0
IsNoDuration duration = (millis : ℕ) → SpellsDuration duration millis → MOST_MILLIS < millis

-- the words are refused by the name of this duration, unless it has an LF
abbrev pub NamesDuration : (duration : List ℕ) → BadWords → Type 0
NamesDuration duration bad.Word = has_lf duration ≡ true
NamesDuration duration (bad.Duration text) = (has_lf duration ≡ false) × (text.bytes.items ≡ duration)
NamesDuration duration other = ⊥

-- the milliseconds of a duration
abbrev pub IsLimitOf : (duration : List ℕ) → Result (Option ℕ) Ending → Type 0
IsLimitOf duration (Ok None) = ⊥
IsLimitOf duration (Ok (Some millis)) = SpellsDuration duration millis × (millis ≤ MOST_MILLIS)
IsLimitOf duration (Err (Refused words)) = IsNoDuration duration × NamesDuration duration words
IsLimitOf duration (Err (Stopped report)) = ⊥
IsLimitOf duration (Err (Unreached hub)) = ⊥
IsLimitOf duration (Err (Failed fault)) = IsNoDuration duration × (fault ≡ Memory)

-- those of the duration that is told, or none if none is told; text gives its bytes
abbrev pub IsLimit : {T : Type 0} → (text : T → List ℕ) → Option T → Result (Option ℕ) Ending → Type 0
IsLimit text None result = result ≡ Ok None
IsLimit text (Some duration) result = IsLimitOf (text duration) result
