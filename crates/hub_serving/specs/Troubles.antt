-- When a hub says that one of its fifodirs is in trouble.
use Rattle.std.specs.Prelude.{ℕ, ◌-◌, Bool, true, ◌&&◌, if◌then◌else◌, List, [], Option, None, Some, nat_lt}
use Rattle.hub_endings.specs.Faults.{line_with}
use Rattle.hub_endings.specs.Troubles.{trouble_text}
use Rattle.hub_endings.specs.declared.trouble.Trouble.{Trouble}
use Rattle.hub_endings.specs.declared.trouble.Trouble.TheVariants.{Refused, Evicted, Will}
use Rattle.hub_serving.specs.declared.troubles.TheConstants.{MINUTE}
use Rattle.hub_serving.specs.declared.troubles.Past.{Past}
use Rattle.hub_serving.specs.declared.troubles.Look.{Look}

-- whether more than a minute has passed since a line was told, or none was
abbrev pub is_past : (told : Option ℕ) → (now : ℕ) → Bool
is_past None now = true
is_past (Some second) now = nat_lt MINUTE (now - second)

-- a line is told of what has happened, unless one was told within the last minute
abbrev pub is_told : (happened : Bool) → (told : Option ℕ) → (now : ℕ) → Bool
is_told happened told now = happened && is_past told now

-- in which second a line was told last, after a look
abbrev pub told_after : (happened : Bool) → (told : Option ℕ) → (now : ℕ) → Option ℕ
told_after happened told now = if is_told happened told now then Some now else told

-- more subscriptions are evicted than at the look before
abbrev pub has_evicted : Past → Look → Bool
has_evicted past look = nat_lt past.evicted look.evicted

-- what is told of a publisher that was refused as full
abbrev pub refusal_of : Past → Look → Option Trouble
refusal_of past look = if is_told look.refused past.refusal look.now then Some (Refused look.pending) else None

-- what is told of a subscription that was evicted
abbrev pub eviction_of : Past → Look → Option Trouble
eviction_of past look = if is_told (has_evicted past look) past.eviction look.now then Some (Evicted look.limit) else None

-- what is told of a will that was lost
abbrev pub loss_of : Past → Look → Option Trouble
loss_of past look = if is_told look.lost past.loss look.now then Some (Will look.pending) else None

-- what is known after a look
abbrev pub past_after : Past → Look → Past
past_after past look = record {
  evicted = look.evicted;
  refusal = told_after look.refused past.refusal look.now;
  eviction = told_after (has_evicted past look) past.eviction look.now;
  loss = told_after look.lost past.loss look.now;
}

-- the line of a trouble of the fifodir with this name, with its LF, if there is one
abbrev pub trouble_line : (name : List ℕ) → Option Trouble → List ℕ
trouble_line name None = []
trouble_line name (Some trouble) = line_with (trouble_text name trouble)
