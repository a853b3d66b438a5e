-- The second socket of a hub, at which sessions only look.
use Rattle.std.specs.Prelude.{ℕ, Option, None, Some}
use Rattle.hub_options.specs.declared.serving.LookOptions.{LookOptions}
use Rattle.hub_endings.specs.declared.listening.LookListening.{LookListening}
use Rattle.hub_server.specs.Quotas.{most_looking}

-- what is told of it where there may be so many sessions at both
abbrev pub look_listening : (sessions : ℕ) → Option LookOptions → Option LookListening
look_listening sessions None = None
look_listening sessions (Some look) = Some (record { socket = look.socket; mode = look.mode; sessions = most_looking sessions })
