-- The sessions that two doors share. At the second door they only look.
use Rattle.std.specs.Prelude.{ℕ, suc, ◌+◌, ◌-◌, ◌<◌, ◌/◌, max}
use Rattle.hub_server.specs.declared.side.Side.{Side}
use Rattle.hub_server.specs.declared.side.Side.TheVariants.{First, Looking}

-- how many of so many sessions are kept for the first door: a quarter, at least one
abbrev pub kept_for_first : (sessions : ℕ) → ℕ
kept_for_first sessions = max 1 (sessions / 4)

-- how many of so many sessions may be those that only look
abbrev pub most_looking : (sessions : ℕ) → ℕ
most_looking sessions = sessions - kept_for_first sessions

-- One session more may be at this door: not all are taken. At the second door also none is taken that is kept for the first.
abbrev pub HasRoom : Side → (sessions first looking : ℕ) → Type 0
HasRoom First sessions first looking = first + looking < sessions
HasRoom Looking sessions first looking = (first + looking < sessions) × (looking < most_looking sessions)

-- how many sessions the first door and the second one have, after one more at this one
abbrev pub one_more : Side → ℕ × ℕ → ℕ × ℕ
one_more First (first, looking) = (suc first, looking)
one_more Looking (first, looking) = (first, suc looking)

-- the same after one less
abbrev pub one_less : Side → ℕ × ℕ → ℕ × ℕ
one_less First (first, looking) = (first - 1, looking)
one_less Looking (first, looking) = (first, looking - 1)
