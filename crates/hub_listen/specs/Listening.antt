-- What a listener holds, and what a piece of letters does to it.
use Rattle.std.specs.Prelude.{◌≡◌, ℕ, ◌+◌, ◌-◌, ◌≤◌, ◌<◌, Bool, true, false, List, [], ◌∷◌, ◌++◌, length, take, min, Result, Ok, Err}
use Rattle.hub_letters.specs.declared.mode.TheConstants.{MOST_GATHERED}
use Rattle.hub_listen.specs.Hit.{IsHit, HasNoHit}
use Rattle.hub_letters.specs.declared.mode.Mode.{Mode}
use Rattle.hub_letters.specs.declared.mode.Mode.TheVariants.{Once, Repeat}
use Rattle.hub_listen.specs.declared.feed.Feed.{Feed}
use Rattle.hub_listen.specs.declared.feed.Feed.TheVariants.{Spent, Hit, Quiet}
use Rattle.hub_listen.specs.declared.feed.FeedError.{FeedError}
use Rattle.hub_listen.specs.declared.feed.FeedError.TheVariants.{Overlong, Memory}

pub record Listening : Type 0 where
  pub pattern : List ℕ
  pub mode : Mode
  -- the letters since the last hit
  pub gathered : List ℕ
  -- the letters of the last hit; none before the first hit
  pub hit : List ℕ

-- a listener that has heard nothing
abbrev pub new_listening : List ℕ → Mode → Listening
new_listening pattern mode = record { pattern = pattern; mode = mode; gathered = []; hit = [] }

-- in mode Once, a listener is spent after its hit
abbrev pub spent_by : Mode → List ℕ → Bool
spent_by Once [] = false
spent_by Once (x ∷ hit) = true
spent_by Repeat hit = false

abbrev pub is_spent : Listening → Bool
is_spent l = spent_by l.mode l.hit

-- after a hit of the first k letters of the piece
abbrev pub after_hit : Listening → List ℕ → ℕ → Listening
after_hit l piece k = record l { gathered = []; hit = l.gathered ++ take k piece }

-- after a piece without a hit
abbrev pub after_quiet : Listening → List ℕ → Listening
after_quiet l piece = record l { gathered = l.gathered ++ piece }

-- how many of the letters fit
abbrev pub fitting : Listening → List ℕ → ℕ
fitting l letters = min (length letters) (MOST_GATHERED - length l.gathered)

-- The piece took the listener from `old` to `new`, with this answer. No piece is answered Memory.
abbrev pub Feeds : Listening → List ℕ → Result Feed FeedError → Listening → Type 0
Feeds old piece (Ok Spent) new = (is_spent old ≡ true) × (new ≡ old)
Feeds old piece (Ok (Hit k)) new =
    (is_spent old ≡ false) × IsHit old.pattern old.gathered piece k × (new ≡ after_hit old piece k)
Feeds old piece (Ok Quiet) new =
    (is_spent old ≡ false) × HasNoHit old.pattern old.gathered piece × (length old.gathered + length piece ≤ MOST_GATHERED)
    × (new ≡ after_quiet old piece)
Feeds old piece (Err Overlong) new =
    (is_spent old ≡ false) × HasNoHit old.pattern old.gathered piece × (MOST_GATHERED < length old.gathered + length piece)
    × (new ≡ old)
Feeds old piece (Err Memory) new = ⊥
