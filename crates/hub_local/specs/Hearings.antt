-- What a listener hears of the letters that it still has to hear.
use Rattle.std.specs.Prelude.{ℕ, ◌≡◌, ◌⊎◌, ◌+◌, ◌<◌, ◌≤◌, true, false, List, [], ◌∷◌, length, take, slice_get, Option, Some, None, Result, Ok, Err}
use Rattle.hub_letters.specs.declared.mode.TheConstants.{MOST_GATHERED}
use Rattle.hub_listen.specs.Hit.{IsHit, HasNoHit}
use Rattle.hub_listen.specs.Listening.{Listening, Feeds, after_hit, after_quiet, fitting}
use Rattle.hub_listen.specs.declared.feed.Feed.TheVariants as fed
use Rattle.hub_record.specs.Kept.{Kept, Represents}
use Rattle.hub_record.specs.World.{World, letters, subscription_in, after_take}
use Rattle.hub_local.specs.Polls.{waiting_for, is_out, to_hear, taken_from}
use Rattle.hub_local.specs.declared.local_desk.LocalListener.{LocalListener}
use Rattle.hub_local.specs.declared.local_desk.listeners.Heard.{Heard}
use Rattle.hub_local.specs.declared.local_desk.listeners.Heard.TheVariants.{Hit, Nothing, End, Evicted, Lacking}

-- the letters behind the cursor
abbrev pub behind : World → ℕ → List ℕ
behind w id = letters (waiting_for w (subscription_in w id))

-- the next of them was taken, or there is none
abbrev pub TakesOne : World → ℕ → Result ℕ Heard → Kept → Type 0
TakesOne w id (Ok x) kept = (rest : List ℕ) × (behind w id ≡ x ∷ rest) × Represents kept (after_take w id 1)
TakesOne w id (Err Nothing) kept = (behind w id ≡ []) × (w.closed ≡ false) × Represents kept w × (is_out w id ≡ false)
TakesOne w id (Err End) kept = (behind w id ≡ []) × (w.closed ≡ true) × Represents kept w × (is_out w id ≡ false)
TakesOne w id (Err Evicted) kept = (behind w id ≡ []) × (is_out w id ≡ true) × Represents kept w
TakesOne w id (Err heard) kept = ⊥

-- the hearing `new` has this listener and this held letter, and the first n of the letters were taken from the record
pub record IsAt (g : LocalListener) (w : World) (id : ℕ) (n : ℕ) (listener : Listening) (held : Option ℕ) (new : LocalListener) (kept : Kept) : Type 0 where
  pub listener_is : new.listener ≡ listener
  pub mode_is : new.mode ≡ g.mode
  pub held_is : new.held ≡ held
  pub represents : Represents kept (taken_from g w id n)

-- the next letter was heard without a hit, was a hit, or couldn't be searched; or there is none
abbrev pub HearsOne : LocalListener → World → ℕ → Option Heard → LocalListener → Kept → Type 0
HearsOne g w id None new kept = (x : ℕ) × (rest : List ℕ) × (to_hear g w id ≡ x ∷ rest) × Feeds g.listener (x ∷ []) (Ok fed.Quiet) new.listener × IsAt g w id 1 new.listener None new kept
HearsOne g w id (Some Hit) new kept =
    (x : ℕ) × (rest : List ℕ) × (k : ℕ) × (to_hear g w id ≡ x ∷ rest) × Feeds g.listener (x ∷ []) (Ok (fed.Hit k)) new.listener × IsAt g w id 1 new.listener None new kept
HearsOne g w id (Some Lacking) new kept = (x : ℕ) × (rest : List ℕ) × (to_hear g w id ≡ x ∷ rest) × IsAt g w id 1 g.listener (Some x) new kept
HearsOne g w id (Some Nothing) new kept = (to_hear g w id ≡ []) × (w.closed ≡ false) × IsAt g w id 0 g.listener None new kept × (is_out w id ≡ false)
HearsOne g w id (Some End) new kept = (to_hear g w id ≡ []) × (w.closed ≡ true) × IsAt g w id 0 g.listener None new kept × (is_out w id ≡ false)
HearsOne g w id (Some Evicted) new kept = (to_hear g w id ≡ []) × (is_out w id ≡ true) × IsAt g w id 0 g.listener None new kept

-- the letters up to the hit, or all that there is room for
abbrev pub Hears : LocalListener → World → ℕ → Heard → LocalListener → Kept → Type 0
Hears g w id Hit new kept =
    (k : ℕ) × IsHit g.listener.pattern g.listener.gathered (to_hear g w id) k × IsAt g w id k (after_hit g.listener (to_hear g w id) k) None new kept
Hears g w id Nothing new kept =
    HasNoHit g.listener.pattern g.listener.gathered (to_hear g w id) × ((MOST_GATHERED ≤ length g.listener.gathered + length (to_hear g w id)) ⊎ ((w.closed ≡ false) × (is_out w id ≡ false)))
    × IsAt g w id (fitting g.listener (to_hear g w id)) (after_quiet g.listener (take (fitting g.listener (to_hear g w id)) (to_hear g w id))) None new kept
Hears g w id End new kept =
    HasNoHit g.listener.pattern g.listener.gathered (to_hear g w id) × (length g.listener.gathered + length (to_hear g w id) < MOST_GATHERED) × (w.closed ≡ true)
    × IsAt g w id (fitting g.listener (to_hear g w id)) (after_quiet g.listener (take (fitting g.listener (to_hear g w id)) (to_hear g w id))) None new kept
    × (is_out w id ≡ false)
Hears g w id Evicted new kept =
    HasNoHit g.listener.pattern g.listener.gathered (to_hear g w id) × (length g.listener.gathered + length (to_hear g w id) < MOST_GATHERED) × (is_out w id ≡ true)
    × IsAt g w id (fitting g.listener (to_hear g w id)) (after_quiet g.listener (take (fitting g.listener (to_hear g w id)) (to_hear g w id))) None new kept
Hears g w id Lacking new kept =
    (n : ℕ) × (n < fitting g.listener (to_hear g w id)) × HasNoHit g.listener.pattern g.listener.gathered (take n (to_hear g w id))
    × IsAt g w id (n + 1) (after_quiet g.listener (take n (to_hear g w id))) (slice_get (to_hear g w id) n) new kept
