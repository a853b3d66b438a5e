-- How the answers to pieces of letters are related.
use Rattle.std.specs.Prelude.{◌≡◌, ◌≢◌, ◌⊎◌, ◌↔◌, ℕ, ◌+◌, ◌≤◌, false, List, [], ◌∷◌, ◌++◌, length, Some, None, Result, Ok, Err}
use Rattle.hub_letters.specs.declared.mode.TheConstants.{MOST_GATHERED}
use Rattle.hub_listen.specs.Hit.{IsHit, HasNoHit, hit_length}
use Rattle.hub_listen.specs.Listening.{Listening, Feeds, is_spent}
use Rattle.hub_listen.specs.declared.feed.Feed.{Feed}
use Rattle.hub_listen.specs.declared.feed.Feed.TheVariants.{Spent, Hit, Quiet}
use Rattle.hub_listen.specs.declared.feed.FeedError.{FeedError}

-- the answer, with a hit counted from this many letters earlier
abbrev pub counted_from : ℕ → Result Feed FeedError → Result Feed FeedError
counted_from before (Ok Spent) = Ok Spent
counted_from before (Ok (Hit k)) = Ok (Hit (before + k))
counted_from before (Ok Quiet) = Ok Quiet
counted_from before (Err e) = Err e

-- a refusal leaves the listener unchanged, and any other answer leaves the new one
abbrev pub left_by : Result Feed FeedError → Listening → Listening → Listening
left_by (Ok feed) unchanged new = new
left_by (Err e) unchanged new = unchanged

-- Fed one piece with the answer Quiet and then another, a listener answers and ends as it would on both in one.
abbrev pub CutsAnywhere : Type 0
CutsAnywhere = (old between new : Listening) (first second : List ℕ) (answer : Result Feed FeedError)
    → Feeds old first (Ok Quiet) between → Feeds between second answer new
    → Feeds old (first ++ second) (counted_from (length first) answer) (left_by answer old new)

-- A listener has an answer to each piece,
abbrev pub AnswersEach : Type 0
AnswersEach = (old : Listening) (piece : List ℕ) → (answer : Result Feed FeedError) × (new : Listening) × Feeds old piece answer new

-- and only one, with one listener afterwards.
abbrev pub AnswersOnce : Type 0
AnswersOnce = (old new new' : Listening) (piece : List ℕ) (answer answer' : Result Feed FeedError)
    → Feeds old piece answer new → Feeds old piece answer' new'
    → (answer ≡ answer') × (new ≡ new')

-- The letters were fed one at a time, in their order, up to the first answer other than Quiet.
abbrev pub FedSingly : Listening → List ℕ → Result Feed FeedError → Listening → Type 0
FedSingly old [] answer new = (answer ≡ Ok Quiet) × (new ≡ old)
FedSingly old (x ∷ letters) answer new =
    (Feeds old (x ∷ []) answer new × (answer ≢ Ok Quiet))
    ⊎ ((between : Listening) × (later : Result Feed FeedError)
    × Feeds old (x ∷ []) (Ok Quiet) between × FedSingly between letters later new × (answer ≡ counted_from 1 later))

-- Letters fed one at a time are heard as one piece.
abbrev pub SinglyIsAtOnce : Type 0
SinglyIsAtOnce = (old new : Listening) (letters : List ℕ) (answer : Result Feed FeedError)
    → is_spent old ≡ false → length old.gathered ≤ MOST_GATHERED → FedSingly old letters answer new
    → Feeds old letters answer (left_by answer old new)

-- A hit in a prefix is a hit in the whole.
abbrev pub PrefixesShowHits : Type 0
PrefixesShowHits = (pattern gathered prefix rest : List ℕ) (k : ℕ)
    → IsHit pattern gathered prefix k → IsHit pattern gathered (prefix ++ rest) k

-- If a prefix without a hit leaves no room, there is no hit in the whole.
abbrev pub FullPrefixesShowNone : Type 0
FullPrefixesShowNone = (pattern gathered prefix rest : List ℕ)
    → HasNoHit pattern gathered prefix → MOST_GATHERED ≤ length gathered + length prefix → HasNoHit pattern gathered (prefix ++ rest)

-- The function gives exactly the hit, and none exactly if there is none.
abbrev pub LengthIsHit : Type 0
LengthIsHit = (pattern gathered piece : List ℕ) (k : ℕ)
    → (hit_length pattern gathered piece ≡ Some k) ↔ IsHit pattern gathered piece k

abbrev pub NoLengthIsNoHit : Type 0
NoLengthIsNoHit = (pattern gathered piece : List ℕ)
    → (hit_length pattern gathered piece ≡ None) ↔ HasNoHit pattern gathered piece
