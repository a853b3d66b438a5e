-- What a wait answers, and what it makes of its posts.
use Rattle.std.specs.Prelude.{◌≡◌, ◌⊎◌, ℕ, ◌<◌, List, length, get_or, map, Some, None, All, Any}
use Rattle.hub_wait.specs.declared.post.Post.{Post}
use Rattle.hub_letters.specs.declared.span.Span.{Span}
use Rattle.hub_letters.specs.declared.span.Span.TheVariants as span
use Rattle.hub_wait.specs.declared.tally.Verdict.{Verdict}
use Rattle.hub_wait.specs.declared.tally.Verdict.TheVariants.{Yes, Never, Late}
use Rattle.hub_wait.specs.Watching.{Watching}
use Rattle.hub_wait.specs.Verdicts.{verdict}
use Rattle.hub_wait.specs.Posts.{watch_of, IsKept, HasCaughtUp, HadState}

abbrev pub watches_of : List Post → List Watching
watches_of posts = map watch_of posts

-- the verdict over the watches, or Late if there is none
abbrev pub IsAnswer : Span → List Watching → Verdict → Type 0
IsAnswer span watches Yes = verdict span watches ≡ Some Yes
IsAnswer span watches Never = verdict span watches ≡ Some Never
IsAnswer span watches Late = verdict span watches ≡ None

-- each post is kept, in its place
pub record AreKept (old new : List Post) : Type 0 where
  pub count : length new ≡ length old
  pub each : (k : ℕ) (d : Post) → k < length old → IsKept (get_or old k d) (get_or new k d)

-- each post has caught up, in its place
abbrev pub HaveCaughtUp : List Post → List Post → Type 0
HaveCaughtUp old new = (k : ℕ) (d : Post) → k < length old → HasCaughtUp (get_or old k d) (get_or new k d)

-- no turn was made, or in the last one each post caught up
abbrev pub AreCaughtUp : List Post → List Post → Type 0
AreCaughtUp old new = (new ≡ old) ⊎ ((before : List Post) × AreKept old before × HaveCaughtUp before new)

-- a yes names a state that each service had, or that one had
abbrev pub HadStates : Span → List Post → Type 0
HadStates span.All posts = All HadState posts
HadStates span.Any posts = Any HadState posts
