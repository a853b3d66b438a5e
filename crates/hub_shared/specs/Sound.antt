-- What each pass of a session has seen: no more than the total of its fifodir, and lawful letters if that is a service's.
use Rattle.std.specs.Prelude.{◌≡◌, ℕ, List, Some}
use Rattle.hub_record.specs.declared.Event.{Event}
use Rattle.hub_fifodir.specs.declared.fifodir.Fifodir.{Fifodir}
use Rattle.hub_fifodir.specs.declared.publisher.Publisher.{Publisher}
use Rattle.hub_fifodir.specs.Passes.{rules_of, seen_by}
use Rattle.hub_fifodir.specs.Rule.{IsSound}
use Rattle.hub_wait.specs.declared.post.Post.{Post}
use Rattle.hub_wait.specs.Posts as posts
use Rattle.hub_names.specs.declared.fifodirs.Fifodirs.{Fifodirs}
use Rattle.hub_names.specs.declared.joined.Joined.{Joined}
use Rattle.hub_names.specs.Fifodirs.{joined_at}
use Rattle.hub_names.specs.Speaking.{fifodir_of, publisher_of}
use Rattle.hub_handles.specs.declared.handles.Handles.{Handles}
use Rattle.hub_handles.specs.declared.session_listener.SessionListener.{SessionListener}
use Rattle.hub_handles.specs.declared.subscription.Subscription.{Subscription}
use Rattle.hub_handles.specs.Handles.{subscription_of, listener_of}
use Rattle.hub_handles.specs.Hearings.{subscription_in}
use Rattle.hub_handles.specs.Taking as taking

abbrev pub IsSoundAt : Fifodir → List Event → Type 0
IsSoundAt f seen = ∥ IsSound (rules_of f) seen ∥₁

pub record ArePassesSound (fs : Fifodirs) (hs : Handles) : Type 0 where
  pub subscriptions : (id : ℕ) (s : Subscription) → subscription_of hs id ≡ Some s → IsSoundAt (taking.fifodir_of s) (taking.seen_of s)
  pub listeners : (id : ℕ) (h : SessionListener) → listener_of hs id ≡ Some h → IsSoundAt (taking.fifodir_of (subscription_in h)) (taking.seen_of (subscription_in h))
  pub publishers : (name : List ℕ) (j : Joined) (p : Publisher) → joined_at fs name ≡ Some j → publisher_of j ≡ Some p → IsSoundAt (fifodir_of j) (seen_by p)
  pub posts : (post : Post) → IsSoundAt (posts.fifodir_of post) (posts.seen_of post)
