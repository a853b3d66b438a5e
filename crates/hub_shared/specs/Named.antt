-- What each handle and each publisher of a session is for: the fifodir that the session's hub has under the name.
use Rattle.std.specs.Prelude.{◌≡◌, ℕ, List, Some}
use Rattle.hub_requests.specs.declared.request.Request.{Request}
use Rattle.hub_requests.specs.declared.reply.Reply.{Reply}
use Rattle.hub_names.specs.declared.hub.Hub.{Hub}
use Rattle.hub_names.specs.declared.fifodirs.Fifodirs.{Fifodirs}
use Rattle.hub_names.specs.declared.joined.Joined.{Joined}
use Rattle.hub_names.specs.Fifodirs.{KeepsNone, joined_at}
use Rattle.hub_names.specs.Hubs.{IsFoundIn}
use Rattle.hub_names.specs.Speaking.{fifodir_of, found_of}
use Rattle.hub_handles.specs.declared.handles.Handles.{Handles}
use Rattle.hub_handles.specs.declared.session_listener.SessionListener.{SessionListener}
use Rattle.hub_handles.specs.declared.subscription.Subscription.{Subscription}
use Rattle.hub_handles.specs.Handles.{HoldsNone, subscription_of, listener_of}
use Rattle.hub_handles.specs.Hearings.{subscription_in}
use Rattle.hub_handles.specs.Taking.{name_of}
use Rattle.hub_handles.specs.Taking as taking
use Rattle.hub_shared.specs.Desks.{CarriesOut}

-- its fifodir is the one that the session keeps under its name
pub record IsNamed (fs : Fifodirs) (s : Subscription) : Type 0 where
  pub joined : Joined
  pub kept_is : joined_at fs (name_of s) ≡ Some joined
  pub dir : taking.fifodir_of s ≡ fifodir_of joined

-- Whatever a session keeps under a name was found in its hub by that name, and each of its handles is at the fifodir that
-- it keeps under the handle's name.
pub record AreNamed (hub : Hub) (fs : Fifodirs) (hs : Handles) : Type 0 where
  pub found : (name : List ℕ) (j : Joined) → joined_at fs name ≡ Some j → IsFoundIn hub name (found_of j)
  pub subscriptions : (id : ℕ) (s : Subscription) → subscription_of hs id ≡ Some s → IsNamed fs s
  pub listeners : (id : ℕ) (h : SessionListener) → listener_of hs id ≡ Some h → IsNamed fs (subscription_in h)

-- a session begins so, and stays so whatever it is asked
pub record StaysNamed (hub : Hub) : Type 0 where
  pub new : (fs : Fifodirs) (hs : Handles) → KeepsNone fs → HoldsNone hs → AreNamed hub fs hs
  pub asked : (fs gs : Fifodirs) (hs ks : Handles) (request : Request) (reply : Reply)
      → AreNamed hub fs hs → CarriesOut hub fs hs request reply gs ks → AreNamed hub gs ks
