-- A handle under the next number.
use Rattle.std.proofs.Common.{◌≡◌, ℕ, ◌+◌, List, None, Some, false, nat_eq, refl, arith}
use Rattle.hub_requests.proofs.NextHandle.{room_for_handle}
use Rattle.hub_fifodir.specs.declared.fifodir.Fifodir.{Fifodir}
use Rattle.hub_listen.specs.Hit.{IsPattern}
use Rattle.hub_listen.specs.Listening.{new_listening}
use Rattle.hub_letters.specs.declared.mode.Mode.{Mode}
use Rattle.hub_letters.specs.declared.mode.Mode.TheVariants.{Repeat}
use Rattle.hub_handles.specs.declared.handles.Handles.{Handles}
use Rattle.hub_handles.specs.declared.session_listener.SessionListener.{SessionListener}
use Rattle.hub_handles.specs.declared.subscription.Subscription.{Subscription}
use Rattle.hub_handles.specs.Taking.{Begins}
use Rattle.hub_handles.specs.Handles.{IsNext, AddsSubscription, AddsListener, refusal_of, current_handles, subscription_of, listener_of}

is_next : (old new : Handles) → refusal_of old ≡ None → new.given ≡ old.given + 1 → IsNext old (old.given + 1) new
is_next old new room given =
    let left = room_for_handle (current_handles old) old.given room in
    let within = left.1 in
    record {
      few = left.0;
      next = refl;
      within = omega arith;
      given = given;
      unsubscribed = old.subscribed (old.given + 1) (omega arith);
      unheard = old.listening (old.given + 1) (omega arith);
    }

pub adds_subscription : (old new : Handles) (name : List ℕ) (fifodir : Fifodir) (s : Subscription) → refusal_of old ≡ None → Begins name fifodir s → new.given ≡ old.given + 1
    → new.listeners.entries ≡ old.listeners.entries → subscription_of new (old.given + 1) ≡ Some s
    → ((other : ℕ) → nat_eq (old.given + 1) other ≡ false → subscription_of new other ≡ subscription_of old other)
    → AddsSubscription old name fifodir (old.given + 1) new
adds_subscription old new name fifodir s room begins given listeners here others =
    record { is_next = is_next old new room given; subscription = s; begins = begins; placed = here; others = others; listeners = listeners }

pub adds_listener : (old new : Handles) (name : List ℕ) (fifodir : Fifodir) (mode : Mode) (pattern : List ℕ) (h : SessionListener) → refusal_of old ≡ None → IsPattern pattern → Begins name fifodir h.subscription
    → h.listener ≡ new_listening pattern Repeat → h.mode ≡ mode → h.held ≡ None → new.given ≡ old.given + 1 → new.subscriptions.entries ≡ old.subscriptions.entries
    → listener_of new (old.given + 1) ≡ Some h → ((other : ℕ) → nat_eq (old.given + 1) other ≡ false → listener_of new other ≡ listener_of old other)
    → AddsListener old name fifodir mode pattern (old.given + 1) new
adds_listener old new name fifodir mode pattern h room read begins heard mode_is unheld given subscriptions here others =
    record { is_next = is_next old new room given; hearing = h; begins = begins; read = read; heard = heard; mode_is = mode_is; unheld = unheld; placed = here; others = others; subscriptions = subscriptions }
