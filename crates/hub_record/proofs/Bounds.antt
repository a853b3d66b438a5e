-- Every run keeps the bounds of a world, and an empty message changes nothing.
use Rattle.std.proofs.Common.{ℕ, ◌≡◌, ◌≤◌, false, List, [], ◌∷◌, length, Option, Some, None, Ok, refl, sym, ap, subst, inr, append-nil, arith}
use Rattle.hub_record.specs.declared.Kind.{Kind}
use Rattle.hub_record.specs.declared.Kind.TheVariants.{Plain, Service}
use Rattle.hub_record.specs.declared.limits.Limits.{Limits}
use Rattle.hub_record.specs.declared.limits.Policy.{Policy}
use Rattle.hub_record.specs.declared.limits.Policy.TheVariants.{Hold, Evict}
use Rattle.hub_record.specs.declared.runs.Call.{Call}
use Rattle.hub_record.specs.declared.runs.Call.TheVariants.{Subscribe, Publish, Take, Cancel, Close}
use Rattle.hub_record.specs.declared.runs.Said.{Said}
use Rattle.hub_record.specs.declared.runs.Said.TheVariants.{Subscribed, Published}
use Rattle.hub_record.specs.World.{World, Subscription, IsWorld, IsLawfulIn, MayPublish, subscription_in, needed, needed_by, letters, empty_world, after_take_for, after_cancel_for}
use Rattle.hub_record.specs.Runs.{SaidTo, after_call, IsRun, world_after}
use Rattle.hub_record.proofs.Publishing.{subscribed, published}
use Rattle.hub_record.proofs.Taking.{cancelled, moved_world}
use Rattle.hub_record.proofs.Replies.{same_reply}

taken : (w : World) (id most : ℕ) (o : Option Subscription) → subscription_in w id ≡ o → IsWorld w → IsWorld (after_take_for w id most o)
taken w id most None at i = i
taken w id most (Some s) at i = moved_world w id most s i at

left : (w : World) (id : ℕ) (o : Option Subscription) → subscription_in w id ≡ o → IsWorld w → IsWorld (after_cancel_for w id o)
left w id None at i = i
left w id (Some s) at i = (cancelled w id s i at).1

pub call_keeps : (w : World) (call : Call) (said : Said) → IsWorld w → SaidTo w call said → IsWorld (after_call w call said)
call_keeps w Subscribe (Subscribed (Ok given)) i said = subscribed w i said.0.left
call_keeps w (Publish who message) (Published (Ok first)) i said = published w who message i said.0
call_keeps w (Take id max) said i h = taken w id max (subscription_in w id) refl i
call_keeps w (Cancel id) said i h = left w id (subscription_in w id) refl i
call_keeps w Close said i h = record { within = i.within; loaded = i.loaded; given = i.given; lawful = i.lawful; each = i.each }
call_keeps w call said i h = i

run_keeps : (w : World) (calls : List Call) (replies : List Said) → IsWorld w → IsRun w calls replies → IsWorld (world_after w calls replies)
run_keeps w [] replies i run = i
run_keeps w (call ∷ calls) [] i run = i
run_keeps w (call ∷ calls) (said ∷ rest) i run = run_keeps (after_call w call said) calls rest (call_keeps w call said i run.0) run.1

lawful_none : (kind : Kind) → IsLawfulIn kind []
lawful_none Plain = tt
lawful_none Service = record { segments = []; spelled = refl; within = λ i e. absurd (let z = e in cc) }

pub runs_keep : (kind : Kind) (limits : Limits) (calls : List Call) (replies : List Said) → IsRun (empty_world kind limits) calls replies
    → IsWorld (world_after (empty_world kind limits) calls replies)
runs_keep kind limits calls replies run =
    run_keeps (empty_world kind limits) calls replies (record { within = omega arith; loaded = omega arith; given = omega arith; lawful = lawful_none kind; each = tt }) run

-- ---- an empty message

pub nothing_changes : (w : World) (who : ℕ) (said : Said) → after_call w (Publish who []) said ≡ w
nothing_changes w who (Published (Ok first)) = ap (λ z. record w { events = z }) (append-nil w.events)
nothing_changes w who said = refl

nothing_needed : (w : World) (p : Policy) → w.limits.policy ≡ p → IsWorld w → needed w 0 ≤ w.limits.waiting
nothing_needed w Hold is i = let k = ap (λ p. needed_by p w 0) is in let loaded = i.loaded in omega arith
nothing_needed w Evict is i = let k = ap (λ p. needed_by p w 0) is in omega arith

pub is_accepted : (w : World) (who : ℕ) (said : Said) → IsWorld w → w.closed ≡ false → SaidTo w (Publish who []) said → said ≡ Published (Ok (length w.events))
is_accepted w who said i is_open h =
    let within = i.within in
    let may : MayPublish w [] = record {
      is_open = is_open;
      lawful = subst (IsLawfulIn w.kind) (sym (append-nil (letters w.events))) i.lawful;
      within = omega arith;
      room = inr (nothing_needed w w.limits.policy refl i);
    } in
    same_reply w (Publish who []) said (Published (Ok (length w.events))) h (may, refl)
