-- The request that asks whether a handle's next take or poll has something to do.
use Rattle.std.proofs.Common.{◌≡◌, ◌≢◌, ℕ, ◌-◌, if◌then◌else◌, Bool, true, false, not, length, nat_eq, Some, sym, ap, ◌∙◌, inl, inr, arith}
use Rattle.std.proofs.lemmas.Bool.{cases_Bool, cases_lt, lt-ltb, le-ltb, eq-eqb, ne_eqb}
use Rattle.std.specs.Map.{lookup}
use Rattle.std.specs.Option.{option_eq}
use Rattle.std.specs.Str.{bytes_eq}
use Rattle.hub_record.specs.Kept.{Represents}
use Rattle.hub_record.specs.World.{World, Subscription, is_evicted, subscription_in, pending_for}
use Rattle.hub_local.specs.Awaits.{has_something, await_answer, holds_letter}
use Rattle.hub_local.specs.DeskAnswers.{in_world, for_holding}
use Rattle.hub_local.specs.Desks.{active, holding_at, world_of}
use Rattle.hub_local.specs.Representing.{Local, AsksWith}
use Rattle.hub_local.specs.declared.local_desk.Holding.{Holding}
use Rattle.hub_local.specs.declared.local_desk.LocalFifodir.{LocalFifodir}
use Rattle.hub_requests.specs.declared.request.Request.TheVariants.{Await}
use Rattle.hub_requests.specs.declared.reply.Reply.{Reply}
use Rattle.hub_requests.specs.declared.reply.Reply.TheVariants.{Done, Late, No}
use Rattle.hub_requests.specs.declared.reply.Refusal.TheVariants as no
use Rattle.hub_local.proofs.Asking.{by_carrying}
use Rattle.hub_local.proofs.Hearing.{has_found}
use Rattle.hub_local.proofs.Holdings.{held_at}
use Rattle.hub_local.proofs.KeptFifodirs.{some_kept}

-- with no letter held, at an open fifodir: how many events are pending tells it, and an evicted subscription has no such number
pub something_pending : (h : Holding) (w : World) (s : Subscription) → subscription_in w h.id ≡ Some s → holds_letter h.hearing ≡ false → w.closed ≡ false
    → not (option_eq nat_eq (pending_for w (subscription_in w h.id)) (Some 0)) ≡ has_something h w
something_pending h w s is held is_open = elim (cases_Bool (is_evicted w s.next)) [
  | inl out ↦ simp (is, held, is_open, out)
  | inr up ↦ elim (cases_lt s.next (length w.events)) [
    | inl some ↦ (let more = lt-ltb s.next (length w.events) some in
        let count : nat_eq (length w.events - s.next) 0 ≡ false = ne_eqb (length w.events - s.next) 0 (λ (e : length w.events - s.next ≡ 0). omega arith) in
        simp (is, held, is_open, up, more, count))
    | inr none ↦ (let no = le-ltb s.next (length w.events) none in
        let count : nat_eq (length w.events - s.next) 0 ≡ true = eq-eqb (length w.events - s.next) 0 (omega arith) in
        simp (is, held, is_open, up, no, count))
  ]
]

module _ (local : Local) (n turns : ℕ) where
  pub await_answered : (h : Holding) (r : LocalFifodir) → Some h ≡ lookup (nat_eq n) local.holdings → Some r ≡ lookup (bytes_eq h.name) local.fifodirs
      → (b : Bool) → ((w : World) (s : Subscription) → Represents r.kept w → subscription_in w h.id ≡ Some s → b ≡ has_something h w) → (reply : Reply) → reply ≡ (if b then Done else Late) → AsksWith false local (Await n turns) reply local
  await_answered h r was there b says reply is = by_carrying local local false _ _ _ reply (λ e. real b (sym is ∙ e)) (λ d st.
      let t = some_kept h.name local.fifodirs d.fifodirs r st.fifodirs (sym there) in
      let w = t.0 in
      let e : holding_at d n ≡ Some h = sym (was ∙ ap (lookup (nat_eq n)) st.holdings) in
      let there_is = t.1 in
      let held = held_at d.fifodirs (active d) n h st.is_desk.held e in
      let s = has_found (subscription_in w h.id) (simp there_is at held) in record {
        answer = await_answer d h w;
        unrefused = simp e;
        done_is = ap (for_holding d (λ g. in_world d (await_answer d g) (world_of d.fifodirs g.name))) e ∙ ap (in_world d (await_answer d h)) t.1;
        said = is ∙ ap (λ (x : Bool). if x then Done else Late) (says w s.0 t.2 s.1);
        represents = st;
      })
    where
      real : (x : Bool) → (if x then Done else Late) ≢ No no.Memory
      real true = λ e. cc
      real false = λ e. cc
