-- The requests about a subscription.
use Rattle.std.proofs.Common.{◌≡◌, ◌≢◌, ℕ, true, false, List, [], nat_eq, Option, Some, None, is_some, Result, Ok, Err, refl, sym, ap, subst, ◌∙◌, true≢false}
use Rattle.std.specs.Map.{lookup, remove_entry, set_value, values_of}
use Rattle.std.specs.Str.{bytes_eq}
use Rattle.hub_record.specs.declared.NoId.{NoId}
use Rattle.hub_record.specs.declared.Taken.{Taken}
use Rattle.hub_record.specs.declared.Taken.TheVariants as taken
use Rattle.hub_record.specs.Kept.{Kept, Represents}
use Rattle.hub_record.specs.World.{World, Subscription, letters, subscription_in, after_cancel, moved_on, take_reply, take_events, after_take, after_take_for}
use Rattle.hub_local.specs.DeskAnswers.{in_world, for_holding, refusal_to_take, take_shown, took, cancel_answer}
use Rattle.hub_local.specs.Desks.{Desk, Fifodir, active, holding_at, world_of, subscription_of, AreHeld, AreApart, AllGoOn, end_in, without_held, without_all}
use Rattle.hub_local.specs.Ends.{after_wills, desk_after_end}
use Rattle.hub_local.specs.Representing.{Local, AreKept, RepresentsDesk, HasSubscription, AsksWith, Ended}
use Rattle.hub_local.specs.declared.local_desk.Holding.{Holding}
use Rattle.hub_local.specs.declared.local_desk.LocalFifodir.{LocalFifodir}
use Rattle.hub_requests.specs.declared.request.Request.TheVariants.{Take, Cancel}
use Rattle.hub_requests.specs.declared.will.Will.{Will}
use Rattle.hub_requests.specs.declared.reply.Reply.{Reply}
use Rattle.hub_requests.specs.declared.reply.Reply.TheVariants.{Done, No}
use Rattle.hub_requests.specs.declared.reply.Refusal.TheVariants as no
use Rattle.hub_local.proofs.Asking.{by_carrying, by_refusing, by_lacking, still_lacking, represents_same, Replaces, world_there, represents_replaced, represents_still}
use Rattle.hub_local.proofs.Holdings.{held_at, active-dropped, length-dropped, active-without, length-without, held_removed, held_beside_cancelled, apart_removed, go_on_removed}
use Rattle.hub_local.proofs.KeptFifodirs.{none_kept, some_kept, kept_set}
use Rattle.hub_local.proofs.Worlds.{found_changed}

-- after a take each current subscription is still current
pub taken_still : (w : World) (id max other : ℕ) → is_some (subscription_in w other) ≡ true → is_some (subscription_in (after_take w id max) other) ≡ true
taken_still w id max other s = by (subscription_in w id)
  where
    by : (o : Option Subscription) → is_some (subscription_in (after_take_for w id max o) other) ≡ true
    by None = s
    by (Some x) = found_changed (moved_on w max) (λ y. refl) 1 w.subscriptions id other s

-- ---- cancel

pub released : (es : List (List ℕ × LocalFifodir)) (fs : List Fifodir) (h : Holding) (r : LocalFifodir) (kept : Kept) → AreKept es fs → lookup (bytes_eq h.name) es ≡ Some r
    → ((w : World) → Represents r.kept w → Represents kept (after_cancel w h.id)) → AreKept (set_value (bytes_eq h.name) es (record { kept = kept; reports = r.reports })) (without_held fs h)
released es fs h r kept k was ends =
    let t = some_kept h.name es fs r k was in
    subst (λ (o : Option World). AreKept (set_value (bytes_eq h.name) es (record { kept = kept; reports = r.reports })) (end_in fs h o)) (sym t.1)
    (kept_set h.name es fs r (record { kept = kept; reports = r.reports }) (after_cancel t.0 h.id) k was refl (ends t.0 t.2))

pub unreleased : (es : List (List ℕ × LocalFifodir)) (fs : List Fifodir) (h : Holding) → AreKept es fs → lookup (bytes_eq h.name) es ≡ None → AreKept es (without_held fs h)
unreleased es fs h k none = subst (λ (o : Option World). AreKept es (end_in fs h o)) (sym (none_kept h.name es fs k none)) k

pub cancel_unheld : (old new : Local) (n : ℕ) → None ≡ lookup (nat_eq n) old.holdings → new ≡ old → AsksWith false old (Cancel n) (No no.Id) new
cancel_unheld old new n none same = by_refusing old new false _ _ _ _ no.Id refl (λ e. cc)
    (λ d st. (let e : holding_at d n ≡ None = sym (none ∙ ap (lookup (nat_eq n)) st.holdings) in simp e)) (λ d st. represents_same old new d same st)

pub cancel_done : (old new : Local) (n : ℕ) (h : Holding) → Some h ≡ lookup (nat_eq n) old.holdings → new.holdings ≡ remove_entry (nat_eq n) old.holdings
    → ((fs : List Fifodir) → AreKept old.fifodirs fs → AreKept new.fifodirs (without_held fs h)) → new.given ≡ old.given → new.wills ≡ old.wills → AsksWith false old (Cancel n) Done new
cancel_done old new n h was holdings fifodirs given wills = by_carrying old new false _ _ _ Done (λ (e : Done ≡ No no.Memory). cc) (λ d st.
    let e : holding_at d n ≡ Some h = sym (was ∙ ap (lookup (nat_eq n)) st.holdings) in
    let less = active-without 1 d.handles n h e in
    let left = remove_entry (nat_eq n) (active d) in record {
      answer = cancel_answer d n h;
      unrefused = simp e;
      done_is = ap (for_holding d (cancel_answer d n)) e;
      said = refl;
      represents = record {
        fifodirs = fifodirs d.fifodirs st.fifodirs;
        holdings = holdings ∙ ap (remove_entry (nat_eq n)) st.holdings ∙ sym less;
        given = given ∙ st.given ∙ sym (length-without 1 d.handles n);
        wills = wills ∙ st.wills;
        is_desk = record {
          held = subst (AreHeld (without_held d.fifodirs h)) (sym less)
              (held_removed d.fifodirs (without_held d.fifodirs h) n h (held_beside_cancelled d.fifodirs h) (active d) st.is_desk.apart st.is_desk.held e);
          apart = subst AreApart (sym less) (apart_removed (active d) n st.is_desk.apart);
          go_on = subst AllGoOn (sym less) (go_on_removed (active d) n st.is_desk.go_on);
        };
      };
    })

-- ---- take

shown_real : (letters : List ℕ) (r : Result Taken NoId) → take_shown letters r ≢ No no.Memory
shown_real letters (Ok (taken.Got count)) = λ e. cc
shown_real letters (Ok taken.Nothing) = λ e. cc
shown_real letters (Ok taken.End) = λ e. cc
shown_real letters (Ok taken.Evicted) = λ e. cc
shown_real letters (Err error) = λ e. cc

-- the subscription of a current handle is current
module _ (local : Local) (d : Desk) (st : RepresentsDesk local d) (n : ℕ) (h : Holding) (was : Some h ≡ lookup (nat_eq n) local.holdings) where
  is_held : is_some (subscription_of d.fifodirs h) ≡ true
  is_held = held_at d.fifodirs (active d) n h st.is_desk.held (sym (was ∙ ap (lookup (nat_eq n)) st.holdings))

  pub held_somewhere : None ≡ lookup (bytes_eq h.name) local.fifodirs → ⊥
  held_somewhere none = let e = none_kept h.name local.fifodirs d.fifodirs st.fifodirs (sym none) in let k = simp e at is_held in true≢false (sym k)

  pub has_subscription : (r : LocalFifodir) → Some r ≡ lookup (bytes_eq h.name) local.fifodirs → HasSubscription r.kept h.id
  has_subscription r there =
      let t = some_kept h.name local.fifodirs d.fifodirs r st.fifodirs (sym there) in
      let e = t.1 in record { world = t.0; represents = t.2; subscribed = simp e at is_held }

module _ (old new : Local) (n max : ℕ) (h : Holding) (was : Some h ≡ lookup (nat_eq n) old.holdings) (plain : is_some h.hearing ≡ false) where
  held_there : (d : Desk) → RepresentsDesk old d → holding_at d n ≡ Some h
  held_there d st = sym (was ∙ ap (lookup (nat_eq n)) st.holdings)

  module _ (r : LocalFifodir) (kept : Kept) (put : Replaces old new h.name r kept) (reply : Reply) where
    -- with room for `len` events, which is what was asked for
    pub take_done : (len : ℕ) → HasSubscription r.kept h.id → ((w : World) → Represents r.kept w → reply ≡ take_shown (letters (take_events w h.id len)) (take_reply w h.id len))
        → ((w : World) → Represents r.kept w → Represents kept (after_take w h.id len)) → len ≡ max → AsksWith false old (Take n max) reply new
    take_done len has says after same = by_carrying old new true _ _ _ reply (λ e. shown_real _ _ (sym (says has.world has.represents) ∙ e)) (λ d st.
        let t = world_there old new h.name r kept put d st in
        let w = t.0 in
        let e = held_there d st in record {
          answer = took d max h w;
          unrefused = simp (e, plain);
          done_is = ap (for_holding d (λ g. in_world d (took d max g) (world_of d.fifodirs g.name))) e ∙ ap (in_world d (took d max h)) t.1;
          said = says w t.2 ∙ ap (λ (k : ℕ). take_shown (letters (take_events w h.id k)) (take_reply w h.id k)) same;
          represents = represents_replaced old new h.name r kept put d st w (after_take w h.id max) t.1 (subst (λ (k : ℕ). Represents kept (after_take w h.id k)) same (after w t.2)) (taken_still w h.id max);
        })

    pub take_lacks : kept ≡ r.kept → reply ≡ No no.Memory → AsksWith false old (Take n max) reply new
    take_lacks still is = by_lacking old new true _ _ _ reply is refl (λ d st.
        let t = world_there old new h.name r kept put d st in
        let e = held_there d st in
        still_lacking new d (refusal_to_take (holding_at d n)) (simp (e, plain)) (represents_still old new h.name r kept put d st t.0 t.1 (subst (λ (k : Kept). Represents k t.0) (sym still) t.2)))

-- ---- the end of a session

pub session_ended : (old new : Local) → new.holdings ≡ [] → new.given ≡ old.given → new.wills ≡ []
    → ((fs : List Fifodir) → AreKept old.fifodirs fs → AreKept new.fifodirs (after_wills (without_all fs (values_of old.holdings)) old.wills)) → (d : Desk) → RepresentsDesk old d → RepresentsDesk new (desk_after_end d)
session_ended old new none given forgotten left_so d st =
    let gone = active-dropped 1 d.handles in
    let left = after_wills (without_all d.fifodirs (values_of (active d))) d.wills in record {
      fifodirs = subst (λ (ws : List (List ℕ × Will)). AreKept new.fifodirs (after_wills (without_all d.fifodirs (values_of (active d))) ws)) st.wills
          (subst (λ (es : List (ℕ × Holding)). AreKept new.fifodirs (after_wills (without_all d.fifodirs (values_of es)) old.wills)) st.holdings (left_so d.fifodirs st.fifodirs));
      holdings = none ∙ sym gone;
      given = given ∙ st.given ∙ sym (length-dropped d.handles);
      wills = forgotten;
      is_desk = record { held = subst (AreHeld left) (sym gone) tt; apart = subst AreApart (sym gone) tt; go_on = subst AllGoOn (sym gone) tt };
    }

pub session_ends : (before old new : Local) → before ≡ old → new.holdings ≡ [] → new.given ≡ before.given → new.wills ≡ []
    → ((fs : List Fifodir) → AreKept before.fifodirs fs → AreKept new.fifodirs (after_wills (without_all fs (values_of before.holdings)) before.wills)) → Ended old new
session_ends before old new same none given forgotten left_so = subst (λ (z : Local). Ended z new) same (record { represents = session_ended before new none given forgotten left_so })
