-- The requests about a current listener.
use Rattle.std.proofs.Common.{◌≡◌, ◌≢◌, ◌⊎◌, ℕ, ◌+◌, ◌-◌, ◌<◌, ◌≤◌, Bool, true, false, List, length, take, nat_eq, nat_lt, slice_get, Option, Some, None, option_to_list, refl, sym, ap, subst, ◌∙◌, inl, inr, true≢false}
use Rattle.std.proofs.lemmas.Bool.{cases_Bool, le-leb, lt-leb, le-ltb, lt-ltb}
use Rattle.std.proofs.lemmas.Map.Steps.{set_value_same}
use Rattle.std.specs.Map.{lookup, set_value}
use Rattle.std.specs.Str.{bytes_eq}
use Rattle.hub_letters.specs.declared.mode.TheConstants.{MOST_GATHERED}
use Rattle.hub_listen.specs.Hit.{HasNoHit}
use Rattle.hub_listen.specs.Listening.{Listening, after_hit, after_quiet, fitting}
use Rattle.hub_letters.specs.declared.mode.Mode.{Mode}
use Rattle.hub_letters.specs.declared.mode.Mode.TheVariants.{Once, Repeat}
use Rattle.hub_listen.proofs.Lengths.{length_is_hit, no_length_is_no_hit}
use Rattle.hub_record.specs.Kept.{Kept, Represents}
use Rattle.hub_record.specs.World.{World, Subscription, subscription_in, after_take}
use Rattle.hub_local.specs.DeskAnswers.{in_world, for_holding, for_hearing, refusal_to_poll, cancel_answer, request_answer, answer_by, refusal_by_handle}
use Rattle.hub_local.specs.Desks.{Desk, Answer, active, holding_at, world_of, with_world, without_handle, AreHeld, AreApart, GoesOn, AllGoOn}
use Rattle.hub_local.specs.Hearings.{IsAt, Hears}
use Rattle.hub_local.specs.Polls.{is_out, quiet_reply, to_hear, taken_from, heard_to_hit, heard_quietly, heard_on, ended_by, hear_answer, poll_answer}
use Rattle.hub_local.specs.Representing.{Local, RepresentsDesk, RepresentsSome, AsksWith}
use Rattle.hub_local.specs.declared.local_desk.LocalListener.{LocalListener}
use Rattle.hub_local.specs.declared.local_desk.Holding.{Holding}
use Rattle.hub_local.specs.declared.local_desk.LocalFifodir.{LocalFifodir}
use Rattle.hub_local.specs.declared.local_desk.listeners.Heard.TheVariants as heard
use Rattle.hub_requests.specs.declared.request.Request.TheVariants.{Cancel, Poll}
use Rattle.hub_requests.specs.declared.reply.Reply.{Reply}
use Rattle.hub_requests.specs.declared.reply.Reply.TheVariants.{Hit, Nothing, End, Evicted, No}
use Rattle.hub_requests.specs.declared.reply.Refusal.TheVariants as no
use Rattle.hub_local.proofs.Asking.{by_carrying, by_refusing, by_lacking, represents_same, Replaces, represents_replaced, world_there}
use Rattle.hub_local.proofs.AskingSubscriptions.{taken_still}
use Rattle.hub_local.proofs.Hearing.{has_found}
use Rattle.hub_local.proofs.Holdings.{held_at, active-with, length-with, lookup_set, held_set, go_on_set, go_on_at, apart_set}

-- ---- a desk after a listener has heard

-- new is old with `kept` as the record of the fifodir r, and with the hearing under the number
pub record Rehears (old new : Local) (n : ℕ) (h : Holding) (hearing : LocalListener) (r : LocalFifodir) (kept : Kept) : Type 0 where
  pub was : lookup (bytes_eq h.name) old.fifodirs ≡ Some r
  pub fifodirs : new.fifodirs ≡ set_value (bytes_eq h.name) old.fifodirs (record { kept = kept; reports = r.reports })
  pub holdings : new.holdings ≡ set_value (nat_eq n) old.holdings (record h { hearing = Some hearing })
  pub given : new.given ≡ old.given
  pub wills : new.wills ≡ old.wills

module _ (old new : Local) (n : ℕ) (h : Holding) (was : Some h ≡ lookup (nat_eq n) old.holdings) (hearing : LocalListener) (r : LocalFifodir) (kept : Kept) (put : Rehears old new n h hearing r kept) (d : Desk) (st : RepresentsDesk old d) where
  replaced : Replaces old (record old { fifodirs = new.fifodirs }) h.name r kept
  replaced = record { was = put.was; fifodirs = put.fifodirs; holdings = refl; given = refl; wills = refl }

  is_held : holding_at d n ≡ Some h
  is_held = sym (was ∙ ap (lookup (nat_eq n)) st.holdings)

  -- the world and the subscription that it hears
  pub world_heard : (w : World) × (world_of d.fifodirs h.name ≡ Some w) × Represents r.kept w
  world_heard = world_there old (record old { fifodirs = new.fifodirs }) h.name r kept replaced d st

  pub found_heard : (w : World) → world_of d.fifodirs h.name ≡ Some w → (s : Subscription) × (subscription_in w h.id ≡ Some s)
  found_heard w there = let s = held_at d.fifodirs (active d) n h st.is_desk.held is_held in has_found (subscription_in w h.id) (simp there at s)

  pub represents_heard : (w : World) (m : ℕ) → world_of d.fifodirs h.name ≡ Some w → Represents kept (after_take w h.id m) → hearing.listener.mode ≡ Repeat → RepresentsDesk new (heard_on d n h hearing (after_take w h.id m))
  represents_heard w m there represents goes_on =
      let other : Holding = record h { hearing = Some hearing } in
      let fs = with_world d.fifodirs h.name (after_take w h.id m) in
      let mid = represents_replaced old (record old { fifodirs = new.fifodirs }) h.name r kept replaced d st w (after_take w h.id m) there represents (taken_still w h.id m) in
      let set = active-with 1 d.handles n h other is_held in record {
        fifodirs = mid.fifodirs;
        holdings = put.holdings ∙ ap (λ (es : List (ℕ × Holding)). set_value (nat_eq n) es other) st.holdings ∙ sym set;
        given = put.given ∙ st.given ∙ sym (length-with 1 d.handles n other);
        wills = put.wills ∙ st.wills;
        is_desk = record {
          held = subst (AreHeld fs) (sym set) (held_set fs (active d) n other mid.is_desk.held (held_at fs (active d) n h mid.is_desk.held is_held));
          apart = subst AreApart (sym set) (apart_set h other refl refl (active d) n is_held st.is_desk.apart);
          go_on = subst AllGoOn (sym set) (go_on_set (active d) n other st.is_desk.go_on goes_on);
        };
      }

-- what was found under a number, stored there again
pub same_hearing : (es : List (ℕ × Holding)) (n : ℕ) (h : Holding) (o : Option LocalListener) → h.hearing ≡ o → lookup (nat_eq n) es ≡ Some h → set_value (nat_eq n) es (record h { hearing = o }) ≡ es
same_hearing es n h o is there = ap (λ (x : Option LocalListener). set_value (nat_eq n) es (record h { hearing = x })) (sym is) ∙ set_value_same (nat_eq n) es h there

-- ---- replies without a hit

quiet_nothing : (count : ℕ) (closed out : Bool) → (MOST_GATHERED ≤ count) ⊎ ((closed ≡ false) × (out ≡ false)) → quiet_reply (nat_lt count MOST_GATHERED) out closed ≡ Nothing
quiet_nothing count closed out (inl full) = simp (le-ltb count MOST_GATHERED full)
quiet_nothing count closed out (inr (is_open, up)) = elim (cases_Bool (nat_lt count MOST_GATHERED)) [ inl t ↦ simp (t, is_open, up) | inr t ↦ simp t ]

quiet_end : (count : ℕ) (closed out : Bool) → count < MOST_GATHERED → closed ≡ true → out ≡ false → quiet_reply (nat_lt count MOST_GATHERED) out closed ≡ End
quiet_end count closed out room is_closed up = simp (lt-ltb count MOST_GATHERED room, is_closed, up)

quiet_evicted : (count : ℕ) (closed out : Bool) → count < MOST_GATHERED → out ≡ true → quiet_reply (nat_lt count MOST_GATHERED) out closed ≡ Evicted
quiet_evicted count closed out room is_out = simp (lt-ltb count MOST_GATHERED room, is_out)

-- ---- refusals

module _ (old new : Local) (n : ℕ) where
  module _ (h : Holding) (was : Some h ≡ lookup (nat_eq n) old.holdings) where
    there_held : (d : Desk) → RepresentsDesk old d → holding_at d n ≡ Some h
    there_held d st = sym (was ∙ ap (lookup (nat_eq n)) st.holdings)

    pub poll_plain : h.hearing ≡ None → new ≡ old → AsksWith false old (Poll n) (No no.Id) new
    poll_plain plain same = by_refusing old new true _ _ _ _ no.Id refl (λ e. cc)
        (λ d st. (let e = there_held d st in simp (e, plain))) (λ d st. represents_same old new d same st)

    module _ (g : LocalListener) (hears : h.hearing ≡ Some g) where
      pub poll_overlong : MOST_GATHERED ≤ length g.listener.gathered → new ≡ old → AsksWith false old (Poll n) (No no.Overlong) new
      poll_overlong over same = by_refusing old new true _ _ _ _ no.Overlong refl (λ e. cc)
          (λ d st. (let e = there_held d st in simp (e, hears, le-leb MOST_GATHERED (length g.listener.gathered) over))) (λ d st. represents_same old new d same st)

      -- what is needed to hear more
      pub unspent : (d : Desk) → RepresentsDesk old d → g.listener.mode ≡ Repeat
      unspent d st = subst GoesOn hears (go_on_at (active d) n h st.is_desk.go_on (there_held d st))

      module _ (room : length g.listener.gathered < MOST_GATHERED) where
        may_poll : (d : Desk) → RepresentsDesk old d → refusal_to_poll (holding_at d n) ≡ None
        may_poll d st = let e = there_held d st in simp (e, hears, lt-leb MOST_GATHERED (length g.listener.gathered) room)

        pub poll_lacks : new ≡ old → AsksWith false old (Poll n) (No no.Memory) new
        poll_lacks same = by_lacking old new true _ _ _ _ refl refl (λ d st. record { unrefused = may_poll d st; desk = d; is_left = inl refl; represents = represents_same old new d same st })

-- ---- what a look has heard

-- the listener under the number had room for more letters, and has looked at those that were pending
pub record HasLooked (old new : Local) (n : ℕ) (h : Holding) (g hearing : LocalListener) (r : LocalFifodir) (kept : Kept) : Type 0 where
  pub held_is : Some h ≡ lookup (nat_eq n) old.holdings
  pub hears : h.hearing ≡ Some g
  pub room : length g.listener.gathered < MOST_GATHERED
  pub put : Rehears old new n h hearing r kept

-- this holds of each world that the record represents and in which a subscription with this id is current
abbrev pub OfWorlds : Kept → ℕ → (World → Type 0) → Type 0
OfWorlds kept id P = (w : World) (s : Subscription) → Represents kept w → subscription_in w id ≡ Some s → P w

-- and of the one under the name
record HeardIn (d : Desk) (name : List ℕ) (P : World → Type 0) : Type 0 where
  pub world : World
  pub there : world_of d.fifodirs name ≡ Some world
  pub is : P world

-- all letters that there was room for were heard without a hit
abbrev HearsQuietly : LocalListener → ℕ → Reply → LocalListener → Kept → World → Type 0
HearsQuietly g id reply new kept w =
    let letters = to_hear g w id in
    let m = fitting g.listener letters in
    HasNoHit g.listener.pattern g.listener.gathered letters × (quiet_reply (nat_lt (length g.listener.gathered + length letters) MOST_GATHERED) (is_out w id) w.closed ≡ reply)
    × IsAt g w id m (after_quiet g.listener (take m letters)) None new kept

-- the answer of a desk that has heard a hit
abbrev hit_answer : ℕ → Holding → Desk → Mode → List ℕ → Answer
hit_answer n h d mode hit = record { reply = Hit hit; desk = ended_by mode d n h }

-- the desk `after` has heard the hit that the listener shows, and still has its subscription
record HeardHit (new : Local) (d : Desk) (n : ℕ) (h : Holding) (hearing : LocalListener) : Type 0 where
  pub after : Desk
  pub model : LocalListener
  pub answer_is : request_answer d (Poll n) ≡ hit_answer n h after hearing.mode hearing.listener.hit
  pub represents : RepresentsDesk new after
  pub held_is : holding_at after n ≡ Some (record h { hearing = Some model })

module _ (old new : Local) (n : ℕ) (h : Holding) (g hearing : LocalListener) (r : LocalFifodir) (kept : Kept) (look : HasLooked old new n h g hearing r kept) where
  held_there : (d : Desk) → RepresentsDesk old d → holding_at d n ≡ Some h
  held_there = there_held old new n h look.held_is

  allowed : (d : Desk) → RepresentsDesk old d → refusal_to_poll (holding_at d n) ≡ None
  allowed = may_poll old new n h look.held_is g look.hears look.room

  polled_is : (d : Desk) → RepresentsDesk old d → (w : World) → world_of d.fifodirs h.name ≡ Some w → request_answer d (Poll n) ≡ poll_answer d n h g w
  polled_is d st w there =
      ap (for_holding d (λ (k : Holding). for_hearing d (λ (q : LocalListener). in_world d (poll_answer d n k q) (world_of d.fifodirs k.name)) k.hearing)) (held_there d st)
      ∙ ap (for_hearing d (λ (q : LocalListener). in_world d (poll_answer d n h q) (world_of d.fifodirs h.name))) look.hears
      ∙ ap (in_world d (poll_answer d n h g)) there

  -- the desk after that
  module _ (d : Desk) (st : RepresentsDesk old d) (w : World) (there : world_of d.fifodirs h.name ≡ Some w) (m : ℕ) (l : Listening) (o : Option ℕ) (at : IsAt g w h.id m l o hearing kept) (goes_on : l.mode ≡ g.listener.mode) where
    represents_then : RepresentsDesk new (heard_on d n h (record { listener = l; mode = g.mode; held = o }) (taken_from g w h.id m))
    represents_then = subst (λ (q : LocalListener). RepresentsDesk new (heard_on d n h q (taken_from g w h.id m))) (λ i. record { listener = at.listener_is i; mode = at.mode_is i; held = at.held_is i })
        (represents_heard old new n h look.held_is hearing r kept look.put d st w (m - length (option_to_list g.held)) there at.represents (ap (λ (x : Listening). x.mode) at.listener_is ∙ goes_on ∙ unspent old new n h look.held_is g look.hears d st))

  -- the world that was heard, with what is known of it
  heard_in : (P : World → Type 0) → OfWorlds r.kept h.id P → (d : Desk) → RepresentsDesk old d → HeardIn d h.name P
  heard_in P says d st =
      let t = world_heard old new n h look.held_is hearing r kept look.put d st in
      let f = found_heard old new n h look.held_is hearing r kept look.put d st t.0 t.1 in
      record { world = t.0; there = t.1; is = says t.0 f.0 t.2 f.1 }

  poll_quiet : (reply : Reply) → (reply ≢ No no.Memory) → OfWorlds r.kept h.id (HearsQuietly g h.id reply hearing kept) → AsksWith false old (Poll n) reply new
  poll_quiet reply no_lack says = by_carrying old new true _ _ _ reply no_lack (λ d st.
      let f = heard_in (HearsQuietly g h.id reply hearing kept) says d st in
      let w = f.world in
      let letters = to_hear g w h.id in
      let m = fitting g.listener letters in
      let after = heard_on d n h (heard_quietly g (take m letters)) (taken_from g w h.id m) in record {
        answer = record { reply = reply; desk = after };
        unrefused = allowed d st;
        done_is = polled_is d st w f.there ∙ ap (hear_answer d n h g w letters) ((no_length_is_no_hit g.listener.pattern g.listener.gathered letters).1 f.is.0)
            ∙ ap (λ (x : Reply). record { reply = x; desk = after }) f.is.1;
        said = refl;
        represents = represents_then d st w f.there m (after_quiet g.listener (take m letters)) None f.is.2 refl;
      })

  pub poll_nothing : OfWorlds r.kept h.id (λ w. Hears g w h.id heard.Nothing hearing kept) → AsksWith false old (Poll n) Nothing new
  poll_nothing says = poll_quiet Nothing (λ e. cc) (λ w s st f. let k = says w s st f in (k.0, quiet_nothing _ w.closed (is_out w h.id) k.1, k.2))

  pub poll_end : OfWorlds r.kept h.id (λ w. Hears g w h.id heard.End hearing kept) → AsksWith false old (Poll n) End new
  poll_end says = poll_quiet End (λ e. cc) (λ w s st f. let k = says w s st f in (k.0, quiet_end _ w.closed (is_out w h.id) k.1 k.2 k.4, k.3))

  pub poll_evicted : OfWorlds r.kept h.id (λ w. Hears g w h.id heard.Evicted hearing kept) → AsksWith false old (Poll n) Evicted new
  poll_evicted says = poll_quiet Evicted (λ e. cc) (λ w s st f. let k = says w s st f in (k.0, quiet_evicted _ w.closed (is_out w h.id) k.1 k.2, k.3))

  pub poll_stops : OfWorlds r.kept h.id (λ w. Hears g w h.id heard.Lacking hearing kept) → AsksWith false old (Poll n) (No no.Memory) new
  poll_stops says = by_lacking old new true _ _ _ _ refl refl (λ d st.
      let f = heard_in (λ w. Hears g w h.id heard.Lacking hearing kept) says d st in
      let w = f.world in
      let k = f.is in
      let letters = to_hear g w h.id in record {
        unrefused = allowed d st;
        desk = heard_on d n h (record g { listener = after_quiet g.listener (take k.0 letters); held = slice_get letters k.0 }) (taken_from g w h.id (k.0 + 1));
        is_left = inr (record {
          holding = h;
          hearing = g;
          world = w;
          count = k.0;
          held_is = held_there d st;
          hears = look.hears;
          there = f.there;
          stopped = record { inside = k.1; none = k.2; desk = refl };
        });
        represents = represents_then d st w f.there (k.0 + 1) (after_quiet g.listener (take k.0 letters)) (slice_get letters k.0) k.3 refl;
      })

  module _ (says : OfWorlds r.kept h.id (λ w. Hears g w h.id heard.Hit hearing kept)) where
    heard_hit : (d : Desk) → RepresentsDesk old d → HeardHit new d n h hearing
    heard_hit d st =
        let f = heard_in (λ w. Hears g w h.id heard.Hit hearing kept) says d st in
        let w = f.world in
        let k = f.is in
        let letters = to_hear g w h.id in
        let model = heard_to_hit g letters k.0 in
        let other : Holding = record h { hearing = Some model } in
        let after = heard_on d n h model (taken_from g w h.id k.0) in record {
          after = after;
          model = model;
          answer_is = polled_is d st w f.there ∙ ap (hear_answer d n h g w letters) ((length_is_hit g.listener.pattern g.listener.gathered letters k.0).1 k.1)
              ∙ sym (λ i. hit_answer n h after (k.2.mode_is i) (k.2.listener_is i).hit);
          represents = represents_then d st w f.there k.0 (after_hit g.listener letters k.0) None k.2 refl;
          held_is = ap (lookup (nat_eq n)) (active-with 1 d.handles n h other (held_there d st)) ∙ lookup_set (active d) n h other (held_there d st);
        }

    pub hit_represents : (d : Desk) → RepresentsDesk old d → RepresentsSome new
    hit_represents d st = let a = heard_hit d st in record { desk = a.after; represents = a.represents }

    module _ (letters : List ℕ) (shows : letters ≡ hearing.listener.hit) where
      hit_done : (mode : Mode) → hearing.mode ≡ mode → (d : Desk) → (st : RepresentsDesk old d)
          → request_answer d (Poll n) ≡ hit_answer n h (heard_hit d st).after mode letters
      hit_done mode is d st =
          let a = heard_hit d st in
          let said : hearing.listener.hit ≡ letters = sym shows in a.answer_is ∙ (λ i. hit_answer n h a.after (is i) (said i))

      pub poll_hit : hearing.mode ≡ Repeat → AsksWith false old (Poll n) (Hit letters) new
      poll_hit goes_on = by_carrying old new true _ _ _ (Hit letters) (λ e. cc) (λ d st.
          let a = heard_hit d st in record {
            answer = record { reply = Hit letters; desk = a.after };
            unrefused = allowed d st;
            done_is = hit_done Repeat goes_on d st;
            said = refl;
            represents = a.represents;
          })

      -- and its subscription is cancelled
      pub poll_hit_once : hearing.mode ≡ Once → (over : Local) (reply : Reply) → AsksWith false new (Cancel n) reply over → AsksWith false old (Poll n) (Hit letters) over
      poll_hit_once ends over reply cancels = by_carrying old over true _ _ _ (Hit letters) (λ e. cc) (λ d st.
          let a = heard_hit d st in
          let ended = cancels.answered (λ x. true≢false (sym (cancels.grew x))) a.after a.represents in record {
            answer = record { reply = Hit letters; desk = without_handle a.after n h };
            unrefused = allowed d st;
            done_is = hit_done Once ends d st;
            said = refl;
            represents = subst (RepresentsDesk over) (ap (λ (o : Option Holding). (answer_by a.after (refusal_by_handle o) (for_holding a.after (cancel_answer a.after n) o)).desk) a.held_is) ended.represents;
          })

      -- with another expression for the desk
      pub poll_ended : hearing.mode ≡ Once → (over final : Local) (reply : Reply) → AsksWith false new (Cancel n) reply over → final ≡ over → AsksWith false old (Poll n) (Hit letters) final
      poll_ended ends over final reply cancels same = subst (λ (z : Local). AsksWith false old (Poll n) (Hit letters) z) (sym same) (poll_hit_once ends over reply cancels)

      pub poll_goes_on : hearing.mode ≡ Repeat → (final : Local) → final ≡ new → AsksWith false old (Poll n) (Hit letters) final
      poll_goes_on goes_on final same = subst (λ (z : Local). AsksWith false old (Poll n) (Hit letters) z) (sym same) (poll_hit goes_on)
