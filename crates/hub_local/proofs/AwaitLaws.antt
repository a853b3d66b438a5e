-- What an await says of the take or poll that comes next.
use Rattle.std.proofs.Common.{◌≡◌, ◌≢◌, ◌⊎◌, ◌≤◌, ◌||◌, ◌+◌, ℕ, if◌then◌else◌, Bool, true, false, [], length, nat_lt, Option, Some, None, is_some, inl, inr, refl, sym, ap, ◌∙◌, true≢false, arith}
use Rattle.std.proofs.lemmas.Bool.{cases_Bool, ltb-false}
use Rattle.hub_letters.specs.declared.mode.TheConstants.{MOST_GATHERED}
use Rattle.hub_listen.specs.Hit.{hit_length}
use Rattle.hub_listen.proofs.Lengths.{no_length_is_no_hit}
use Rattle.hub_record.specs.World.{World, Subscription, letters, is_evicted, subscription_in, reply_for, take_reply, take_events}
use Rattle.hub_record.proofs.Taking.{reply_evicted, reply_got, reply_none}
use Rattle.hub_local.specs.Awaits.{has_something, has_pending, holds_letter, await_answer}
use Rattle.hub_local.specs.Laws.{AwaitsTellTakes, AwaitsTellPolls}
use Rattle.hub_local.specs.DeskAnswers.{request_answer, take_shown}
use Rattle.hub_local.specs.Desks.{Desk, IsDesk, active, holding_at, world_of, subscription_of}
use Rattle.hub_local.specs.Polls.{is_out, quiet_reply, to_hear, hear_answer, poll_answer}
use Rattle.hub_local.specs.declared.local_desk.Holding.{Holding}
use Rattle.hub_local.specs.declared.local_desk.LocalListener.{LocalListener}
use Rattle.hub_requests.specs.declared.request.Request.TheVariants.{Take, Poll, Await}
use Rattle.hub_requests.specs.declared.reply.Reply.{Reply}
use Rattle.hub_requests.specs.declared.reply.Reply.TheVariants.{Done, Nothing, Late}
use Rattle.hub_local.proofs.Asking.{none_of}
use Rattle.hub_local.proofs.Hearing.{has_found}
use Rattle.hub_local.proofs.Holdings.{held_at}
use Rattle.hub_local.proofs.Takings.{drop-all}

-- ---- what a handle is for

-- the world of a current handle, and its subscription there
record IsHeldIn (d : Desk) (id : ℕ) (h : Holding) : Type 0 where
  world : World
  subscription : Subscription
  there : world_of d.fifodirs h.name ≡ Some world
  found : subscription_in world h.id ≡ Some subscription

held_in : (d : Desk) (id : ℕ) (h : Holding) → IsDesk d → holding_at d id ≡ Some h → IsHeldIn d id h
held_in d id h is e = by (world_of d.fifodirs h.name) refl
  where
    held : is_some (subscription_of d.fifodirs h) ≡ true
    held = held_at d.fifodirs (active d) id h is.held e

    by : (o : Option World) → world_of d.fifodirs h.name ≡ o → IsHeldIn d id h
    by None there = let k = simp there at held in absurd (true≢false (sym k))
    by (Some w) there = let s = has_found (subscription_in w h.id) (simp there at held) in
        record { world = w; subscription = s.0; there = there; found = s.1 }

-- ---- a late await

shown_late : (b : Bool) → (if b then Done else Late) ≡ Late → b ≡ false
shown_late false e = refl
shown_late true e = cc

late_shown : (b : Bool) → b ≡ false → (if b then Done else Late) ≡ Late
late_shown b e = simp e

none_holds : (a b c e : Bool) → (a || b || c || e) ≡ false → (a ≡ false) × (b ≡ false) × (c ≡ false) × (e ≡ false)
none_holds false false false false h = (refl, refl, refl, refl)
none_holds true b c e h = absurd (true≢false h)
none_holds false true c e h = absurd (true≢false h)
none_holds false false true e h = absurd (true≢false h)
none_holds false false false true h = absurd (true≢false h)

-- ---- takes

abbrev shown : World → ℕ → ℕ → Reply
shown w id max = take_shown (letters (take_events w id max)) (take_reply w id max)

-- what a take of a plain subscription answers, beside what an await looks at
take_tells : (w : World) (h : Holding) (s : Subscription) (max : ℕ) → subscription_in w h.id ≡ Some s → h.hearing ≡ None
    → ((has_something h w ≡ true) × (shown w h.id max ≢ Nothing)) ⊎ ((has_something h w ≡ false) × (shown w h.id max ≡ Nothing))
take_tells w h s max is plain =
    let ls = letters (take_events w h.id max) in
    let said = ap (reply_for w max) is in
    elim (cases_Bool (is_evicted w s.next)) [
      | inl out ↦ (let r = ap (take_shown ls) (said ∙ reply_evicted w max s out) in
          elim (cases_Bool w.closed) [ inl c ↦ inl (simp (is, plain, c), λ e. cc) | inr c ↦ inl (simp (is, plain, c, out), λ e. cc) ])
      | inr up ↦ elim (cases_Bool (nat_lt s.next (length w.events))) [
        | inl more ↦ (let r = ap (take_shown ls) (said ∙ reply_got w max s up more) in
            elim (cases_Bool w.closed) [ inl c ↦ inl (simp (is, plain, c), λ e. cc) | inr c ↦ inl (simp (is, plain, c, up, more), λ e. cc) ])
        | inr none ↦ (let r = ap (take_shown ls) (said ∙ reply_none w max s up none) in
            elim (cases_Bool w.closed) [
              | inl c ↦ (let z = simp c at r in inl (simp (is, plain, c), λ e. cc))
              | inr c ↦ (let z = simp c at r in inr (simp (is, plain, c, up, none), z))
            ])
      ]
    ]

pub awaits_tell_takes : AwaitsTellTakes
awaits_tell_takes d id turns max is may = by (holding_at d id) refl
  where
    by : (o : Option Holding) → holding_at d id ≡ o
        → ((request_answer d (Await id turns)).reply ≡ Late → (request_answer d (Take id max)).reply ≡ Nothing)
        × ((request_answer d (Take id max)).reply ≡ Nothing → (request_answer d (Await id turns)).reply ≡ Late)
    by None e = let k = simp e at may in absurd (let no : ⊥ = cc in no)
    by (Some h) e =
        let i = held_in d id h is e in
        let there = i.there in
        let awaits : (request_answer d (Await id turns)).reply ≡ (await_answer d h i.world).reply = simp (e, there) in
        let takes : (request_answer d (Take id max)).reply ≡ shown i.world h.id max = simp (e, there) in
        let plain : h.hearing ≡ None = elim (cases_Bool (is_some h.hearing)) [
          | inl heard ↦ (let k = simp (e, heard) at may in absurd (let no : ⊥ = cc in no))
          | inr unheard ↦ none_of h.hearing unheard
        ] in
        elim (take_tells i.world h i.subscription max i.found plain) [
          | inl some ↦ (
            λ late. absurd (true≢false (sym some.0 ∙ shown_late (has_something h i.world) (sym awaits ∙ late))),
            λ none. absurd (some.1 (sym takes ∙ none)),
          )
          | inr none ↦ (λ late. takes ∙ none.1, λ same. awaits ∙ late_shown (has_something h i.world) none.0)
        ]

-- ---- polls

no_hit_in_none : (g : LocalListener) → hit_length g.listener.pattern g.listener.gathered [] ≡ None
no_hit_in_none g = (no_length_is_no_hit g.listener.pattern g.listener.gathered []).1 (λ j some within short. absurd (let no : ⊥ = omega arith in no))

quiet : (room out closed : Bool) → out ≡ false → closed ≡ false → quiet_reply room out closed ≡ Nothing
quiet true out closed up is_open = simp (up, is_open)
quiet false out closed up is_open = refl

nothing_heard : (d : Desk) (id : ℕ) (h : Holding) (g : LocalListener) (w : World) → to_hear g w h.id ≡ [] → is_out w h.id ≡ false → w.closed ≡ false
    → (poll_answer d id h g w).reply ≡ Nothing
nothing_heard d id h g w none up is_open =
    ap (λ ls. (hear_answer d id h g w ls (hit_length g.listener.pattern g.listener.gathered ls)).reply) none
    ∙ ap (λ (k : Option ℕ). (hear_answer d id h g w [] k).reply) (no_hit_in_none g)
    ∙ quiet (nat_lt (length g.listener.gathered + 0) MOST_GATHERED) (is_out w h.id) w.closed up is_open

none_to_hear : (w : World) (id : ℕ) (g : LocalListener) (s : Subscription) → subscription_in w id ≡ Some s → g.held ≡ None → is_evicted w s.next ≡ false → nat_lt s.next (length w.events) ≡ false
    → to_hear g w id ≡ []
none_to_hear w id g s is held up none =
    let past : length w.events ≤ s.next = ltb-false s.next (length w.events) none in
    let nothing = drop-all w.events s.next past in
    simp (held, is, up, nothing)

pub awaits_tell_polls : AwaitsTellPolls
awaits_tell_polls d id turns is may late = by (holding_at d id) refl
  where
    by_hearing : (h : Holding) → holding_at d id ≡ Some h → (o : Option LocalListener) → h.hearing ≡ o → (request_answer d (Poll id)).reply ≡ Nothing
    by_hearing h e None hears = let k = simp (e, hears) at may in absurd (let no : ⊥ = cc in no)
    by_hearing h e (Some g) hears =
        let i = held_in d id h is e in
        let there = i.there in
        let awaits : (request_answer d (Await id turns)).reply ≡ (await_answer d h i.world).reply = simp (e, there) in
        let polls : (request_answer d (Poll id)).reply ≡ (poll_answer d id h g i.world).reply = simp (e, hears, there) in
        let none = none_holds (holds_letter h.hearing) i.world.closed (is_out i.world h.id) (has_pending i.world h.id) (shown_late (has_something h i.world) (sym awaits ∙ late)) in
        let found = i.found in
        let held : g.held ≡ None = none_of g.held (sym (ap holds_letter hears) ∙ none.0) in
        let up : is_evicted i.world i.subscription.next ≡ false = simp found at none.2 in
        let past : nat_lt i.subscription.next (length i.world.events) ≡ false = simp found at none.3 in
        polls ∙ nothing_heard d id h g i.world (none_to_hear i.world h.id g i.subscription found held up past) none.2 none.1

    by : (o : Option Holding) → holding_at d id ≡ o → (request_answer d (Poll id)).reply ≡ Nothing
    by None e = let k = simp e at may in absurd (let no : ⊥ = cc in no)
    by (Some h) e = by_hearing h e h.hearing refl
