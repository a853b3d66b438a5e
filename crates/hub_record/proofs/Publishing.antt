-- After a subscribe, a publish or a close a record represents the world after it.
use Rattle.std.proofs.Common.{ℕ, ◌≡◌, ◌+◌, ◌-◌, ◌<◌, ◌≤◌, ◌⊎◌, false, List, [], ◌∷◌, ◌++◌, length, drop, Option, All, refl, sym, ap, subst, ◌∙◌, inl, inr, arith}
use Rattle.std.proofs.lemmas.Bool.{cases_lt}
use Rattle.std.proofs.lemmas.List.{map-append, length-append, length-drop, drop-append-le, drop-drop}
use Rattle.std.specs.Map.{values_of}
use Rattle.hub_letters.specs.declared.stage.Stage.{Stage}
use Rattle.hub_letters.specs.declared.flags.Flags.{Flags}
use Rattle.hub_letters.specs.Flags.{flags_of}
use Rattle.hub_record.specs.declared.limits.Limits.{Limits}
use Rattle.hub_record.specs.declared.limits.Policy.{Policy}
use Rattle.hub_record.specs.declared.limits.Policy.TheVariants.{Hold, Evict}
use Rattle.hub_record.specs.declared.Event.{Event}
use Rattle.hub_record.specs.World.{World, IsWorld, current, active, new_subscription, least, base, load, letters, as_events, last_publisher, IsLawfulIn, needed_by, needed, HasRoom, IsFull, MayPublish}
use Rattle.hub_record.specs.Backlog.{Held, IsStill, HasRoomFor, room_for, active_in, lowest_in, with_new_id, with_events}
use Rattle.hub_record.specs.Kept.{Kept, Represents, stage_in}
use Rattle.hub_record.proofs.Cursors.{current-push, within_current, within_more, within-push}
use Rattle.hub_record.proofs.Active.{least_bound, least-push, least_grown}
use Rattle.hub_record.proofs.Slow.{lowest-push, lowest_grown}
use Rattle.hub_record.proofs.Policies.{active_hold, active_is, base_is_lowest, loaded_by, holds}
use Rattle.hub_record.proofs.Keeps.{length_stamped}
use Rattle.hub_record.proofs.RepresentsWorlds.{held_of, with_held, represents_with}

-- ---- subscribe

pub subscribed : (w : World) → IsWorld w → length w.subscriptions < w.limits.ids → IsWorld (record w { subscriptions = w.subscriptions ++ new_subscription w ∷ [] })
subscribed w i few =
    let long = length-append w.subscriptions (new_subscription w ∷ []) in
    let e = current-push 1 w.subscriptions (new_subscription w) (length w.subscriptions + 1) refl (omega arith) in
    let b = ap (least (length w.events)) e ∙ least-push (length w.events) (length w.subscriptions + 1) (current w) in
    record {
      within = i.within;
      loaded = loaded_by (record w { subscriptions = w.subscriptions ++ new_subscription w ∷ [] }) (λ hold. let k = holds w i hold in omega arith);
      given = omega arith;
      lawful = i.lawful;
      each = within-push (length w.events) w.subscriptions (new_subscription w) (record { began = omega arith; ended = omega arith }) i.each;
    }

pub subscribe_represents : (r : Kept) (h : Held) (w : World) (room : ℕ) → Represents r w → r.given < r.limits.ids → h ≡ with_new_id (held_of r room) → Represents (with_held r h) (record w { subscriptions = w.subscriptions ++ new_subscription w ∷ [] })
subscribe_represents r h w room s few is =
    let g = s.given in
    let lim = ap (λ (l : Limits). l.ids) s.limits in
    let e = current-push 1 w.subscriptions (new_subscription w) (r.given + 1) refl (omega arith) in
    let long = length-append w.subscriptions (new_subscription w ∷ []) in
    let after = record w { subscriptions = w.subscriptions ++ new_subscription w ∷ [] } in
    let world : IsWorld after = subscribed w s.world (omega arith) in
    let b : base after ≡ base w = base_is_lowest after world ∙ ap (lowest_in w.limits.waiting (length w.events)) e ∙ lowest-push w.limits.waiting (length w.events) (r.given + 1) (current w) ∙ sym (base_is_lowest w s.world) in
    represents_with r h w (w.subscriptions ++ new_subscription w ∷ []) s world (ap (λ (h : Held). h.end) is)
    (ap (λ (h : Held). h.events) is ∙ s.events ∙ ap (λ n. drop n w.events) (sym b)) (ap (λ (h : Held). h.given) is ∙ omega arith)
    (ap (λ (h : Held). h.cursors) is ∙ (λ i. s.cursors i ++ (r.given + 1, s.end i) ∷ []) ∙ sym e)

-- ---- publish

letters_stamped : (who : ℕ) (message : List ℕ) → letters (as_events who message) ≡ message
letters_stamped who [] = refl
letters_stamped who (l ∷ ls) = ap (λ z. l ∷ z) (letters_stamped who ls)

pub letters_after : (events : List Event) (who : ℕ) (message : List ℕ) → letters (events ++ as_events who message) ≡ letters events ++ message
letters_after events who message = map-append (λ (e : Event). e.letter) events (as_events who message) ∙ ap (λ z. letters events ++ z) (letters_stamped who message)

-- with the policy Hold a message that has room leaves no more pending than may be
grown : (w : World) (n : ℕ) (cs : List (ℕ × ℕ)) → current w ≡ cs → IsWorld w → HasRoom w n → w.limits.policy ≡ Hold → length w.events + n ≤ least (length w.events + n) cs + w.limits.waiting
grown w n [] is i room hold = omega arith
grown w n (c ∷ cs) is i (inl none) hold = let e : c ∷ cs ≡ [] = sym is ∙ sym (active_hold w hold) ∙ none in cc
grown w n (c ∷ cs) is i (inr room) hold =
    let g = least_grown (length w.events) (length w.events + n) (c ∷ cs) (λ (z : (c ∷ cs) ≡ []). cc) (omega arith) (subst (λ z. All (λ v. v ≤ length w.events) (values_of z)) is (within_current (length w.events) 1 w.subscriptions i.each)) in
    let b = ap (least (length w.events)) (active_hold w hold ∙ is) in
    let u = least_bound (length w.events) (c ∷ cs) in
    let need : needed w n ≡ load w + n = ap (λ p. needed_by p w n) hold in
    omega arith

pub published : (w : World) (who : ℕ) (message : List ℕ) → IsWorld w → MayPublish w message → IsWorld (record w { events = w.events ++ as_events who message })
published w who message i may =
    let lw = may.within in
    let size = length_stamped who message in
    let long : length (w.events ++ as_events who message) ≡ length w.events + length message = length-append w.events (as_events who message) ∙ ap (λ z. length w.events + z) size in
    let after = record w { events = w.events ++ as_events who message } in
    record {
      within = omega arith;
      loaded = loaded_by after (λ hold. subst (λ z. z ≤ least z (current w) + w.limits.waiting) (sym long) (grown w (length message) (current w) refl i may.room hold));
      given = i.given;
      lawful = subst (IsLawfulIn w.kind) (sym (letters_after w.events who message)) may.lawful;
      each = within_more (length w.events) (length (w.events ++ as_events who message)) w.subscriptions (omega arith) i.each;
    }

-- what is kept of the events then
kept_after : (r : Kept) (w : World) (who room : ℕ) (message : List ℕ) → Represents r w → room ≡ r.limits.waiting → MayPublish w message
    → (with_events (held_of r room) (as_events who message)).events ≡ drop (base (record w { events = w.events ++ as_events who message })) (w.events ++ as_events who message)
kept_after r w who room message s at may =
    let more = as_events who message in
    let after = record w { events = w.events ++ more } in
    let world : IsWorld after = published w who message s.world may in
    let long = length-append w.events more in
    let most : room ≡ w.limits.waiting = at ∙ ap (λ (l : Limits). l.waiting) s.limits in
    let low = base_is_lowest w s.world in
    let within = least_bound (length w.events) (active w) in
    let now : lowest_in room (r.end + length more) r.cursors ≡ base after =
    (λ j. lowest_in (most j) (s.end j + length more) (s.cursors j)) ∙ ap (λ n. lowest_in w.limits.waiting n (current w)) (sym long) ∙ sym (base_is_lowest after world) in
    let was : lowest_in room r.end r.cursors ≡ base w = (λ j. lowest_in (most j) (s.end j) (s.cursors j)) ∙ sym low in
    let moved = base_is_lowest after world in
    let on = lowest_grown w.limits.waiting (base w) (base w) (length w.events) (length (w.events ++ more)) (current w) (omega arith) (inl (omega arith)) (omega arith) (omega arith) in
    let sum : base w + (base after - base w) ≡ base after = omega arith in
    (λ j. drop (now j - was j) (s.events j ++ more)) ∙ ap (drop (base after - base w)) (sym (drop-append-le (base w) w.events more within))
    ∙ drop-drop (base after - base w) (base w) (w.events ++ more) ∙ ap (λ n. drop n (w.events ++ more)) sum

pub publish_represents : (r : Kept) (h : Held) (w : World) (who room : ℕ) (message : List ℕ) (stage : Stage) (flags : Flags) (last : Option ℕ) → Represents r w → room ≡ r.limits.waiting → MayPublish w message → h ≡ with_events (held_of r room) (as_events who message) → stage ≡ stage_in w.kind (letters w.events ++ message) → flags ≡ flags_of (letters w.events ++ message) → last ≡ last_publisher (w.events ++ as_events who message) → Represents (record (with_held r h) { stage = stage; flags = flags; last = last }) (record w { events = w.events ++ as_events who message })
publish_represents r h w who room message stage flags last s at may e st fl la =
    let n = s.end in
    let long = length-append w.events (as_events who message) in
    let same = letters_after w.events who message in
    record {
      world = published w who message s.world may;
      kind = s.kind;
      limits = s.limits;
      closed = s.closed;
      end = ap (λ (h : Held). h.end) e ∙ omega arith;
      events = ap (λ (h : Held). h.events) e ∙ kept_after r w who room message s at may;
      given = ap (λ (h : Held). h.given) e ∙ s.given;
      cursors = ap (λ (h : Held). h.cursors) e ∙ s.cursors;
      stage = st ∙ ap (stage_in w.kind) (sym same);
      flags = fl ∙ ap flags_of (sym same);
      last = la;
    }

-- ---- room

needed_is : (r : Kept) (w : World) (n room : ℕ) (p : Policy) → Represents r w → room_for p (held_of r room) n ≡ needed_by p w n
needed_is r w n room Hold s =
    let k = ap length s.events in
    let d = length-drop (base w) w.events in
    omega arith
needed_is r w n room Evict s = refl

none_active : (r : Kept) (w : World) (room : ℕ) → Represents r w → room ≡ r.limits.waiting → active w ≡ active_in room r.end r.cursors
none_active r w room s at = active_is w s.world ∙ sym (λ j. active_in ((at ∙ ap (λ (l : Limits). l.waiting) s.limits) j) (s.end j) (s.cursors j))

pub has_room : (r : Kept) (w : World) (n room : ℕ) → Represents r w → room ≡ r.limits.waiting → HasRoomFor r.limits.policy (held_of r room) n → HasRoom w n
has_room r w n room s is (inl none) = inl (none_active r w room s is ∙ none)
has_room r w n room s is (inr left) =
    let need = needed_is r w n room r.limits.policy s ∙ ap (λ (l : Limits). needed_by l.policy w n) s.limits in
    let l = ap (λ (z : Limits). z.waiting) s.limits in
    inr (omega arith)

pub is_full : (r : Kept) (w : World) (n room : ℕ) → Represents r w → room ≡ r.limits.waiting → (HasRoomFor r.limits.policy (held_of r room) n → ⊥) → IsFull w n
is_full r w n room s is full =
    let need = needed_is r w n room r.limits.policy s ∙ ap (λ (l : Limits). needed_by l.policy w n) s.limits in
    let l = ap (λ (z : Limits). z.waiting) s.limits in
    let over : w.limits.waiting < needed w n = elim (cases_lt w.limits.waiting (needed w n)) [ inl more ↦ more | inr less ↦ absurd (full (inr (omega arith))) ] in
    ((λ none. full (inl (sym (none_active r w room s is) ∙ none))), over)

-- what has room fits by itself
pub fits_from : (p : Policy) (h : Held) (n : ℕ) → HasRoomFor p h n → IsStill h ⊎ (n ≤ h.room)
fits_from p h n (inl none) = inl none
fits_from Hold h n (inr left) = inr (omega arith)
fits_from Evict h n (inr left) = inr left

pub may_publish : (r : Kept) (w : World) (message : List ℕ) → Represents r w → r.closed ≡ false → IsLawfulIn w.kind (letters w.events ++ message) → r.end + length message ≤ r.limits.total → HasRoom w (length message) → MayPublish w message
may_publish r w message s o l t room =
    let m = s.end in
    let k = ap (λ z. z.total) s.limits in
    record { is_open = sym s.closed ∙ o; lawful = l; within = omega arith; room = room }

-- what it means that the stages follow the message from the record's stage
pub follows : (r : Kept) (w : World) (message : List ℕ) (t : Stage) → Represents r w → ((word : List ℕ) → IsLawfulIn r.kind word → stage_in r.kind word ≡ r.stage → IsLawfulIn r.kind (word ++ message) × (t ≡ stage_in r.kind (word ++ message))) → IsLawfulIn w.kind (letters w.events ++ message) × (t ≡ stage_in w.kind (letters w.events ++ message))
follows r w message t s h =
    subst (λ k. IsLawfulIn k (letters w.events ++ message) × (t ≡ stage_in k (letters w.events ++ message))) s.kind
    (h (letters w.events) (subst (λ k. IsLawfulIn k (letters w.events)) (sym s.kind) s.world.lawful) (ap (λ k. stage_in k (letters w.events)) s.kind ∙ sym s.stage))
