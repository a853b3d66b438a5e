-- What requests that only look leave of the records of a desk.
use Rattle.std.proofs.Common.{◌≡◌, ℕ, ◌+◌, ◌≤◌, ◌==◌, Bool, true, false, if◌then◌else◌, List, [], ◌∷◌, ◌++◌, length, nat_lt, Option, Some, None, Result, Ok, Err, refl, sym, ap, subst, ◌∙◌, inl, inr, true≢false, arith}
use Rattle.std.specs.List.{list_any}
use Rattle.std.specs.Str.{bytes_eq}
use Rattle.std.proofs.lemmas.Bool.{cases_Bool, eqb-true, ltb-false, le-ltb}
use Rattle.std.proofs.lemmas.Slice.Eq.{bytes_eq-Decides}
use Rattle.hub_letters.specs.declared.mode.Mode.{Mode}
use Rattle.hub_letters.specs.declared.mode.TheConstants.{MOST_GATHERED}
use Rattle.hub_letters.specs.declared.mode.Mode.TheVariants.{Once, Repeat}
use Rattle.hub_record.specs.declared.limits.Policy.{Policy}
use Rattle.hub_record.specs.declared.limits.Policy.TheVariants.{Hold, Evict}
use Rattle.hub_record.specs.World.{World, Subscription, letters, current_from, active, load, least, needed, needed_by, subscription_in, changed_from, as_cancelled, moved_on, after_subscribe, after_publish, after_take, after_take_for, after_cancel, after_cancel_for}
use Rattle.hub_record.specs.declared.PubError.{PubError}
use Rattle.hub_record.specs.declared.PubError.TheVariants as post
use Rattle.hub_record.specs.declared.SubError.{SubError}
use Rattle.hub_record.proofs.Policies.{active_hold}
use Rattle.hub_listen.specs.Hit.{hit_length}
use Rattle.hub_local.specs.Desks.{Desk, Answer, Fifodir, world_of, with_world, holding_at, end_in, without_held}
use Rattle.hub_local.specs.DeskAnswers.{own_refusal, request_answer, answer_by, in_world, for_holding, for_hearing, is_none, poll_told, polled_at, refusal_to_poll, taken_at, told_next, subscribe_answer, new_hearing}
use Rattle.hub_local.specs.Polls.{hear_answer, heard_on, heard_to_hit, ended_by, taken_from, to_hear}
use Rattle.hub_local.specs.Waits.{wait_answer, HasUsedIdsThere, WaitsUseIds}
use Rattle.hub_local.specs.declared.local_desk.Holding.{Holding}
use Rattle.hub_local.specs.declared.local_desk.LocalListener.{LocalListener}
use Rattle.hub_local.proofs.KeptFifodirs.{world_of-with_world}
use Rattle.hub_requests.specs.declared.request.Request.{Request}
use Rattle.hub_requests.specs.declared.request.Request.TheVariants.{Dir, Svc, Sub, Pub, Tell, Will, Take, Cancel, Close, Status, About, Listen, Poll, Await, Next, Wait, Names}
use Rattle.hub_requests.specs.declared.reply.Refusal.{Refusal}
use Rattle.hub_local.specs.Replies.{publish_reply, open_reply, lawful_reply, is_full, first_unlawful, subscribe_reply}
use Rattle.hub_rights.specs.Records.{AreShort, AreAccepted, IsLookedAt, IsLookedAtThere, MayBeAsked, LooksLeaveRecords}

-- ---- no message is refused that wasn't

-- fewer wait, or the same with less behind them
abbrev pub Eases : List Subscription → List Subscription → Type 0
Eases [] [] = Unit {0}
Eases [] (n ∷ ns) = (n.current ≡ false) × Eases [] ns
Eases (o ∷ os) [] = ⊥
Eases (o ∷ os) (n ∷ ns) = (n.current ≡ true → (o.current ≡ true) × (o.next ≤ n.next)) × Eases os ns

pub eases_itself : (ss : List Subscription) → Eases ss ss
eases_itself [] = tt
eases_itself (s ∷ ss) = ((λ h. (h, omega arith)), eases_itself ss)

-- one subscription is changed to one that is no longer current, or that is further on
pub eases_changed : (f : Subscription → Subscription) → ((s : Subscription) → (f s).current ≡ true → (s.current ≡ true) × (s.next ≤ (f s).next))
    → (from : ℕ) (ss : List Subscription) (id : ℕ) → Eases ss (changed_from f from ss id)
eases_changed f g from [] id = tt
eases_changed f g from (s ∷ ss) id = elim (cases_Bool (id == from)) [
  | inl e ↦ simp e ((λ h. g s h), eases_itself ss)
  | inr e ↦ simp e ((λ h. (h, omega arith)), eases_changed f g (from + 1) ss id)
]

-- those that were added aren't current
pub eases_added : (ss more : List Subscription) → list_any (λ s. s.current) more ≡ false → Eases ss (ss ++ more)
eases_added [] [] h = tt
eases_added [] (m ∷ more) h = elim (cases_Bool m.current) [
  | inl t ↦ absurd (true≢false (let k = simp t at h in k))
  | inr t ↦ (t, eases_added [] more (simp t at h))
]
eases_added (s ∷ ss) more h = ((λ c. (c, omega arith)), eases_added ss more h)

-- so the least of them doesn't fall
least_eases : (end from : ℕ) (os ns : List Subscription) → Eases os ns → least end (current_from from os) ≤ least end (current_from from ns)
least_eases end from [] [] h = omega arith
least_eases end from [] (n ∷ ns) h = let k = least_eases end (from + 1) [] ns h.1 in simp h.0 k
least_eases end from (o ∷ os) [] h = absurd h
least_eases end from (o ∷ os) (n ∷ ns) h =
    let k = least_eases end (from + 1) os ns h.1 in
    elim (cases_Bool n.current) [
      | inl t ↦ (let both = h.0 t in let up = both.1 in simp (t, both.0) (omega arith))
      | inr t ↦ elim (cases_Bool o.current) [ inl u ↦ simp (t, u) (omega arith) | inr u ↦ simp (t, u) k ]
    ]

not_full : (w : World) (n : ℕ) → needed w n ≤ w.limits.waiting → is_full w n ≡ false
not_full w n h = elim (cases_Bool (length (active w) == 0)) [ inl t ↦ simp t | inr t ↦ simp t (le-ltb w.limits.waiting (needed w n) h) ]

none_counted : (end : ℕ) (cs : List (ℕ × ℕ)) → (length cs == 0) ≡ true → least end cs ≡ end
none_counted end [] e = refl
none_counted end (c ∷ cs) e = let is : length (c ∷ cs) ≡ 0 = eqb-true (length (c ∷ cs)) 0 e in absurd (omega arith)

-- what is pending, and the message, if that alone has room
load_fits : (w : World) (n : ℕ) → n ≤ w.limits.waiting → w.limits.policy ≡ Hold → is_full w n ≡ false → load w + n ≤ w.limits.waiting
load_fits w n few is room = elim (cases_Bool (length (active w) == 0)) [
  | inl t ↦ (let none = none_counted (length w.events) (active w) t in omega arith)
  | inr t ↦ (let k = ltb-false w.limits.waiting (needed w n) (simp t at room) in let e : needed w n ≡ load w + n = ap (λ (p : Policy). needed_by p w n) is in omega arith)
]

unless_closed : (closed : Bool) (before after : Result ℕ PubError) (first : ℕ) → (before ≡ Ok first → after ≡ Ok first)
    → (if closed then Err post.Closed else before) ≡ Ok first → (if closed then Err post.Closed else after) ≡ Ok first
unless_closed true before after first h e = e
unless_closed false before after first h e = h e

module _ (old : World) (ns : List Subscription) where
  abbrev now : World
  now = record old { subscriptions = ns }

  -- ---- what gives way

  -- what a message of few letters needs
  abbrev NeedsFew : World → ℕ → Type 0
  NeedsFew w n = needed w n ≤ old.limits.waiting

  few_if_evicting : (n : ℕ) → n ≤ old.limits.waiting → old.limits.policy ≡ Evict → NeedsFew now n
  few_if_evicting n few is = let e : needed now n ≡ n = ap (λ (p : Policy). needed_by p now n) is in omega arith

  few_if_holding : (n : ℕ) → n ≤ old.limits.waiting → old.limits.policy ≡ Hold → Eases old.subscriptions ns → is_full old n ≡ false → NeedsFew now n
  few_if_holding n few is eases room =
      let before = ap (least (length old.events)) (active_hold old is) in
      let after = ap (least (length old.events)) (active_hold now is) in
      let rises = least_eases (length old.events) 1 old.subscriptions ns eases in
      let fits = load_fits old n few is room in
      let e : needed now n ≡ load now + n = ap (λ (p : Policy). needed_by p now n) is in
      omega arith

  keeps_room : (n : ℕ) → n ≤ old.limits.waiting → (old.limits.policy ≡ Hold → Eases old.subscriptions ns) → is_full old n ≡ false → is_full now n ≡ false
  keeps_room n few eases room = not_full now n (by old.limits.policy refl)
    where
      by : (p : Policy) → old.limits.policy ≡ p → NeedsFew now n
      by Evict is = few_if_evicting n few is
      by Hold is = few_if_holding n few is (eases is) room

  -- ---- what is replied

  lawful_too : (n first : ℕ) → (is_full old n ≡ false → is_full now n ≡ false) → lawful_reply old n ≡ Ok first → lawful_reply now n ≡ Ok first
  lawful_too n first keeps e = elim (cases_Bool (nat_lt old.limits.total (length old.events + n))) [
    | inl t ↦ (let k = simp t at e in absurd (let no : ⊥ = cc in no))
    | inr f ↦ elim (cases_Bool (is_full old n)) [
      | inl t ↦ (let k = simp (f, t) at e in absurd (let no : ⊥ = cc in no))
      | inr g ↦ (let k = simp (f, g) at e in let kept = keeps g in simp (f, kept) k)
    ]
  ]

  open_too : (n first : ℕ) (place : Option ℕ) → (is_full old n ≡ false → is_full now n ≡ false) → open_reply old n place ≡ Ok first → open_reply now n place ≡ Ok first
  open_too n first None keeps e = lawful_too n first keeps e
  open_too n first (Some place) keeps e = e

  accepts_too : (message : List ℕ) (first : ℕ) → (is_full old (length message) ≡ false → is_full now (length message) ≡ false)
      → publish_reply old message ≡ Ok first → publish_reply now message ≡ Ok first
  accepts_too message first keeps e =
      unless_closed old.closed (open_reply old (length message) (first_unlawful old.kind (letters old.events) message))
      (open_reply now (length message) (first_unlawful now.kind (letters now.events) message)) first (λ k. open_too (length message) first _ keeps k) e

-- a message that is accepted changes no subscription
accepted_on : (old : World) (ns : List Subscription) → (old.limits.policy ≡ Hold → Eases old.subscriptions ns) → (messages : List (List ℕ))
    → AreShort old.limits.waiting messages → AreAccepted old messages → AreAccepted (record old { subscriptions = ns }) messages
accepted_on old ns eases [] short h = tt
accepted_on old ns eases (message ∷ rest) short (first, e, k) = (
  first,
  accepts_too old ns message first (keeps_room old ns (length message) short.0 eases) e,
  accepted_on (after_publish old 1 message (Ok first)) ns eases rest short.1 k,
)

pub looked_by : (old : World) (ns : List Subscription) → (old.limits.policy ≡ Hold → Eases old.subscriptions ns) → IsLookedAt old (record old { subscriptions = ns })
looked_by old ns eases = record { same = refl; accepts = λ messages short h. accepted_on old ns eases messages short h }

-- ---- one look after another

looked_itself : (w : World) → IsLookedAt w w
looked_itself w = record { same = refl; accepts = λ messages short h. h }

looked_on : (a b c : World) → IsLookedAt a b → IsLookedAt b c → IsLookedAt a c
looked_on a b c h k = record {
  same = k.same ∙ ap (λ (w : World). record w { subscriptions = c.subscriptions }) h.same;
  accepts = λ messages short e. (let room : b.limits.waiting ≡ a.limits.waiting = ap (λ (w : World). w.limits.waiting) h.same in
      k.accepts messages (subst (λ most. AreShort most messages) (sym room) short) (h.accepts messages short e));
}

there_itself : (o : Option World) → IsLookedAtThere o o
there_itself None = tt
there_itself (Some w) = looked_itself w

there_on : (o p q : Option World) → IsLookedAtThere o p → IsLookedAtThere p q → IsLookedAtThere o q
there_on None None None h k = tt
there_on None None (Some c) h k = k
there_on None (Some b) q h k = absurd h
there_on (Some a) None q h k = absurd h
there_on (Some a) (Some b) None h k = k
there_on (Some a) (Some b) (Some c) h k = looked_on a b c h k

-- each fifodir was only looked at
abbrev Looked : List Fifodir → List Fifodir → Type 0
Looked fs gs = (q : List ℕ) → IsLookedAtThere (world_of fs q) (world_of gs q)

looked_none : (fs : List Fifodir) → Looked fs fs
looked_none fs q = there_itself (world_of fs q)

looked_twice : (fs gs hs : List Fifodir) → Looked fs gs → Looked gs hs → Looked fs hs
looked_twice fs gs hs h k q = there_on (world_of fs q) (world_of gs q) (world_of hs q) (h q) (k q)

looked_with : (fs : List Fifodir) (name : List ℕ) (w v : World) → world_of fs name ≡ Some w → IsLookedAt w v → Looked fs (with_world fs name v)
looked_with fs name w v is h q =
    let looked = world_of-with_world name fs w v q is in
    elim (cases_Bool (bytes_eq q name)) [
      | inl e ↦ (let here : (if bytes_eq q name then Some v else world_of fs q) ≡ Some v = simp e in
          let same : q ≡ name = (bytes_eq-Decides q name).0 e in
          let was : world_of fs q ≡ Some w = ap (world_of fs) same ∙ is in
          subst (λ (z : Option World). IsLookedAtThere z (world_of (with_world fs name v) q)) (sym was) (subst (IsLookedAtThere (Some w)) (sym (looked ∙ here)) h))
      | inr e ↦ (let there : (if bytes_eq q name then Some v else world_of fs q) ≡ world_of fs q = simp e in
          subst (IsLookedAtThere (world_of fs q)) (sym (looked ∙ there)) (there_itself (world_of fs q)))
    ]

-- ---- what is done to a record

is_cancelled : (w : World) (id : ℕ) → IsLookedAt w (after_cancel w id)
is_cancelled w id = by (subscription_in w id)
  where
    by : (o : Option Subscription) → IsLookedAt w (after_cancel_for w id o)
    by None = looked_itself w
    by (Some s) = looked_by w _ (λ hold. eases_changed as_cancelled (λ x h. absurd (true≢false (sym h))) 1 w.subscriptions id)

is_taken : (w : World) (id most : ℕ) → IsLookedAt w (after_take w id most)
is_taken w id most = by (subscription_in w id)
  where
    by : (o : Option Subscription) → IsLookedAt w (after_take_for w id most o)
    by None = looked_itself w
    by (Some s) = looked_by w _ (λ hold. eases_changed (moved_on w most) (λ x h. (h, omega arith)) 1 w.subscriptions id)

-- ---- one request

in_world_looked : (d : Desk) (done : World → Answer) (o : Option World) → ((w : World) → o ≡ Some w → Looked d.fifodirs (done w).desk.fifodirs) → Looked d.fifodirs (in_world d done o).desk.fifodirs
in_world_looked d done None h = looked_none d.fifodirs
in_world_looked d done (Some w) h = h w refl

for_holding_looked : (d : Desk) (done : Holding → Answer) (o : Option Holding) → ((h : Holding) → Looked d.fifodirs (done h).desk.fifodirs) → Looked d.fifodirs (for_holding d done o).desk.fifodirs
for_holding_looked d done None h = looked_none d.fifodirs
for_holding_looked d done (Some x) h = h x

for_hearing_looked : (d : Desk) (done : LocalListener → Answer) (o : Option LocalListener) → ((g : LocalListener) → Looked d.fifodirs (done g).desk.fifodirs) → Looked d.fifodirs (for_hearing d done o).desk.fifodirs
for_hearing_looked d done None h = looked_none d.fifodirs
for_hearing_looked d done (Some x) h = h x

answer_looked : (d : Desk) (own : Option Refusal) (done : Answer) → Looked d.fifodirs done.desk.fifodirs → Looked d.fifodirs (answer_by d own done).desk.fifodirs
answer_looked d (Some refusal) done h = looked_none d.fifodirs
answer_looked d None done h = h

subscribed_looked : (d : Desk) (name : List ℕ) (hearing : Option LocalListener) (w : World) → world_of d.fifodirs name ≡ Some w → w.limits.policy ≡ Evict
    → (r : Result (ℕ × ℕ) SubError) → Looked d.fifodirs (subscribe_answer d name hearing w r).desk.fifodirs
subscribed_looked d name hearing w is evict (Err error) = looked_none d.fifodirs
subscribed_looked d name hearing w is evict (Ok given) =
    looked_with d.fifodirs name w (after_subscribe w (Ok given)) is (looked_by w _ (λ hold. (let both : Evict ≡ Hold = sym evict ∙ hold in absurd (let no : ⊥ = cc in no))))

ended_in_looked : (fs : List Fifodir) (h : Holding) (o : Option World) → world_of fs h.name ≡ o → Looked fs (end_in fs h o)
ended_in_looked fs h None is = looked_none fs
ended_in_looked fs h (Some w) is = looked_with fs h.name w (after_cancel w h.id) is (is_cancelled w h.id)

without_looked : (fs : List Fifodir) (h : Holding) → Looked fs (without_held fs h)
without_looked fs h = ended_in_looked fs h (world_of fs h.name) refl

taken_looked : (d : Desk) (id max : ℕ) → Looked d.fifodirs (taken_at d id max).desk.fifodirs
taken_looked d id max = for_holding_looked d _ (holding_at d id) (λ h. in_world_looked d _ (world_of d.fifodirs h.name) (λ w is. looked_with d.fifodirs h.name w (after_take w h.id max) is (is_taken w h.id max)))

ended_looked : (mode : Mode) (d : Desk) (number : ℕ) (h : Holding) → Looked d.fifodirs (ended_by mode d number h).fifodirs
ended_looked Once d number h = without_looked d.fifodirs h
ended_looked Repeat d number h = looked_none d.fifodirs

heard_looked : (d : Desk) (number : ℕ) (h : Holding) (g : LocalListener) (w : World) (letters : List ℕ) (o : Option ℕ) → world_of d.fifodirs h.name ≡ Some w
    → Looked d.fifodirs (hear_answer d number h g w letters o).desk.fifodirs
heard_looked d number h g w letters (Some k) is =
    let mid = heard_on d number h (heard_to_hit g letters k) (taken_from g w h.id k) in
    looked_twice d.fifodirs mid.fifodirs (ended_by g.mode mid number h).fifodirs
    (looked_with d.fifodirs h.name w (taken_from g w h.id k) is (is_taken w h.id _)) (ended_looked g.mode mid number h)
heard_looked d number h g w letters None is = looked_with d.fifodirs h.name w _ is (is_taken w h.id _)

polled_looked : (d : Desk) (id : ℕ) → Looked d.fifodirs (polled_at d id).desk.fifodirs
polled_looked d id = for_holding_looked d _ (holding_at d id) (λ h. for_hearing_looked d _ h.hearing (λ g.
    in_world_looked d _ (world_of d.fifodirs h.name) (λ w is. heard_looked d id h g w (to_hear g w h.id) (hit_length g.listener.pattern g.listener.gathered (to_hear g w h.id)) is)))

told_looked : (d : Desk) (id : ℕ) → Looked d.fifodirs (poll_told d id).desk.fifodirs
told_looked d id = answer_looked d (refusal_to_poll (holding_at d id)) (polled_at d id) (polled_looked d id)

next_looked : (d : Desk) (id : ℕ) (o : Option LocalListener) → Looked d.fifodirs (told_next d id o).desk.fifodirs
next_looked d id None = taken_looked d id MOST_GATHERED
next_looked d id (Some g) = elim (cases_Bool (is_none (poll_told d id).reply)) [
  | inl t ↦ simp t (looked_twice d.fifodirs (poll_told d id).desk.fifodirs (poll_told (poll_told d id).desk id).desk.fifodirs (told_looked d id) (told_looked (poll_told d id).desk id))
  | inr t ↦ simp t (told_looked d id)
]

used_looked : (o p : Option World) → HasUsedIdsThere o p → IsLookedAtThere o p
used_looked None None h = tt
used_looked None (Some new) h = h
used_looked (Some old) None h = h
used_looked (Some old) (Some new) h =
    subst (IsLookedAt old) (sym h.same) (looked_by old (old.subscriptions ++ h.used) (λ hold. eases_added old.subscriptions h.used h.none_active))

module _ (waits_use_ids : WaitsUseIds) where
  asked_looked : (d : Desk) (read : Bool) (request : Request) → MayBeAsked d request → Looked d.fifodirs (answer_by d (own_refusal d read request) (request_answer d request)).desk.fifodirs
  asked_looked d read (Dir name waiting total evict) may = absurd (true≢false may.changes_nothing)
  asked_looked d read (Svc name waiting total notifies evict) may = absurd (true≢false may.changes_nothing)
  asked_looked d read (Pub name message) may = absurd (true≢false may.changes_nothing)
  asked_looked d read (Tell name state) may = absurd (true≢false may.changes_nothing)
  asked_looked d read (Will name will) may = absurd (true≢false may.changes_nothing)
  asked_looked d read (Close name) may = absurd (true≢false may.changes_nothing)
  asked_looked d read (Sub name) may = answer_looked d (own_refusal d read (Sub name)) (request_answer d (Sub name)) (in_world_looked d _ (world_of d.fifodirs name) (λ w is. subscribed_looked d name None w is (may.holds_nobody_up name w refl is) (subscribe_reply w)))
  asked_looked d read (Listen name mode pattern) may =
      answer_looked d (own_refusal d read (Listen name mode pattern)) (request_answer d (Listen name mode pattern)) (in_world_looked d _ (world_of d.fifodirs name) (λ w is. subscribed_looked d name (Some (new_hearing pattern mode)) w is (may.holds_nobody_up name w refl is) (subscribe_reply w)))
  asked_looked d read (Take id max) may = answer_looked d (own_refusal d read (Take id max)) (request_answer d (Take id max)) (taken_looked d id max)
  asked_looked d read (Cancel id) may = answer_looked d (own_refusal d read (Cancel id)) (request_answer d (Cancel id)) (for_holding_looked d _ (holding_at d id) (λ h. without_looked d.fifodirs h))
  asked_looked d read (Status name) may = answer_looked d (own_refusal d read (Status name)) (request_answer d (Status name)) (in_world_looked d _ (world_of d.fifodirs name) (λ w is. looked_none d.fifodirs))
  asked_looked d read (About name) may = answer_looked d (own_refusal d read (About name)) (request_answer d (About name)) (in_world_looked d _ (world_of d.fifodirs name) (λ w is. looked_none d.fifodirs))
  asked_looked d read (Poll id) may = answer_looked d (own_refusal d read (Poll id)) (request_answer d (Poll id)) (polled_looked d id)
  asked_looked d read (Await id turns) may = answer_looked d (own_refusal d read (Await id turns)) (request_answer d (Await id turns)) (for_holding_looked d _ (holding_at d id) (λ h. in_world_looked d _ (world_of d.fifodirs h.name) (λ w is. looked_none d.fifodirs)))
  asked_looked d read (Next id turns) may = answer_looked d (own_refusal d read (Next id turns)) (request_answer d (Next id turns)) (for_holding_looked d _ (holding_at d id) (λ h. next_looked d id h.hearing))
  asked_looked d read (Wait span want turns names) may =
      answer_looked d (own_refusal d read (Wait span want turns names)) (request_answer d (Wait span want turns names)) (λ q. used_looked (world_of d.fifodirs q) (world_of (wait_answer d span want names).desk.fifodirs q) (waits_use_ids d span want names q))
  asked_looked d read (Names from) may = answer_looked d (own_refusal d read (Names from)) (request_answer d (Names from)) (looked_none d.fifodirs)

-- a wait uses ids, and leaves nothing else
pub looks_leave_records : WaitsUseIds → LooksLeaveRecords
looks_leave_records waits d read request name may = asked_looked waits d read request may name
