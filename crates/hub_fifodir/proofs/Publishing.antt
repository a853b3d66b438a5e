-- A publisher's calls, from step to step: m0 before, m1 with the lock, m2 after the store to the front, m3 after.
use Rattle.std.proofs.Common.{◌≡◌, ◌≢◌, ℕ, ◌+◌, ◌<◌, ◌≤◌, not, true, false, Bool, List, [], ◌++◌, length, Some, Ok, Err, sym, refl, ap, ◌∙◌, subst, inl, inr, arith, length-append, ne_eqb, eq-eqb}
use mathlib.Core.Logic.{dite}
use native.Mathlib.Decide.{ℕ_discrete}
use Rattle.hub_letters.specs.Flags.{flags_of}
use Rattle.hub_record.specs.declared.Event.{Event}
use Rattle.hub_record.specs.declared.Kind.{Kind}
use Rattle.hub_record.specs.declared.limits.Limits.{Limits}
use Rattle.hub_record.specs.declared.limits.TheConstants.{MOST_EVENTS}
use Rattle.hub_record.specs.declared.PubError.{PubError}
use Rattle.hub_record.specs.declared.Status.{Status}
use Rattle.hub_record.specs.declared.PubError.TheVariants as post
use Rattle.hub_record.specs.World.{World, IsWorld, letters, as_events, needed_by, IsLawfulIn, IsUnlawfulIn, PublishReply, after_publish, close_reply, after_close}
use Rattle.hub_record.specs.declared.Closed.{Closed}
use Rattle.hub_record.specs.Runs.{by}
use Rattle.std.proofs.lemmas.Bool.{cases_Bool}
use Rattle.hub_fifodir.specs.declared.views.Rules.{Rules}
use Rattle.hub_fifodir.specs.declared.views.Sight.{Sight}
use Rattle.hub_fifodir.specs.declared.views.View.{View}
use Rattle.hub_fifodir.specs.declared.views.Writing.{Writing}
use Rattle.hub_fifodir.specs.declared.views.Role.{Role}
use Rattle.hub_fifodir.specs.declared.views.Role.TheVariants.{Publisher}
use Rattle.hub_fifodir.specs.declared.locked.Locked.{Locked}
use Rattle.hub_fifodir.specs.Events.{packed_word}
use Rattle.hub_fifodir.specs.Events.{is_closed, front_word}
use Rattle.hub_fifodir.specs.Locks.{RepresentsWorld, KeepsPublishers, status_of}
use Rattle.hub_fifodir.specs.Rule.{sight, IsLive, IsNumbered, IsSane, IsBehind, IsSound, book_of}
use Rattle.hub_fifodir.specs.Steps.{M, Locks, Gives, IsWriter, WritesMessage, WritesMark, view_with_letters, closing, writing_of, mine_of, writer, view_at_rest}
use Rattle.hub_record.specs.declared.limits.Policy.{Policy}
use Rattle.hub_record.specs.declared.limits.Policy.TheVariants.{Hold, Evict}
use Rattle.hub_fifodir.specs.Passes.{IsRefusedBy, HasAdded, most_needed}
use Rattle.hub_record.proofs.Since.{by-append}
use Rattle.hub_record.proofs.Publishing.{letters_after}
use Rattle.hub_record.proofs.Keeps.{length_stamped}
use Rattle.hub_fifodir.proofs.Logs.{by_own}
use Rattle.hub_fifodir.proofs.Rests.{rests, same_book}
use Rattle.hub_fifodir.proofs.Pending.{pending_same}

true_apart : false ≡ true → ⊥
true_apart e = cc

pub open_when : (mark : ℕ) (closed : Bool) → closed ≡ is_closed mark → closed ≡ false → mark ≡ 0
open_when mark closed e c = dite (ℕ_discrete mark 0) (λ z. z) (λ n. absurd (true_apart (sym c ∙ e ∙ ap not (ne_eqb mark 0 n))))

pub closed_when : (mark : ℕ) (closed : Bool) → closed ≡ is_closed mark → closed ≡ true → mark ≢ 0
closed_when mark closed e c z = absurd (true_apart (sym (sym c ∙ e ∙ ap not (eq-eqb mark 0 z))))

-- what the answer to a close shows
pub shut_by : (w : World) → Ok tt ≡ close_reply w → w.closed ≡ false
shut_by w e = elim (cases_Bool w.closed) [ inl t ↦ (let k = simp t at e in cc) | inr f ↦ f ]

pub shut_already : (w : World) (x : Closed) → Err x ≡ close_reply w → w.closed ≡ true
shut_already w x e = elim (cases_Bool w.closed) [ inl t ↦ t | inr f ↦ (let k = simp f at e in cc) ]

-- ---- why a message is refused

full_only : (w : World) (n : ℕ) (p : Policy) → IsWorld w → w.limits.waiting < needed_by p w n → (0 < n) × (w.limits.waiting < most_needed p (length w.events) n)
full_only w n Hold h e = let l = h.loaded in (omega arith, omega arith)
full_only w n Evict h e = (omega arith, e)

pub refused_by : (rules : Rules) (s : Sight) (b : Locked) (message : List ℕ) (e : PubError) (h : IsBehind rules s.seen s.closed b) → PublishReply h.world message (Err e) → IsRefusedBy rules s message e
refused_by rules s b message post.Closed h r = closed_when s.closed h.world.closed h.closed r
refused_by rules s b message (post.Unlawful i) h r = (open_when s.closed h.world.closed h.closed r.0, subst (λ (k : Kind). IsUnlawfulIn k (letters s.seen) message i) h.kind (subst (λ (l : List Event). IsUnlawfulIn h.world.kind (letters l) message i) h.events r.1))
refused_by rules s b message post.Spent h r = (
  open_when s.closed h.world.closed h.closed r.0,
  subst (λ (k : Kind). IsLawfulIn k (letters s.seen ++ message)) h.kind (subst (λ (l : List Event). IsLawfulIn h.world.kind (letters l ++ message)) h.events r.1),
  subst (λ (l : Limits). l.total < length s.seen + length message) h.limits (subst (λ (l : List Event). h.world.limits.total < length l + length message) h.events r.2),
)
refused_by rules s b message post.Full h r = let full = full_only h.world (length message) h.world.limits.policy h.for.for.world r.3.1 in (
  open_when s.closed h.world.closed h.closed r.0,
  subst (λ (k : Kind). IsLawfulIn k (letters s.seen ++ message)) h.kind (subst (λ (l : List Event). IsLawfulIn h.world.kind (letters l ++ message)) h.events r.1),
  subst (λ (l : Limits). length s.seen + length message ≤ l.total) h.limits (subst (λ (l : List Event). length l + length message ≤ h.world.limits.total) h.events r.2),
  full.0,
  subst (λ (l : Limits). l.waiting < most_needed l.policy (length s.seen) (length message)) h.limits (subst (λ (l : List Event). h.world.limits.waiting < most_needed h.world.limits.policy (length l) (length message)) h.events full.1),
)

-- a status never tells more events than a record may have
pub within_events : {b : Locked} → (w : World) (status : Status) → RepresentsWorld b w → status ≡ status_of w → status.number ≤ MOST_EVENTS
within_events w status h s = let number : status.number ≡ length w.events = ap (λ (x : Status). x.number) s in
    let total = w.limits.total_in_range.1 in let within = h.for.world.within in omega arith

-- the front word of a world's status
pub word_is : (w : World) (log : List Event) (mark : ℕ) (status : Status) (word : ℕ) → w.events ≡ log → w.closed ≡ is_closed mark
    → status ≡ status_of w → word ≡ packed_word status.number status.closed status.flags → word ≡ front_word log mark
word_is w log mark status word events shut s e =
    e ∙ ap (λ (x : Status). packed_word x.number x.closed x.flags) s
    ∙ (λ i. packed_word (length (events i)) (shut i) (flags_of (letters (events i))))

module _ (m0 m1 : M) (n : ℕ) (b : Locked) (w : IsWriter m0 n) (h : Locks book_of IsBehind IsSound m0.0 m1.0 b) where
  pub role_held : m1.0.role ≡ writer n (mine_of m0.0.role)
  role_held = ap (λ (v : View). v.role) h.renews.is ∙ w.role

  pub is_held : m1.0.held ≡ Some (book_of b)
  is_held = ap (λ (v : View). v.held) h.renews.is

  pub live_held : IsLive m1.0.role
  live_held = subst IsLive (sym role_held) tt

  pub mine_held : by n m1.0.sight.seen ≡ mine_of m0.0.role
  mine_held = subst (IsSane m1.0.sight.seen) role_held h.renews.sane

  -- the publisher knew of its own close
  pub knew_own : 0 < n → m1.0.sight.closed ≡ n → m0.0.sight.closed ≢ 0
  knew_own pos e z =
      let same : m0.0.sight ≡ m1.0.sight = h.renews.own n (subst (IsNumbered n) (sym w.role) refl) e (λ k. absurd (omega arith)) in
      let k : m0.0.sight.closed ≡ n = ap (λ (s : Sight). s.closed) same ∙ e in absurd (omega arith)

  -- nothing was changed
  pub rests_refused : (b' : Locked) → b' ≡ b → Gives m1 b' (view_at_rest m1.0 m1.0.role)
  rests_refused b' e = rests m1 b b' live_held is_held h.bounded (ap book_of e) (subst (IsBehind m1.0.rules m1.0.sight.seen m1.0.sight.closed) (sym e) h.behind)

  -- a seat that rests again is the publisher's between two calls
  pub writer_still : (m3 : M) → m3 ≡ (view_at_rest m1.0 m1.0.role, []) → IsWriter m3 n
  writer_still m3 e = record {
    role = ap (λ (m : M). m.0.role) e ∙ role_held ∙ ap (writer n) (sym (ap (λ (m : M). mine_of m.0.role) e ∙ ap mine_of role_held));
    held = ap (λ (m : M). m.0.held) e;
    out = ap (λ (m : M). m.1) e;
    met = ap (λ (m : M). m.0.met) e;
    own = ap (λ (m : M). by n m.0.sight.seen) e ∙ mine_held ∙ sym (ap (λ (m : M). mine_of m.0.role) e ∙ ap mine_of role_held);
    within = subst (λ (m : M). length m.0.sight.seen ≤ m.0.rules.limits.total) (sym e) h.renews.sound_is.0;
  }

  pub is_n : (writing_of m1.0.role).number ≡ n
  is_n = ap (λ (r : Role). (writing_of r).number) role_held

  is_writing : m1.0.role ≡ Publisher (writing_of m1.0.role)
  is_writing = subst (λ (r : Role). r ≡ Publisher (writing_of r)) (sym role_held) refl

  -- a message was added
  module _ (b' : Locked) (message : List ℕ) (first : ℕ) (r : PublishReply h.behind.world message (Ok first)) (after : RepresentsWorld b' (after_publish h.behind.world n message (Ok first))) (others : KeepsPublishers b b') where
    abbrev p : Writing
    p = writing_of m1.0.role

    pub is_open : m1.0.sight.closed ≡ 0
    is_open = open_when m1.0.sight.closed h.behind.world.closed h.behind.closed r.0.is_open

    events_are : h.behind.world.events ++ as_events n message ≡ m1.0.sight.seen ++ as_events (writing_of m1.0.role).number message
    events_are = λ i. h.behind.events i ++ as_events (sym is_n i) message

    behind : IsBehind m1.0.rules (m1.0.sight.seen ++ as_events (writing_of m1.0.role).number message) m1.0.sight.closed b'
    behind = record { world = after_publish h.behind.world n message (Ok first); for = after; events = events_are; closed = h.behind.closed; kind = h.behind.kind; limits = h.behind.limits }

    sound_longer : (k : ℕ) → IsSound m1.0.rules (m1.0.sight.seen ++ as_events k message)
    sound_longer k =
        let total : length m1.0.sight.seen + length message ≤ m1.0.rules.limits.total =
        subst (λ (l : Limits). length m1.0.sight.seen + length message ≤ l.total) h.behind.limits (subst (λ (l : List Event). length l + length message ≤ h.behind.world.limits.total) h.behind.events r.0.within) in
        let long : length (m1.0.sight.seen ++ as_events k message) ≡ length m1.0.sight.seen + length message = length-append m1.0.sight.seen (as_events k message) ∙ ap (λ (x : ℕ). length m1.0.sight.seen + x) (length_stamped k message) in
        let word : List ℕ = letters m1.0.sight.seen ++ message in
        let lawful : IsLawfulIn m1.0.rules.kind (letters m1.0.sight.seen ++ message) =
        subst (λ (x : Kind). IsLawfulIn x (letters m1.0.sight.seen ++ message)) h.behind.kind (subst (λ (l : List Event). IsLawfulIn h.behind.world.kind (letters l ++ message)) h.behind.events r.0.lawful) in
        (omega arith, subst (IsLawfulIn m1.0.rules.kind) (sym (letters_after m1.0.sight.seen k message)) lawful)

    pub may_write : (status : Status) (word : ℕ) → status ≡ status_of (after_publish h.behind.world n message (Ok first)) → word ≡ packed_word status.number status.closed status.flags
        → WritesMessage m1 word message (view_with_letters m1.0 (writing_of m1.0.role) message)
    may_write status word s e = (
      book_of b,
      is_held,
      is_open,
      is_writing,
      word_is (after_publish h.behind.world n message (Ok first)) (m1.0.sight.seen ++ as_events (writing_of m1.0.role).number message) 0 status word events_are (h.behind.closed ∙ ap is_closed is_open) s e,
      sound_longer (writing_of m1.0.role).number,
      refl,
      pending_same m1.0.rules (m1.0.sight.seen ++ as_events (writing_of m1.0.role).number message) m1.0.sight.closed b b' behind (after.for.cursors ∙ sym h.behind.for.for.cursors),
    )

    module _ (m2 : M) (e2 : m2 ≡ (view_with_letters m1.0 (writing_of m1.0.role) message, m1.1)) where
      pub rests_longer : Gives m2 b' (view_at_rest m2.0 m2.0.role)
      rests_longer = subst (λ (m : M). Gives m b' (view_at_rest m.0 m.0.role)) (sym e2)
          (rests (view_with_letters m1.0 (writing_of m1.0.role) message, m1.1) b b' tt is_held h.bounded (same_book b b' h.behind.world (after_publish h.behind.world n message (Ok first)) h.behind.for after refl others) behind)

      module _ (m3 : M) (e3 : m3 ≡ (view_at_rest m2.0 m2.0.role, [])) where
        now : m3 ≡ (view_at_rest (view_with_letters m1.0 (writing_of m1.0.role) message) (view_with_letters m1.0 (writing_of m1.0.role) message).role, [])
        now = e3 ∙ ap (λ (m : M). (view_at_rest m.0 m.0.role, [])) e2

        role_is : m3.0.role ≡ writer n (mine_of m0.0.role ++ message)
        role_is = ap (λ (m : M). m.0.role) now ∙ ap (λ (r : Role). Publisher record { number = (writing_of r).number; mine = (writing_of r).mine ++ message; gone = (writing_of r).gone }) role_held

        seen_is : m3.0.sight.seen ≡ m1.0.sight.seen ++ as_events n message
        seen_is = ap (λ (m : M). m.0.sight.seen) now ∙ ap (λ (k : ℕ). m1.0.sight.seen ++ as_events k message) is_n

        pub mine_longer : mine_of m3.0.role ≡ mine_of m0.0.role ++ message
        mine_longer = ap mine_of role_is

        pub sound_now : IsSound m3.0.rules m3.0.sight.seen
        sound_now = subst (λ (m : M). IsSound m.0.rules m.0.sight.seen) (sym now) (sound_longer (writing_of m1.0.role).number)

        pub writer_longer : IsWriter m3 n
        writer_longer = record {
          role = role_is ∙ ap (writer n) (sym mine_longer);
          held = ap (λ (m : M). m.0.held) now;
          out = ap (λ (m : M). m.1) now;
          met = ap (λ (m : M). m.0.met) now;
          own = ap (by n) seen_is ∙ by-append n m1.0.sight.seen (as_events n message) ∙ (λ i. mine_held i ++ by_own n message i) ∙ sym mine_longer;
          within = sound_now.0;
        }

        pub added : HasAdded m1 n message (Ok first) m3
        added = (
          is_open,
          r.1 ∙ ap length h.behind.events,
          ap (λ (m : M). m.0.rules) now,
          ap (λ (m : M). m.0.sight) now ∙ (λ i. sight (m1.0.sight.seen ++ as_events (is_n i) message) (is_open i)),
          mine_longer ∙ ap (λ (l : List ℕ). l ++ message) (sym (ap mine_of role_held)),
        )

  -- the record was closed
  module _ (b' : Locked) (shut : h.behind.world.closed ≡ false) (after : RepresentsWorld b' (after_close h.behind.world)) (others : KeepsPublishers b b') (pos : 0 < n) where
    was_open : m1.0.sight.closed ≡ 0
    was_open = open_when m1.0.sight.closed h.behind.world.closed h.behind.closed shut

    is_shut : true ≡ is_closed (writing_of m1.0.role).number
    is_shut = sym (ap is_closed is_n ∙ ap not (ne_eqb n 0 (λ e. let p : 0 < n = pos in absurd (omega arith))))

    pub may_mark : (status : Status) (word : ℕ) → status ≡ status_of (after_close h.behind.world) → word ≡ packed_word status.number status.closed status.flags
        → WritesMark m1 word (closing m1.0 (writing_of m1.0.role))
    may_mark status word s e = (
      book_of b,
      is_held,
      was_open,
      is_writing,
      word_is (after_close h.behind.world) m1.0.sight.seen (writing_of m1.0.role).number status word h.behind.events is_shut s e,
      refl,
    )

    module _ (m2 : M) (e2 : m2 ≡ (closing m1.0 (writing_of m1.0.role), m1.1)) where
      pub rests_shut : Gives m2 b' (view_at_rest m2.0 m2.0.role)
      rests_shut = subst (λ (m : M). Gives m b' (view_at_rest m.0 m.0.role)) (sym e2)
          (rests (closing m1.0 (writing_of m1.0.role), m1.1) b b' live_held is_held h.bounded (same_book b b' h.behind.world (after_close h.behind.world) h.behind.for after refl others)
          record { world = after_close h.behind.world; for = after; events = h.behind.events; closed = is_shut; kind = h.behind.kind; limits = h.behind.limits })
