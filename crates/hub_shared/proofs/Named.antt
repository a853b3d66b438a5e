-- A session's handles stay at the fifodirs of their names, whatever it is asked.
use Rattle.std.proofs.Common.{◌≡◌, ℕ, List, true, false, Option, None, Some, nat_eq, refl, sym, ap, subst, ◌∙◌, inl, inr}
use Rattle.std.proofs.lemmas.Bool.{cases_Bool, eqb-true}
use Rattle.std.proofs.lemmas.Slice.Eq.{bytes_eq-Decides}
use Rattle.std.specs.Arc.{arc_value}
use Rattle.std.specs.Map.{lookup}
use Rattle.std.specs.Str.{bytes_eq}
use Rattle.hub_requests.specs.declared.request.Request.{Request}
use Rattle.hub_requests.specs.declared.request.Request.TheVariants.{Dir, Svc, Sub, Pub, Tell, Will, Close, Status, About, Listen, Wait, Names}
use Rattle.hub_requests.specs.declared.reply.Reply.{Reply}
use Rattle.hub_requests.specs.declared.reply.Reply.TheVariants as answer
use Rattle.hub_letters.specs.declared.mode.Mode.{Mode}
use Rattle.hub_letters.specs.declared.state.State.{State}
use Rattle.hub_fifodir.specs.declared.publisher.Publisher.{Publisher}
use Rattle.hub_names.specs.declared.hub.Hub.{Hub}
use Rattle.hub_names.specs.declared.fifodirs.Fifodirs.{Fifodirs}
use Rattle.hub_names.specs.declared.joined.Joined.{Joined}
use Rattle.hub_names.specs.Fifodirs.{AsksUnder, KeepsAll, KeepsNone, joined_at}
use Rattle.hub_names.specs.Hubs.{IsFoundIn}
use Rattle.hub_names.proofs.KeptFifodirs.{one_of}
use Rattle.hub_names.specs.Speaking.{AsksAsPublisher, Describes, Tells, fifodir_of, found_of}
use Rattle.hub_names.specs.Says.{says_told}
use Rattle.hub_names.specs.Wills.{ReadiesForWill, ReadiesSpeaker}
use Rattle.hub_handles.specs.declared.handles.Handles.{Handles}
use Rattle.hub_handles.specs.declared.session_listener.SessionListener.{SessionListener}
use Rattle.hub_handles.specs.declared.subscription.Subscription.{Subscription}
use Rattle.hub_handles.specs.Handles.{HoldsNone, IsStill, listener_of, subscription_of}
use Rattle.hub_handles.specs.Requests.{KeepsTickets}
use Rattle.hub_handles.specs.Taking.{IsSameTicket, name_of}
use Rattle.hub_handles.proofs.Keeping.{keeps_tickets}
use Rattle.hub_shared.specs.Desks.{CarriesOut, ListensTo, SubscribesTo}
use Rattle.hub_shared.specs.Named.{AreNamed, IsNamed, StaysNamed}

not_both : {A : Type 0} (a : A) (o : Option A) → o ≡ Some a → o ≡ None → ⊥
not_both a o e f = cc

same_name : (a b : List ℕ) → bytes_eq a b ≡ true → a ≡ b
same_name a b e = (bytes_eq-Decides a b).0 e

-- what holds under each number holds still, if it holds under one number and nothing else has changed
at_number : {A : Type 0} (P : A → Type 0) (old new : ℕ → Option A) (n : ℕ) (here : Option A) → new n ≡ here → ((a : A) → here ≡ Some a → P a)
    → ((other : ℕ) → nat_eq n other ≡ false → new other ≡ old other) → ((id : ℕ) (a : A) → old id ≡ Some a → P a) → (id : ℕ) (a : A) → new id ≡ Some a → P a
at_number P old new n here is holds others was id a at =
    elim (cases_Bool (nat_eq n id)) [
      | inl e ↦ holds a (sym is ∙ ap new (eqb-true n id e) ∙ at)
      | inr e ↦ was id a (sym (others id e) ∙ at)
    ]

-- ---- the same handles, and more that is kept

named_still : (hub : Hub) (fs gs : Fifodirs) → KeepsAll hub fs gs → (s : Subscription) → IsNamed fs s → IsNamed gs s
named_still hub fs gs keeps s n = record { joined = n.joined; kept_is = keeps.each (name_of s) n.joined n.kept_is; dir = n.dir }

found_still : (hub : Hub) (fs gs : Fifodirs) → KeepsAll hub fs gs → ((name : List ℕ) (j : Joined) → joined_at fs name ≡ Some j → IsFoundIn hub name j.found)
    → (name : List ℕ) (j : Joined) → joined_at gs name ≡ Some j → IsFoundIn hub name j.found
found_still hub fs gs keeps found name j at = of (joined_at fs name) refl
  where
    of : (o : Option Joined) → joined_at fs name ≡ o → IsFoundIn hub name j.found
    of None was = (keeps.fresh name j at was).found
    of (Some k) was = subst (λ (i : Joined). IsFoundIn hub name i.found) (one_of k j (joined_at gs name) (keeps.each name k was) at) (found name k was)

all_still : (hub : Hub) (fs gs : Fifodirs) (hs : Handles) → KeepsAll hub fs gs → AreNamed hub fs hs → AreNamed hub gs hs
all_still hub fs gs hs keeps n = record {
  found = found_still hub fs gs keeps n.found;
  subscriptions = λ id s at. named_still hub fs gs keeps s (n.subscriptions id s at);
  listeners = λ id h at. named_still hub fs gs keeps h.subscription (n.listeners id h at);
}

-- the same is kept under each name
named_as_before : (hub : Hub) (fs gs : Fifodirs) (hs : Handles) → ((key : List ℕ) → joined_at gs key ≡ joined_at fs key) → AreNamed hub fs hs → AreNamed hub gs hs
named_as_before hub fs gs hs same n = record {
  found = λ name j at. n.found name j (sym (same name) ∙ at);
  subscriptions = λ id s at. still s (n.subscriptions id s at);
  listeners = λ id h at. still h.subscription (n.listeners id h at);
}
  where
    still : (s : Subscription) → IsNamed fs s → IsNamed gs s
    still s was = record { joined = was.joined; kept_is = same (name_of s) ∙ was.kept_is; dir = was.dir }

-- ---- a publisher speaks

asked_found : (says : Publisher → Reply → Publisher → Type 0) (before after : Joined) (reply : Reply) → AsksAsPublisher says before reply after → after.found ≡ before.found
asked_found says before after reply (inl spoke) = spoke.spoken.found
asked_found says before after reply (inr unmade) = unmade.found

told_found : (state : State) (before after : Joined) (reply : Reply) → Tells state before reply after → after.found ≡ before.found
told_found state before after reply (inl (service, asked)) = asked_found (says_told state) before after reply asked
told_found state before after reply (inr (plain, said, same)) = ap found_of same

described_found : (before after : Joined) (reply : Reply) → Describes before reply after → after.found ≡ before.found
described_found before after reply described = ap found_of described.same

readied_found : (before after : Joined) (reply : Reply) → ReadiesSpeaker before reply after → after.found ≡ before.found
readied_found before after reply (inl (done, has)) = has.found
readied_found before after reply (inr (inl (said, same))) = ap found_of same
readied_found before after reply (inr (inr unmade)) = unmade.found

willed_found : (before after : Joined) (reply : Reply) → ReadiesForWill before reply after → after.found ≡ before.found
willed_found before after reply (inl (service, readied)) = readied_found before after reply readied
willed_found before after reply (inr (plain, said, same)) = ap found_of same

-- what is asked keeps the fifodir
spoken_named : (hub : Hub) (asks : Joined → Reply → Joined → Type 0) (keeps : (before after : Joined) (reply : Reply) → asks before reply after → after.found ≡ before.found)
    (fs gs : Fifodirs) (hs : Handles) (name : List ℕ) (reply : Reply) → AsksUnder hub asks fs name reply gs → AreNamed hub fs hs → AreNamed hub gs hs
spoken_named hub asks keeps fs gs hs name reply (inl a) n =
    let same = keeps a.before a.after reply a.asked in
    let still : (s : Subscription) → IsNamed fs s → IsNamed gs s = λ s was.
    elim (cases_Bool (bytes_eq name (name_of s))) [
      | inl e ↦ (
          let is = same_name name (name_of s) e in
          elim a.found [
            | inl at ↦ record {
              joined = a.after;
              kept_is = subst (λ (z : List ℕ). joined_at gs z ≡ Some a.after) is a.keeps.here;
              dir = was.dir ∙ ap fifodir_of (one_of was.joined a.before (joined_at fs name) (ap (joined_at fs) is ∙ was.kept_is) at) ∙ sym (ap (λ f. arc_value f.dir) same);
            }
            | inr new ↦ absurd (not_both was.joined (joined_at fs name) (ap (joined_at fs) is ∙ was.kept_is) new.0)
          ]
          )
      | inr e ↦ record { joined = was.joined; kept_is = a.keeps.others (name_of s) e ∙ was.kept_is; dir = was.dir }
    ]
    in
    record {
      found = λ other j at.
          elim (cases_Bool (bytes_eq name other)) [
            | inl e ↦ (
                let is = same_name name other e in
                let here = one_of a.after j (joined_at gs name) a.keeps.here (ap (joined_at gs) is ∙ at) in
                let was : IsFoundIn hub name a.before.found = elim a.found [ inl at ↦ n.found name a.before at | inr new ↦ new.1.found ] in
                subst (λ (z : List ℕ). IsFoundIn hub z j.found) is (subst (λ (f : Joined). IsFoundIn hub name f.found) here (subst (IsFoundIn hub name) (sym same) was))
                )
            | inr e ↦ n.found other j (sym (a.keeps.others other e) ∙ at)
          ];
      subscriptions = λ id s at. still s (n.subscriptions id s at);
      listeners = λ id h at. still h.subscription (n.listeners id h at);
    }
spoken_named hub asks keeps fs gs hs name reply (inr u) n = named_as_before hub fs gs hs (λ key. ap (lookup (bytes_eq key)) u.finding.before) n

-- ---- other handles

handles_still : (hub : Hub) (fs : Fifodirs) (hs ks : Handles) → IsStill hs ks → AreNamed hub fs hs → AreNamed hub fs ks
handles_still hub fs hs ks still n = record {
  found = n.found;
  subscriptions = λ id s at. n.subscriptions id s (sym (ap (lookup (nat_eq id)) still.subscriptions) ∙ at);
  listeners = λ id h at. n.listeners id h (sym (ap (lookup (nat_eq id)) still.listeners) ∙ at);
}

-- the subscription under one number has changed, and no other handle
subscription_changed : (hub : Hub) (fs : Fifodirs) (hs ks : Handles) (id : ℕ) (s : Subscription) → IsNamed fs s → subscription_of ks id ≡ Some s
    → ((other : ℕ) → nat_eq id other ≡ false → subscription_of ks other ≡ subscription_of hs other) → ks.listeners.entries ≡ hs.listeners.entries → AreNamed hub fs hs → AreNamed hub fs ks
subscription_changed hub fs hs ks id s named here others listeners n = record {
  found = n.found;
  subscriptions = at_number (IsNamed fs) (subscription_of hs) (subscription_of ks) id (Some s) here (λ z is. subst (IsNamed fs) (one_of s z (Some s) refl is) named) others n.subscriptions;
  listeners = λ other h at. n.listeners other h (sym (ap (lookup (nat_eq other)) listeners) ∙ at);
}

-- the listener under one number has changed or is gone, and no other handle has changed
listener_changed : (hub : Hub) (fs : Fifodirs) (hs ks : Handles) (id : ℕ) (left : Option SessionListener) → ((h : SessionListener) → left ≡ Some h → IsNamed fs h.subscription) → listener_of ks id ≡ left
    → ((other : ℕ) → nat_eq id other ≡ false → listener_of ks other ≡ listener_of hs other) → ks.subscriptions.entries ≡ hs.subscriptions.entries → AreNamed hub fs hs → AreNamed hub fs ks
listener_changed hub fs hs ks id left named here others subscriptions n = record {
  found = n.found;
  subscriptions = λ other s at. n.subscriptions other s (sym (ap (lookup (nat_eq other)) subscriptions) ∙ at);
  listeners = at_number (λ h. IsNamed fs h.subscription) (listener_of hs) (listener_of ks) id left here named others n.listeners;
}

-- and this one is left
listener_left : (fs : Fifodirs) (h : SessionListener) → IsNamed fs h.subscription → (z : SessionListener) → Some h ≡ Some z → IsNamed fs z.subscription
listener_left fs h named z is = subst (λ (h : SessionListener). IsNamed fs h.subscription) (one_of h z (Some h) refl is) named

begun_named : (fs : Fifodirs) (name : List ℕ) (j : Joined) (s : Subscription) → joined_at fs name ≡ Some j → name_of s ≡ name → arc_value s.dir ≡ fifodir_of j → IsNamed fs s
begun_named fs name j s at named dir = record { joined = j; kept_is = ap (joined_at fs) named ∙ at; dir = dir }

subscribed_named : (hub : Hub) (fs : Fifodirs) (hs ks : Handles) (name : List ℕ) (reply : Reply) → SubscribesTo hub fs name hs reply ks → AreNamed hub fs hs → AreNamed hub fs ks
subscribed_named hub fs hs ks name (answer.Number number) (inl (j, at, a)) n =
    subscription_changed hub fs hs ks number a.subscription (begun_named fs name j a.subscription at a.begins.named a.begins.dir) a.placed a.others a.listeners n
subscribed_named hub fs hs ks name (answer.No refusal) (inl (j, at, a)) n = handles_still hub fs hs ks a.0 n
subscribed_named hub fs hs ks name reply (inl (j, at, a)) n = absurd a
subscribed_named hub fs hs ks name reply (inr (unfound, same)) n = subst (AreNamed hub fs) (sym same) n

listened_named : (hub : Hub) (fs : Fifodirs) (hs ks : Handles) (name : List ℕ) (mode : Mode) (pattern : List ℕ) (reply : Reply) → ListensTo hub fs name mode pattern hs reply ks
    → AreNamed hub fs hs → AreNamed hub fs ks
listened_named hub fs hs ks name mode pattern (answer.Number number) (inl (j, at, a)) n =
    listener_changed hub fs hs ks number (Some a.hearing) (listener_left fs a.hearing (begun_named fs name j a.hearing.subscription at a.begins.named a.begins.dir)) a.placed a.others a.subscriptions n
listened_named hub fs hs ks name mode pattern (answer.No refusal) (inl (j, at, a)) n = handles_still hub fs hs ks a.0 n
listened_named hub fs hs ks name mode pattern reply (inl (j, at, a)) n = absurd a
listened_named hub fs hs ks name mode pattern reply (inr (unfound, same)) n = subst (AreNamed hub fs) (sym same) n

same_named : (fs : Fifodirs) (a b : Subscription) → IsSameTicket a b → IsNamed fs a → IsNamed fs b
same_named fs a b same n = record { joined = n.joined; kept_is = ap (joined_at fs) same.named ∙ n.kept_is; dir = ap arc_value same.dir ∙ n.dir }

-- each handle that there still is has its ticket
kept_named : (hub : Hub) (fs : Fifodirs) (hs ks : Handles) → KeepsTickets hs ks → AreNamed hub fs hs → AreNamed hub fs ks
kept_named hub fs hs ks keeps n = record {
  found = n.found;
  subscriptions = λ id s at. let had = keeps.subscriptions id s at in same_named fs had.before s had.same (n.subscriptions id had.before had.had);
  listeners = λ id h at. let had = keeps.listeners id h at in same_named fs had.before.subscription h.subscription had.same (n.listeners id had.before had.had);
}

-- ---- whatever is asked

-- the session keeps the same by name
kept_as_it_was : (hub : Hub) (fs gs : Fifodirs) (hs : Handles) → gs.by_name.entries ≡ fs.by_name.entries → AreNamed hub fs hs → AreNamed hub gs hs
kept_as_it_was hub fs gs hs same n = named_as_before hub fs gs hs (λ key. ap (lookup (bytes_eq key)) same) n

asked_named : (hub : Hub) (fs gs : Fifodirs) (hs ks : Handles) (request : Request) (reply : Reply) → AreNamed hub fs hs → CarriesOut hub fs hs request reply gs ks → AreNamed hub gs ks
asked_named hub fs gs hs ks (Dir name waiting total evict) reply n ((limits, are, m), f) = subst (AreNamed hub gs) (sym f) (kept_as_it_was hub fs gs hs (ap (λ (z : Fifodirs). z.by_name.entries) m.kept) n)
asked_named hub fs gs hs ks (Svc name waiting total notifies evict) reply n ((limits, are, m), f) = subst (AreNamed hub gs) (sym f) (kept_as_it_was hub fs gs hs (ap (λ (z : Fifodirs). z.by_name.entries) m.kept) n)
asked_named hub fs gs hs ks (Sub name) reply n (keeps, a) = subscribed_named hub gs hs ks name reply a (all_still hub fs gs hs keeps n)
asked_named hub fs gs hs ks (Pub name letters) reply n (a, f) = subst (AreNamed hub gs) (sym f) (spoken_named hub _ (asked_found _) fs gs hs name reply a n)
asked_named hub fs gs hs ks (Tell name state) reply n (a, f) = subst (AreNamed hub gs) (sym f) (spoken_named hub _ (told_found state) fs gs hs name reply a n)
asked_named hub fs gs hs ks (Will name will) reply n (a, f) = subst (AreNamed hub gs) (sym f) (spoken_named hub ReadiesForWill willed_found fs gs hs name reply a n)
asked_named hub fs gs hs ks (Close name) reply n (a, f) = subst (AreNamed hub gs) (sym f) (spoken_named hub _ (asked_found _) fs gs hs name reply a n)
asked_named hub fs gs hs ks (Status name) reply n (a, f) = subst (AreNamed hub gs) (sym f) (spoken_named hub _ (asked_found _) fs gs hs name reply a n)
asked_named hub fs gs hs ks (About name) reply n (a, f) = subst (AreNamed hub gs) (sym f) (spoken_named hub Describes described_found fs gs hs name reply a n)
asked_named hub fs gs hs ks (Listen name mode pattern) reply n (keeps, a) = listened_named hub gs hs ks name _ _ reply a (all_still hub fs gs hs keeps n)
asked_named hub fs gs hs ks (Wait span want turns names) reply n (keeps, why, f) = subst (AreNamed hub gs) (sym f) (all_still hub fs gs hs keeps n)
asked_named hub fs gs hs ks (Names from) reply n (a, f) =
    subst (AreNamed hub gs) (sym f) (kept_as_it_was hub fs gs hs (ap (λ (z : Fifodirs). z.by_name.entries) a.kept) n)
asked_named hub fs gs hs ks request reply n a = subst (λ (z : Fifodirs). AreNamed hub z ks) (sym a.0) (kept_named hub fs hs ks (keeps_tickets hs ks request reply a.1) n)

new_named : (hub : Hub) (fs : Fifodirs) (hs : Handles) → KeepsNone fs → HoldsNone hs → AreNamed hub fs hs
new_named hub fs hs none holds = record {
  found = λ name j at. absurd (not_both j (joined_at fs name) at (ap (lookup (bytes_eq name)) none));
  subscriptions = λ id s at. absurd (not_both s (subscription_of hs id) at (ap (lookup (nat_eq id)) holds.subscriptions));
  listeners = λ id h at. absurd (not_both h (listener_of hs id) at (ap (lookup (nat_eq id)) holds.listeners));
}

pub stays_named : (hub : Hub) → StaysNamed hub
stays_named hub = record { new = new_named hub; asked = asked_named hub }
