-- Letters that come to a listener, and how polls follow from what it hears.
use Rattle.std.proofs.Common.{◌≡◌, ◌≤◌, ◌<◌, ◌+◌, ℕ, Bool, true, false, List, [], ◌∷◌, ◌++◌, length, nat_eq, Option, Some, None, is_some, IfSome, Result, Ok, Err, refl, sym, ap, subst, ◌∙◌, inl, inr, append-nil, append_assoc, length-append}
use Rattle.std.specs.Prelude.{if◌then◌else◌}
use Rattle.hub_letters.specs.declared.mode.TheConstants.{MOST_GATHERED}
use Rattle.hub_requests.specs.declared.reply.Reply.{Reply}
use Rattle.hub_requests.specs.declared.reply.Reply.TheVariants as answer
use Rattle.hub_fifodir.specs.Passes.{got, is_evicted_at}
use Rattle.hub_fifodir.proofs.Logs.{letters-append}
use Rattle.hub_listen.specs.Listening.{Listening, Feeds}
use Rattle.hub_listen.specs.Pieces.{counted_from}
use Rattle.hub_listen.specs.declared.feed.Feed.{Feed}
use Rattle.hub_listen.specs.declared.feed.Feed.TheVariants.{Hit, Quiet}
use Rattle.hub_letters.specs.declared.mode.Mode.TheVariants.{Repeat}
use Rattle.hub_listen.proofs.Cuts.{cuts_anywhere}
use Rattle.hub_listen.proofs.Singly.{never_spent, nothing_is_quiet}
use Rattle.hub_record.specs.World.{letters}
use Rattle.hub_handles.specs.declared.handles.Handles.{Handles}
use Rattle.hub_handles.specs.declared.session_listener.SessionListener.{SessionListener}
use Rattle.hub_handles.specs.Taking.{HasLooked, IsSameTicket, TakesOne}
use Rattle.hub_handles.proofs.Looks.{same_ticket, same_ticket_through}
use Rattle.hub_handles.specs.Handles.{PollsAt, left_by, listener_of}
use Rattle.hub_handles.specs.Hearings.{held_letters, Comes, Hears, HearsQuietly, HasRoom, Stops, Gives, HearsOne, Polls}

-- ---- letters come

comes_none : (h : SessionListener) → Comes h [] h
comes_none h = record {
  ticket = same_ticket h.subscription;
  mode = refl;
  taken = [];
  took = sym (append-nil (letters (got h.subscription.ticket)));
  once = append-nil (held_letters h.held);
}

comes_on : (a b c : SessionListener) (come more : List ℕ) → Comes a come b → Comes b more c → Comes a (come ++ more) c
comes_on a b c come more p q = record {
  ticket = same_ticket_through a.subscription b.subscription c.subscription p.ticket q.ticket;
  mode = q.mode ∙ p.mode;
  taken = p.taken ++ q.taken;
  took = q.took ∙ ap (λ (l : List ℕ). l ++ q.taken) p.took ∙ append_assoc (letters (got a.subscription.ticket)) p.taken q.taken;
  once = sym (append_assoc (held_letters a.held) p.taken q.taken) ∙ ap (λ (l : List ℕ). l ++ q.taken) p.once
      ∙ append_assoc come (held_letters b.held) q.taken ∙ ap (λ (l : List ℕ). come ++ l) q.once
      ∙ sym (append_assoc come more (held_letters c.held));
}

-- no letter came
comes_nothing : (old new : SessionListener) → IsSameTicket old.subscription new.subscription → new.mode ≡ old.mode → got new.subscription.ticket ≡ got old.subscription.ticket → new.held ≡ old.held
    → Comes old [] new
comes_nothing old new same mode none held = record {
  ticket = same;
  mode = mode;
  taken = [];
  took = ap letters none ∙ sym (append-nil (letters (got old.subscription.ticket)));
  once = append-nil (held_letters old.held) ∙ ap held_letters (sym held);
}

-- the letter that was taken, or none
pub gives_taken : (old new : SessionListener) (result : Result ℕ Reply) → old.held ≡ None → new.held ≡ None → new.mode ≡ old.mode
    → TakesOne old.subscription result new.subscription → Gives old result new
gives_taken old new (Ok letter) was is mode takes =
    let shows = takes.shows in (
      record {
        ticket = takes.same;
        mode = mode;
        taken = letter ∷ [];
        took = ap letters shows.1.1.1 ∙ letters-append (got old.subscription.ticket) _ ∙ ap (λ (l : List ℕ). letters (got old.subscription.ticket) ++ l) (sym shows.2);
        once = ap (λ (o : Option ℕ). held_letters o ++ letter ∷ []) was ∙ sym (ap (λ (o : Option ℕ). letter ∷ held_letters o) is);
      },
      is,
    )
gives_taken old new (Err answer.Nothing) was is mode takes = (comes_nothing old new takes.same mode takes.shows.1.1 (is ∙ sym was), (is, (takes.shows.1.0 ∙ takes.shows.0.0, takes.shows.0.1)))
gives_taken old new (Err answer.End) was is mode takes = (comes_nothing old new takes.same mode takes.shows.1.1 (is ∙ sym was), (is, (takes.shows.1.0 ∙ takes.shows.0.0, takes.shows.0.1)))
gives_taken old new (Err answer.Evicted) was is mode takes = (comes_nothing old new takes.same mode takes.shows.1.1 (is ∙ sym was), (is, ap (is_evicted_at new.subscription.ticket) takes.shows.1.0 ∙ takes.shows.0))
gives_taken old new (Err reply) was is mode takes = absurd takes

-- ---- and are heard

pub hears_none : (h : SessionListener) → h.listener.mode ≡ Repeat → length h.listener.gathered ≤ MOST_GATHERED → Hears h [] (Ok Quiet) h
hears_none h repeats fits = record { comes = comes_none h; feeds = nothing_is_quiet h.listener (never_spent h.listener repeats) fits }

-- what came wasn't heard: it is held, or there was none
pub hears_nothing : (old new : SessionListener) → Comes old [] new → new.listener ≡ old.listener → old.listener.mode ≡ Repeat → length old.listener.gathered ≤ MOST_GATHERED
    → Hears old [] (Ok Quiet) new
hears_nothing old new comes same repeats fits = record {
  comes = comes;
  feeds = (never_spent old.listener repeats, (hears_none old repeats fits).feeds.1, (hears_none old repeats fits).feeds.2, same ∙ (hears_none old repeats fits).feeds.3);
}

-- it only looked
pub hears_looked : (old new : SessionListener) → HasLooked old.subscription new.subscription → new.mode ≡ old.mode → new.listener ≡ old.listener → new.held ≡ old.held → old.listener.mode ≡ Repeat
    → length old.listener.gathered ≤ MOST_GATHERED → Hears old [] (Ok Quiet) new
hears_looked old new looks mode same held repeats fits = hears_nothing old new (comes_nothing old new looks.same mode looks.got held) same repeats fits

pub stops_idle : (old new : SessionListener) (idle : Option Reply) → IfSome idle (λ reply. TakesOne old.subscription (Err reply) new.subscription) → old.held ≡ None → new.held ≡ None → new.mode ≡ old.mode
    → IfSome idle (λ reply. Stops reply new)
stops_idle old new None takes was is mode = tt
stops_idle old new (Some reply) takes was is mode = (gives_taken old new (Err reply) was is mode takes).1

pub none_held : (held : Option ℕ) → is_some held ≡ false → held ≡ None
none_held None e = refl
none_held (Some letter) e = absurd (let k : ⊥ = cc in k)

pub hears_on : (a b c : SessionListener) (fed more : List ℕ) (heard : Feed) → Hears a fed (Ok Quiet) b → Hears b more (Ok heard) c
    → Hears a (fed ++ more) (counted_from (length fed) (Ok heard)) c
hears_on a b c fed more heard p q = record {
  comes = comes_on a b c fed more p.comes q.comes;
  feeds = cuts a.listener b.listener c.listener fed more heard p.feeds q.feeds;
}
  where
    cuts : (old between new : Listening) (first second : List ℕ) (feed : Feed) → Feeds old first (Ok Quiet) between → Feeds between second (Ok feed) new
        → Feeds old (first ++ second) (counted_from (length first) (Ok feed)) new
    cuts old between new first second feed f g = cuts_anywhere old between new first second (Ok feed) f g

-- one letter more, quietly
pub hears_quietly : (a b c : SessionListener) (fed : List ℕ) → Hears a fed (Ok Quiet) b → HearsOne b false c → (more : List ℕ) × Hears a more (Ok Quiet) c
hears_quietly a b c fed p q = (fed ++ q.0 ∷ [], hears_on a b c fed (q.0 ∷ []) Quiet p q.1)

pub gathers_one : (b c : SessionListener) → HearsOne b false c → length c.listener.gathered ≡ length b.listener.gathered + 1
gathers_one b c q = ap (λ (l : Listening). length l.gathered) q.1.feeds.3 ∙ length-append b.listener.gathered (q.0 ∷ [])

pub hit_polls : (a b c : SessionListener) (fed hit : List ℕ) → Hears a fed (Ok Quiet) b → HearsOne b true c → hit ≡ c.listener.hit → Polls a (answer.Hit hit) c
hit_polls a b c fed hit p q same =
    let long : length fed + 1 ≡ length (fed ++ q.0 ∷ []) = sym (length-append fed (q.0 ∷ [])) in
    (fed ++ q.0 ∷ [], subst (λ (n : ℕ). Hears a (fed ++ q.0 ∷ []) (Ok (Hit n)) c) long (hears_on a b c fed (q.0 ∷ []) (Hit 1) p q.1), same, q.2)

-- no letter more
pub gathers_none : (b c : SessionListener) → Hears b [] (Ok Quiet) c → length c.listener.gathered ≡ length b.listener.gathered
gathers_none b c q = ap (λ (l : Listening). length l.gathered) q.feeds.3 ∙ ap length (append-nil b.listener.gathered)

pub stop_polls : (a b c : SessionListener) (reply : Reply) (fed : List ℕ) → Hears a fed (Ok Quiet) b → Hears b [] (Ok Quiet) c → Stops reply c
    → HasRoom a → HasRoom b → Polls a reply c
stop_polls a b c reply fed p q stops few room = polls reply stops
  where
    heard : HearsQuietly a c
    heard = (fed ++ [], hears_on a b c fed [] Quiet p q)

    left : HasRoom c
    left = subst (λ (n : ℕ). n < MOST_GATHERED) (sym (gathers_none b c q)) room

    polls : (reply : Reply) → Stops reply c → Polls a reply c
    polls answer.Nothing stops = (few, heard, inl (left, stops))
    polls answer.End stops = (left, heard, stops)
    polls answer.Evicted stops = (left, heard, stops)
    polls (answer.No refusal) stops = inr (stops.0, left, heard, inl stops.1)
    polls reply stops = absurd stops

-- ---- after a poll

pub gone_if : (h : SessionListener) (o : Option SessionListener) (ends : Bool) → ends ≡ true → o ≡ None → o ≡ (if ends then None else Some h)
gone_if h o true e gone = gone
gone_if h o false e gone = absurd (let k : ⊥ = cc in k)

pub stays_if : (h : SessionListener) (o : Option SessionListener) (ends : Bool) → ends ≡ false → o ≡ Some h → o ≡ (if ends then None else Some h)
stays_if h o true e stays = absurd (let k : ⊥ = cc in k)
stays_if h o false e stays = stays

-- the listener under a number was polled, and was then put back or ended
pub polls_here : (old new : Handles) (id : ℕ) (before after : SessionListener) (reply : Reply) → Some before ≡ listener_of old id → Polls before reply after
    → listener_of new id ≡ left_by reply after → ((other : ℕ) → nat_eq id other ≡ false → listener_of new other ≡ listener_of old other)
    → new.subscriptions.entries ≡ old.subscriptions.entries → new.given ≡ old.given → PollsAt old id reply new
polls_here old new id before after reply held polls kept others subscriptions given =
    inl (record { under = record { before = before; after = after; held = sym held; step = polls; kept = kept; others = others }; subscriptions = subscriptions; given = given })
