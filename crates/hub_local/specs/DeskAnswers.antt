-- What a desk answers to requests, and what it is afterwards.
use Rattle.std.specs.Prelude.{ℕ, ◌≡◌, ◌⊎◌, ◌+◌, Bool, true, false, if◌then◌else◌, List, [], ◌∷◌, ◌++◌, length, nat_le, Option, Some, None, is_some, unwrap_or, Result, Ok, Err}
use Rattle.std.specs.List.{list_all}
use Rattle.hub_letters.specs.declared.mode.TheConstants.{MOST_GATHERED}
use Rattle.hub_letters.specs.Flags.{flags_of}
use Rattle.hub_listen.specs.Hit.{IsPattern}
use Rattle.hub_listen.specs.Listening.{new_listening}
use Rattle.hub_letters.specs.declared.mode.Mode.{Mode}
use Rattle.hub_letters.specs.declared.mode.Mode.TheVariants.{Repeat}
use Rattle.hub_record.specs.declared.limits.TheConstants.{MOST_IDS}
use Rattle.hub_record.specs.World.{World, empty_world, letters, after_subscribe, after_publish, take_reply, take_events, after_take, close_reply, after_close}
use Rattle.hub_record.specs.World as worlds
use Rattle.hub_record.specs.declared.Kind.{Kind}
use Rattle.hub_record.specs.declared.Kind.TheVariants.{Plain, Service}
use Rattle.hub_record.specs.declared.limits.Limits.{Limits}
use Rattle.hub_record.specs.LimitsOf.{limits_of}
use Rattle.hub_record.specs.declared.SubError.{SubError}
use Rattle.hub_record.specs.declared.PubError.{PubError}
use Rattle.hub_record.specs.declared.Taken.{Taken}
use Rattle.hub_record.specs.declared.Taken.TheVariants as taken
use Rattle.hub_record.specs.declared.NoId.{NoId}
use Rattle.hub_record.specs.declared.Closed.{Closed}
use Rattle.hub_requests.specs.declared.bounds.TheConstants.{MOST_NAMES}
use Rattle.hub_local.specs.Desks.{Desk, Answer, names_in, world_of, reports_of, with_world, active, holding_at, without_handle, refusal_answer}
use Rattle.hub_local.specs.Polls.{poll_answer, LeftByPoll}
use Rattle.hub_local.specs.Awaits.{await_answer}
use Rattle.hub_local.specs.Ends.{word_in}
use Rattle.hub_local.specs.Replies.{subscribe_reply, publish_reply}
use Rattle.hub_requests.specs.Refusals.{refusal_of_sub, refusal_of_pub}
use Rattle.hub_requests.specs.Listings.{names_reply}
use Rattle.hub_requests.specs.Lateness.{or_late}
use Rattle.hub_requests.specs.Room.{policy_of, refusal_of_handle}
use Rattle.hub_requests.specs.Wills.{with_will}
use Rattle.hub_requests.specs.declared.will.Will.{Will}
use Rattle.hub_local.specs.Waits.{wait_answer, LeftByWait}
use Rattle.hub_local.specs.declared.local_desk.LocalListener.{LocalListener}
use Rattle.hub_local.specs.declared.local_desk.Holding.{Holding}
use Rattle.hub_requests.specs.declared.request.Request.{Request}
use Rattle.hub_requests.specs.declared.request.Request.TheVariants.{Dir, Svc, Sub, Pub, Tell, Will as Leave, Take, Cancel, Close, Status, About, Listen, Poll, Await, Next, Wait, Names}
use Rattle.hub_requests.specs.declared.about.About as abouts
use Rattle.hub_requests.specs.declared.reply.Reply.{Reply}
use Rattle.hub_requests.specs.declared.reply.Reply.TheVariants as said
use Rattle.hub_requests.specs.declared.reply.Reply.TheVariants.{Done, Number, State, Got, Nothing, End, Evicted, No}
use Rattle.hub_requests.specs.declared.reply.Refusal.{Refusal}
use Rattle.hub_requests.specs.declared.reply.Refusal.TheVariants as no

-- ---- what the desk itself refuses, in the order of the refusals

abbrev pub refusal_to_make : Desk → List ℕ → Option Refusal
refusal_to_make d name =
    if is_some (world_of d.fifodirs name) then Some no.Exists else
    if nat_le MOST_NAMES (length d.fifodirs) then Some no.Many else
    None

abbrev pub refusal_by_name : Desk → List ℕ → Option Refusal
refusal_by_name d name = if is_some (world_of d.fifodirs name) then None else Some no.Name

abbrev pub refusal_by_kind : Kind → Option Refusal
refusal_by_kind Plain = Some no.Kind
refusal_by_kind Service = None

-- only of a service can be told where it is
abbrev pub refusal_to_tell : Option World → Option Refusal
refusal_to_tell None = Some no.Name
refusal_to_tell (Some w) = refusal_by_kind w.kind

-- the refusal of one more handle, for a subscription to the fifodir of this name
abbrev pub refusal_to_hold : Desk → List ℕ → Option Refusal
refusal_to_hold d name =
    if is_some (world_of d.fifodirs name) then
    refusal_of_handle (length (active d)) (length d.handles)
    else Some no.Name

-- the same for a listener; `read` says whether its text is a pattern
abbrev pub refusal_to_listen : Bool → Option Refusal → Option Refusal
refusal_to_listen read (Some refusal) = Some refusal
refusal_to_listen true None = None
refusal_to_listen false None = Some no.Pattern

-- a take needs the handle of a plain subscription
abbrev pub refusal_to_take : Option Holding → Option Refusal
refusal_to_take None = Some no.Id
refusal_to_take (Some h) = if is_some h.hearing then Some no.Id else None

abbrev pub refusal_to_hear : Option LocalListener → Option Refusal
refusal_to_hear None = Some no.Id
refusal_to_hear (Some hearing) = if nat_le MOST_GATHERED (length hearing.listener.gathered) then Some no.Overlong else None

-- and a poll needs the handle of a listener
abbrev pub refusal_to_poll : Option Holding → Option Refusal
refusal_to_poll None = Some no.Id
refusal_to_poll (Some h) = refusal_to_hear h.hearing

-- a next needs a handle of either sort, and a listener's only if a poll of it isn't refused
abbrev pub refusal_by_hearing : Option LocalListener → Option Refusal
refusal_by_hearing None = None
refusal_by_hearing (Some hearing) = refusal_to_hear (Some hearing)

abbrev pub refusal_to_next : Option Holding → Option Refusal
refusal_to_next None = Some no.Id
refusal_to_next (Some h) = refusal_by_hearing h.hearing

-- a cancel and an await need a handle of either sort
abbrev pub refusal_by_handle : Option Holding → Option Refusal
refusal_by_handle None = Some no.Id
refusal_by_handle (Some h) = None

-- all names are looked up before any kind is checked
abbrev pub refusal_to_wait : Desk → List (List ℕ) → Option Refusal
refusal_to_wait d names =
    if list_all (λ name. is_some (world_of d.fifodirs name)) names then
    (if list_all (λ name. is_some (reports_of d.fifodirs name)) names then None else Some no.Kind)
    else Some no.Name

-- `read` says for a `Listen` whether its text is a pattern
abbrev pub own_refusal : Desk → Bool → Request → Option Refusal
own_refusal d read (Dir name waiting total evict) = refusal_to_make d name
own_refusal d read (Svc name waiting total notifies evict) = refusal_to_make d name
own_refusal d read (Sub name) = refusal_to_hold d name
own_refusal d read (Pub name letters) = refusal_by_name d name
own_refusal d read (Tell name state) = refusal_to_tell (world_of d.fifodirs name)
own_refusal d read (Leave name will) = refusal_to_tell (world_of d.fifodirs name)
own_refusal d read (Take id max) = refusal_to_take (holding_at d id)
own_refusal d read (Cancel id) = refusal_by_handle (holding_at d id)
own_refusal d read (Close name) = refusal_by_name d name
own_refusal d read (Status name) = refusal_by_name d name
own_refusal d read (About name) = refusal_by_name d name
own_refusal d read (Listen name mode pattern) = refusal_to_listen read (refusal_to_hold d name)
own_refusal d read (Poll id) = refusal_to_poll (holding_at d id)
own_refusal d read (Await id turns) = refusal_by_handle (holding_at d id)
own_refusal d read (Next id turns) = refusal_to_next (holding_at d id)
own_refusal d read (Wait span want turns names) = refusal_to_wait d names
own_refusal d read (Names from) = None

-- ---- what it does otherwise

-- with the reply, and another world under the name
abbrev pub answered_with : Reply → Desk → List ℕ → World → Answer
answered_with reply d name w = record { reply = reply; desk = record d { fifodirs = with_world d.fifodirs name w } }

-- what is done to the world under a name
abbrev pub in_world : Desk → (World → Answer) → Option World → Answer
in_world d done None = refusal_answer d no.Name
in_world d done (Some w) = done w

-- what is done for what a handle holds
abbrev pub for_holding : Desk → (Holding → Answer) → Option Holding → Answer
for_holding d done None = refusal_answer d no.Id
for_holding d done (Some h) = done h

-- what is done for a listener's hearing
abbrev pub for_hearing : Desk → (LocalListener → Answer) → Option LocalListener → Answer
for_hearing d done None = refusal_answer d no.Id
for_hearing d done (Some hearing) = done hearing

-- if the limits aren't in their ranges, a number is refused; no request with such limits is ever asked
abbrev pub make_answer : Desk → List ℕ → Kind → Option Bool → Option Limits → Answer
make_answer d name kind reports None = refusal_answer d no.Range
make_answer d name kind reports (Some limits) = record {
  reply = Done;
  desk = record d { fifodirs = d.fifodirs ++ record { name = name; reports = reports; world = empty_world kind limits } ∷ [] };
}

-- with one more handle, for a plain subscription or for a listener's
abbrev pub subscribe_answer : Desk → List ℕ → Option LocalListener → World → Result (ℕ × ℕ) SubError → Answer
subscribe_answer d name hearing w (Err error) = refusal_answer d (refusal_of_sub error)
subscribe_answer d name hearing w (Ok given) = record {
  reply = Number (length d.handles + 1);
  desk = record d {
    fifodirs = with_world d.fifodirs name (after_subscribe w (Ok given));
    handles = d.handles ++ record { holding = record { name = name; id = given.0; hearing = hearing }; current = true } ∷ [];
  };
}

-- the hearing of a listener that has heard nothing
abbrev pub new_hearing : List ℕ → Mode → LocalListener
new_hearing pattern mode = record { listener = new_listening pattern Repeat; mode = mode; held = None }

abbrev pub publish_answer : Desk → List ℕ → List ℕ → World → Result ℕ PubError → Answer
publish_answer d name message w (Err error) = refusal_answer d (refusal_of_pub error)
publish_answer d name message w (Ok first) = answered_with (Number first) d name (after_publish w 1 message (Ok first))

-- the service has a will, in the place of an earlier one
abbrev pub will_answer : Desk → List ℕ → Will → Answer
will_answer d name will = record { reply = Done; desk = record d { wills = with_will d.wills name will } }

abbrev pub take_shown : List ℕ → Result Taken NoId → Reply
take_shown letters (Ok (taken.Got count)) = Got letters
take_shown letters (Ok taken.Nothing) = Nothing
take_shown letters (Ok taken.End) = End
take_shown letters (Ok taken.Evicted) = Evicted
take_shown letters (Err error) = No no.Id

abbrev pub took : Desk → ℕ → Holding → World → Answer
took d max h w = answered_with (take_shown (letters (take_events w h.id max)) (take_reply w h.id max)) d h.name (after_take w h.id max)

abbrev pub cancel_answer : Desk → ℕ → Holding → Answer
cancel_answer d number h = record { reply = Done; desk = without_handle d number h }

abbrev pub close_answer : Desk → List ℕ → World → Result (Unit {0}) Closed → Answer
close_answer d name w (Err error) = refusal_answer d no.Closed
close_answer d name w (Ok done) = answered_with Done d name (after_close w)

abbrev pub status_answer : Desk → World → Answer
status_answer d w = record { reply = State (record { number = length w.events; flags = flags_of (letters w.events); closed = w.closed }); desk = d }

-- what the fifodir is, and how much is there; the desk's own publisher isn't counted
abbrev pub about_in : Option Bool → World → abouts.About
about_in reports w = record {
  kind = w.kind;
  notifies = unwrap_or reports false;
  waiting = w.limits.waiting;
  total = w.limits.total;
  policy = w.limits.policy;
  subscriptions = length (worlds.active w);
  publishers = 0;
  pending = worlds.load w;
}

abbrev pub about_answer : Desk → Option Bool → World → Answer
about_answer d reports w = record { reply = said.About (about_in reports w); desk = d }

-- nothing changes
abbrev pub names_answer : Desk → ℕ → Answer
names_answer d from = record { reply = names_reply (names_in d.fifodirs) from; desk = d }

abbrev pub answer_by : Desk → Option Refusal → Answer → Answer
answer_by d (Some refusal) done = refusal_answer d refusal
answer_by d None done = done

abbrev pub taken_at : Desk → ℕ → ℕ → Answer
taken_at d id max = for_holding d (λ h. in_world d (took d max h) (world_of d.fifodirs h.name)) (holding_at d id)

abbrev pub polled_at : Desk → ℕ → Answer
polled_at d id = for_holding d (λ h. for_hearing d (λ g. in_world d (poll_answer d id h g) (world_of d.fifodirs h.name)) h.hearing) (holding_at d id)

-- the whole answer to a poll
abbrev pub poll_told : Desk → ℕ → Answer
poll_told d id = answer_by d (refusal_to_poll (holding_at d id)) (polled_at d id)

abbrev pub is_none : Reply → Bool
is_none Nothing = true
is_none reply = false

-- The handle is polled again while the answer is `none`. No letter comes meanwhile, so a third poll would say what the second says.
abbrev pub polled_again : ℕ → Answer → Answer
polled_again id first = if is_none first.reply then poll_told first.desk id else first

-- a take of as many events as a reply shows, or polls
abbrev pub told_next : Desk → ℕ → Option LocalListener → Answer
told_next d id None = taken_at d id MOST_GATHERED
told_next d id (Some hearing) = polled_again id (poll_told d id)

-- nothing is waited for
abbrev pub in_time : Answer → Answer
in_time a = record { reply = or_late a.reply; desk = a.desk }

-- what is done with a request that the desk itself doesn't refuse
abbrev pub request_answer : Desk → Request → Answer
request_answer d (Dir name waiting total evict) = make_answer d name Plain None (limits_of waiting total MOST_IDS (policy_of evict))
request_answer d (Svc name waiting total notifies evict) = make_answer d name Service (Some notifies) (limits_of waiting total MOST_IDS (policy_of evict))
request_answer d (Sub name) = in_world d (λ w. subscribe_answer d name None w (subscribe_reply w)) (world_of d.fifodirs name)
request_answer d (Pub name message) = in_world d (λ w. publish_answer d name message w (publish_reply w message)) (world_of d.fifodirs name)
request_answer d (Tell name state) = in_world d (λ w. publish_answer d name (word_in state w) w (publish_reply w (word_in state w))) (world_of d.fifodirs name)
request_answer d (Leave name will) = will_answer d name will
request_answer d (Take id max) = taken_at d id max
request_answer d (Cancel id) = for_holding d (cancel_answer d id) (holding_at d id)
request_answer d (Close name) = in_world d (λ w. close_answer d name w (close_reply w)) (world_of d.fifodirs name)
request_answer d (Status name) = in_world d (status_answer d) (world_of d.fifodirs name)
request_answer d (About name) = in_world d (about_answer d (reports_of d.fifodirs name)) (world_of d.fifodirs name)
request_answer d (Listen name mode pattern) = in_world d (λ w. subscribe_answer d name (Some (new_hearing pattern mode)) w (subscribe_reply w)) (world_of d.fifodirs name)
request_answer d (Poll id) = polled_at d id
request_answer d (Await id turns) = for_holding d (λ h. in_world d (await_answer d h) (world_of d.fifodirs h.name)) (holding_at d id)
request_answer d (Next id turns) = for_holding d (λ h. in_time (told_next d id h.hearing)) (holding_at d id)
request_answer d (Wait span want turns names) = wait_answer d span want names
request_answer d (Names from) = names_answer d from

-- ---- answers

abbrev pub answer : Desk → Bool → Request → Answer
answer d read request = answer_by d (own_refusal d read request) (request_answer d request)

-- memory ran out in a take or in the first poll, or in the second
abbrev pub LeftByNext : Desk → ℕ → Desk → Type 0
LeftByNext d id new = LeftByPoll d id new ⊎ ((is_none (poll_told d id).reply ≡ true) × LeftByPoll (poll_told d id).desk id new)

-- what may be left if memory ran out: an unchanged desk, except for these three requests
abbrev pub LeftBy : Request → Desk → Desk → Type 0
LeftBy (Poll id) d new = LeftByPoll d id new
LeftBy (Next id turns) d new = LeftByNext d id new
LeftBy (Wait span want turns names) d new = LeftByWait d want names new
LeftBy request d new = new ≡ d
