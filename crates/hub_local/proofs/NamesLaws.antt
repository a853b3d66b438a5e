-- What requests do to the names of a desk.
use Rattle.std.proofs.Common.{◌≡◌, ℕ, Bool, List, [], ◌∷◌, ◌++◌, Option, Some, None, is_some, Result, Ok, Err, refl, sym, ap, ◌∙◌, inl, inr, append-nil}
use Rattle.std.specs.Prelude.{fold}
use Rattle.std.specs.Str.{bytes_eq}
use Rattle.std.proofs.lemmas.Bool.{cases_Bool}
use Rattle.std.proofs.lemmas.List.{map-append}
use Rattle.hub_letters.specs.declared.mode.Mode.{Mode}
use Rattle.hub_letters.specs.declared.mode.TheConstants.{MOST_GATHERED}
use Rattle.hub_letters.specs.declared.mode.Mode.TheVariants.{Once, Repeat}
use Rattle.hub_letters.specs.declared.want.Want.{Want}
use Rattle.hub_record.specs.World.{World, after_cancel, after_subscribe, after_publish, after_take, after_close}
use Rattle.hub_record.specs.declared.Kind.{Kind}
use Rattle.hub_record.specs.declared.limits.Limits.{Limits}
use Rattle.hub_record.specs.declared.SubError.{SubError}
use Rattle.hub_record.specs.declared.PubError.{PubError}
use Rattle.hub_record.specs.declared.Closed.{Closed}
use Rattle.hub_local.specs.DeskAnswers.{own_refusal, request_answer, answer_by, in_world, for_holding, for_hearing, is_none, poll_told, polled_at, refusal_to_poll, taken_at, told_next, make_answer, subscribe_answer, publish_answer, close_answer, new_hearing}
use Rattle.hub_local.specs.Ends.{after_one, after_wills, told_in, told_last, word_in}
use Rattle.hub_local.specs.Desks.{Desk, Answer, Fifodir, names_in, world_of, with_world, holding_at, end_in, without_held, without_all, active}
use Rattle.hub_letters.specs.declared.state.State.{State}
use Rattle.hub_requests.specs.Wills.{state_of}
use Rattle.hub_requests.specs.declared.will.Will.{Will}
use Rattle.hub_local.specs.Laws.{NamesStay, NamesOutliveTheEnd, name_made}
use Rattle.hub_local.specs.Polls.{hear_answer, heard_on, heard_to_hit, ended_by, taken_from, to_hear}
use Rattle.hub_listen.specs.Hit.{hit_length}
use Rattle.hub_local.specs.Replies.{subscribe_reply, publish_reply}
use Rattle.hub_record.specs.World.{close_reply}
use Rattle.hub_local.specs.Waits.{Opening, so_far, opened_by, opened_in, with_post, opening_of, without_subscription, without_posts}
use Rattle.hub_local.specs.declared.local_desk.Holding.{Holding}
use Rattle.hub_local.specs.declared.local_desk.LocalListener.{LocalListener}
use Rattle.hub_local.specs.declared.local_desk.waits.LocalPost.{LocalPost}
use Rattle.hub_requests.specs.declared.request.Request.TheVariants.{Dir, Svc, Sub, Pub, Tell, Take, Cancel, Close, Status, About, Listen, Poll, Await, Next, Wait}
use Rattle.hub_requests.specs.declared.reply.Reply.{Reply}
use Rattle.hub_requests.specs.declared.reply.Reply.TheVariants.{Done, No}
use Rattle.hub_requests.specs.declared.reply.Refusal.{Refusal}
use Rattle.hub_requests.specs.declared.reply.Refusal.TheVariants as no
use Rattle.std.specs.Map.{values_of}

-- ---- another world under a name

names_in-with_world : (fs : List Fifodir) (name : List ℕ) (w : World) → names_in (with_world fs name w) ≡ names_in fs
names_in-with_world [] name w = refl
names_in-with_world (f ∷ fs) name w = elim (cases_Bool (bytes_eq name f.name)) [
  | inl t ↦ simp t
  | inr t ↦ simp t (ap (λ (names : List (List ℕ)). f.name ∷ names) (names_in-with_world fs name w))
]

names_in-end_in : (fs : List Fifodir) (h : Holding) (o : Option World) → names_in (end_in fs h o) ≡ names_in fs
names_in-end_in fs h None = refl
names_in-end_in fs h (Some w) = names_in-with_world fs h.name (after_cancel w h.id)

names_in-without_held : (fs : List Fifodir) (h : Holding) → names_in (without_held fs h) ≡ names_in fs
names_in-without_held fs h = names_in-end_in fs h (world_of fs h.name)

names_in-without_all : (fs : List Fifodir) (hs : List Holding) → names_in (without_all fs hs) ≡ names_in fs
names_in-without_all fs [] = refl
names_in-without_all fs (h ∷ hs) = names_in-without_all (without_held fs h) hs ∙ names_in-without_held fs h

-- ---- the wills

names_in-told_in : (fs : List Fifodir) (name : List ℕ) (state : State) (o : Option World) → names_in (told_in fs name state o) ≡ names_in fs
names_in-told_in fs name state None = refl
names_in-told_in fs name state (Some w) = names_in-with_world fs name (told_last state w)

names_in-after_one : (fs : List Fifodir) (name : List ℕ) (o : Option State) → names_in (after_one fs name o) ≡ names_in fs
names_in-after_one fs name None = refl
names_in-after_one fs name (Some state) = names_in-told_in fs name state (world_of fs name)

names_in-after_wills : (fs : List Fifodir) (wills : List (List ℕ × Will)) → names_in (after_wills fs wills) ≡ names_in fs
names_in-after_wills fs [] = refl
names_in-after_wills fs (given ∷ rest) = names_in-after_wills (after_one fs given.0 (state_of given.1)) rest ∙ names_in-after_one fs given.0 (state_of given.1)

-- ---- the posts of a wait

opened_by_stays : (want : Want) (o : Opening) (name : List ℕ) (w : World) (r : Result (ℕ × ℕ) SubError) → names_in (opened_by want o name w r).fifodirs ≡ names_in o.fifodirs
opened_by_stays want o name w (Err error) = refl
opened_by_stays want o name w (Ok given) = names_in-with_world o.fifodirs name (after_subscribe w (Ok given))

opened_in_stays : (want : Want) (o : Opening) (name : List ℕ) (w : Option World) → names_in (opened_in want o name w).fifodirs ≡ names_in o.fifodirs
opened_in_stays want o name None = refl
opened_in_stays want o name (Some w) = opened_by_stays want o name w (subscribe_reply w)

with_post_stays : (want : Want) (o : Opening) (name : List ℕ) → names_in (with_post want o name).fifodirs ≡ names_in o.fifodirs
with_post_stays want o name = elim (cases_Bool (is_some o.refusal)) [
  | inl t ↦ simp t
  | inr t ↦ simp t (opened_in_stays want o name (world_of o.fifodirs name))
]

opening_stays : (want : Want) (o : Opening) (names : List (List ℕ)) → names_in (fold (with_post want) o names).fifodirs ≡ names_in o.fifodirs
opening_stays want o [] = refl
opening_stays want o (name ∷ names) = opening_stays want (with_post want o name) names ∙ with_post_stays want o name

without_posts_stays : (fs : List Fifodir) (names : List (List ℕ)) (posts : List LocalPost) → names_in (without_posts fs names posts) ≡ names_in fs
without_posts_stays fs [] posts = refl
without_posts_stays fs (name ∷ names) [] = refl
without_posts_stays fs (name ∷ names) (post ∷ posts) =
    without_posts_stays (without_subscription fs name post.id) names posts ∙ names_in-without_held fs (record { name = name; id = post.id; hearing = None })

-- ---- one request

in_world_stays : (d : Desk) (done : World → Answer) (o : Option World) → ((w : World) → names_in (done w).desk.fifodirs ≡ names_in d.fifodirs) → names_in (in_world d done o).desk.fifodirs ≡ names_in d.fifodirs
in_world_stays d done None h = refl
in_world_stays d done (Some w) h = h w

for_holding_stays : (d : Desk) (done : Holding → Answer) (o : Option Holding) → ((h : Holding) → names_in (done h).desk.fifodirs ≡ names_in d.fifodirs) → names_in (for_holding d done o).desk.fifodirs ≡ names_in d.fifodirs
for_holding_stays d done None h = refl
for_holding_stays d done (Some x) h = h x

for_hearing_stays : (d : Desk) (done : LocalListener → Answer) (o : Option LocalListener) → ((g : LocalListener) → names_in (done g).desk.fifodirs ≡ names_in d.fifodirs) → names_in (for_hearing d done o).desk.fifodirs ≡ names_in d.fifodirs
for_hearing_stays d done None h = refl
for_hearing_stays d done (Some x) h = h x

subscribed_stays : (d : Desk) (name : List ℕ) (hearing : Option LocalListener) (w : World) (r : Result (ℕ × ℕ) SubError) → names_in (subscribe_answer d name hearing w r).desk.fifodirs ≡ names_in d.fifodirs
subscribed_stays d name hearing w (Err error) = refl
subscribed_stays d name hearing w (Ok given) = names_in-with_world d.fifodirs name (after_subscribe w (Ok given))

published_stays : (d : Desk) (name message : List ℕ) (w : World) (r : Result ℕ PubError) → names_in (publish_answer d name message w r).desk.fifodirs ≡ names_in d.fifodirs
published_stays d name message w (Err error) = refl
published_stays d name message w (Ok first) = names_in-with_world d.fifodirs name (after_publish w 1 message (Ok first))

closed_stays : (d : Desk) (name : List ℕ) (w : World) (r : Result (Unit {0}) Closed) → names_in (close_answer d name w r).desk.fifodirs ≡ names_in d.fifodirs
closed_stays d name w (Err error) = refl
closed_stays d name w (Ok done) = names_in-with_world d.fifodirs name (after_close w)

ended_stays : (mode : Mode) (d : Desk) (number : ℕ) (h : Holding) → names_in (ended_by mode d number h).fifodirs ≡ names_in d.fifodirs
ended_stays Once d number h = names_in-without_held d.fifodirs h
ended_stays Repeat d number h = refl

heard_stays : (d : Desk) (number : ℕ) (h : Holding) (g : LocalListener) (w : World) (letters : List ℕ) (o : Option ℕ) → names_in (hear_answer d number h g w letters o).desk.fifodirs ≡ names_in d.fifodirs
heard_stays d number h g w letters (Some k) =
    ended_stays g.mode (heard_on d number h (heard_to_hit g letters k) (taken_from g w h.id k)) number h ∙ names_in-with_world d.fifodirs h.name (taken_from g w h.id k)
heard_stays d number h g w letters None = names_in-with_world d.fifodirs h.name _

answer_stays : (d : Desk) (own : Option Refusal) (done : Answer) → names_in done.desk.fifodirs ≡ names_in d.fifodirs → names_in (answer_by d own done).desk.fifodirs ≡ names_in d.fifodirs ++ []
answer_stays d (Some refusal) done h = sym (append-nil (names_in d.fifodirs))
answer_stays d None done h = h ∙ sym (append-nil (names_in d.fifodirs))

taken_stays : (d : Desk) (id max : ℕ) → names_in (taken_at d id max).desk.fifodirs ≡ names_in d.fifodirs
taken_stays d id max = for_holding_stays d _ (holding_at d id) (λ h. in_world_stays d _ (world_of d.fifodirs h.name) (λ w. names_in-with_world d.fifodirs h.name (after_take w h.id max)))

polled_stays : (d : Desk) (id : ℕ) → names_in (polled_at d id).desk.fifodirs ≡ names_in d.fifodirs
polled_stays d id = for_holding_stays d _ (holding_at d id) (λ h. for_hearing_stays d _ h.hearing (λ g.
    in_world_stays d _ (world_of d.fifodirs h.name) (λ w. heard_stays d id h g w (to_hear g w h.id) (hit_length g.listener.pattern g.listener.gathered (to_hear g w h.id)))))

told_stays : (d : Desk) (id : ℕ) → names_in (poll_told d id).desk.fifodirs ≡ names_in d.fifodirs
told_stays d id = answer_stays d (refusal_to_poll (holding_at d id)) (polled_at d id) (polled_stays d id) ∙ append-nil (names_in d.fifodirs)

next_stays : (d : Desk) (id : ℕ) (o : Option LocalListener) → names_in (told_next d id o).desk.fifodirs ≡ names_in d.fifodirs
next_stays d id None = taken_stays d id MOST_GATHERED
next_stays d id (Some g) = elim (cases_Bool (is_none (poll_told d id).reply)) [
  | inl t ↦ simp t (told_stays (poll_told d id).desk id ∙ told_stays d id)
  | inr t ↦ simp t (told_stays d id)
]

-- a fifodir is made, or it isn't
made_last : (d : Desk) (name : List ℕ) (kind : Kind) (reports : Option Bool) (own : Option Refusal) (limits : Option Limits) (named : Reply → List (List ℕ))
    → named Done ≡ name ∷ [] → ((refusal : Refusal) → named (No refusal) ≡ [])
    → names_in (answer_by d own (make_answer d name kind reports limits)).desk.fifodirs ≡ names_in d.fifodirs ++ named (answer_by d own (make_answer d name kind reports limits)).reply
made_last d name kind reports (Some refusal) limits named done none = sym (ap (λ (l : List (List ℕ)). names_in d.fifodirs ++ l) (none refusal) ∙ append-nil (names_in d.fifodirs))
made_last d name kind reports None None named done none = sym (ap (λ (l : List (List ℕ)). names_in d.fifodirs ++ l) (none no.Range) ∙ append-nil (names_in d.fifodirs))
made_last d name kind reports None (Some limits) named done none =
    map-append (λ (f : Fifodir). f.name) d.fifodirs _ ∙ sym (ap (λ (l : List (List ℕ)). names_in d.fifodirs ++ l) done)

-- the last arm is for a request whose answer leaves the fifodirs as they are
pub names_stay : NamesStay
names_stay d read (Dir name waiting total evict) = made_last d name _ _ _ _ (name_made (Dir name waiting total evict)) refl (λ refusal. refl)
names_stay d read (Svc name waiting total notifies evict) = made_last d name _ _ _ _ (name_made (Svc name waiting total notifies evict)) refl (λ refusal. refl)
names_stay d read (Sub name) = answer_stays d _ _ (in_world_stays d _ (world_of d.fifodirs name) (λ w. subscribed_stays d name None w (subscribe_reply w)))
names_stay d read (Pub name message) = answer_stays d _ _ (in_world_stays d _ (world_of d.fifodirs name) (λ w. published_stays d name message w (publish_reply w message)))
names_stay d read (Tell name state) = answer_stays d _ _ (in_world_stays d _ (world_of d.fifodirs name) (λ w. published_stays d name (word_in state w) w (publish_reply w (word_in state w))))
names_stay d read (Take id max) = answer_stays d _ _ (taken_stays d id max)
names_stay d read (Cancel id) = answer_stays d _ _ (for_holding_stays d _ (holding_at d id) (λ h. names_in-without_held d.fifodirs h))
names_stay d read (Close name) = answer_stays d _ _ (in_world_stays d _ (world_of d.fifodirs name) (λ w. closed_stays d name w (close_reply w)))
names_stay d read (Status name) = answer_stays d _ _ (in_world_stays d _ (world_of d.fifodirs name) (λ w. refl))
names_stay d read (About name) = answer_stays d _ _ (in_world_stays d _ (world_of d.fifodirs name) (λ w. refl))
names_stay d read (Listen name mode pattern) = answer_stays d _ _ (in_world_stays d _ (world_of d.fifodirs name) (λ w. subscribed_stays d name (Some (new_hearing pattern mode)) w (subscribe_reply w)))
names_stay d read (Poll id) = answer_stays d _ _ (polled_stays d id)
names_stay d read (Await id turns) = answer_stays d _ _ (for_holding_stays d _ (holding_at d id) (λ h. in_world_stays d _ (world_of d.fifodirs h.name) (λ w. refl)))
names_stay d read (Next id turns) = answer_stays d _ _ (for_holding_stays d _ (holding_at d id) (λ h. next_stays d id h.hearing))
names_stay d read (Wait span want turns names) =
    answer_stays d _ _ (without_posts_stays (opening_of want d.fifodirs names).fifodirs names (opening_of want d.fifodirs names).posts ∙ opening_stays want (so_far d.fifodirs []) names)
names_stay d read request = answer_stays d (own_refusal d read request) (request_answer d request) refl

pub names_outlive_the_end : NamesOutliveTheEnd
names_outlive_the_end d = names_in-after_wills (without_all d.fifodirs (values_of (active d))) d.wills ∙ names_in-without_all d.fifodirs (values_of (active d))
