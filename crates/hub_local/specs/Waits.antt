-- Waits for services: the posts that a wait opens, what they show, and what the wait leaves.
use Rattle.std.specs.Prelude.{ℕ, ◌≡◌, Bool, false, if◌then◌else◌, List, [], ◌∷◌, ◌++◌, length, map, fold, take, Option, Some, None, is_some, unwrap_or, Result, Ok, Err}
use Rattle.std.specs.List.{list_any}
use Rattle.hub_letters.specs.Flags.{flags_of}
use Rattle.hub_letters.specs.declared.want.Want.{Want}
use Rattle.hub_record.specs.World.{World, Subscription, letters, after_subscribe}
use Rattle.hub_record.specs.declared.Status.{Status}
use Rattle.hub_record.specs.declared.SubError.{SubError}
use Rattle.hub_wait.specs.Watching.{Watching, new_watching, is_met_at}
use Rattle.hub_wait.specs.Verdicts.{verdict}
use Rattle.hub_letters.specs.declared.span.Span.{Span}
use Rattle.hub_wait.specs.declared.tally.Verdict.{Verdict}
use Rattle.hub_wait.specs.declared.tally.Verdict.TheVariants as verdict
use Rattle.hub_local.specs.Replies.{subscribe_reply}
use Rattle.hub_requests.specs.Refusals.{refusal_of_sub}
use Rattle.hub_local.specs.Desks.{Desk, Answer, Fifodir, world_of, reports_of, with_world, without_held}
use Rattle.hub_local.specs.declared.local_desk.waits.LocalPost.{LocalPost}
use Rattle.hub_requests.specs.declared.reply.Reply.{Reply}
use Rattle.hub_requests.specs.declared.reply.Reply.TheVariants.{Yes, Never, Late, No}
use Rattle.hub_requests.specs.declared.reply.Refusal.{Refusal}
use Rattle.hub_requests.specs.declared.reply.Refusal.TheVariants as no

-- ---- posts

abbrev pub status_of : World → Status
status_of w = record { number = length w.events; flags = flags_of (letters w.events); closed = w.closed }

-- what a post shows of its service: the flags of all its events
abbrev pub watch_over : Want → Option Bool → World → Watching
watch_over want reports w = new_watching want (unwrap_or reports false) (status_of w)

-- The posts that were opened, and the fifodirs with their subscriptions. If one is refused, no post is opened after it.
pub record Opening : Type 0 where
  pub fifodirs : List Fifodir
  pub posts : List LocalPost
  pub refusal : Option Refusal

abbrev pub so_far : List Fifodir → List LocalPost → Opening
so_far fifodirs posts = record { fifodirs = fifodirs; posts = posts; refusal = None }

abbrev pub opening_refused : List Fifodir → List LocalPost → Refusal → Opening
opening_refused fifodirs posts refusal = record { fifodirs = fifodirs; posts = posts; refusal = Some refusal }

-- a post subscribes, and then reads the status of its service
abbrev pub opened_by : Want → Opening → List ℕ → World → Result (ℕ × ℕ) SubError → Opening
opened_by want o name w (Err error) = opening_refused o.fifodirs o.posts (refusal_of_sub error)
opened_by want o name w (Ok given) =
    so_far (with_world o.fifodirs name (after_subscribe w (Ok given)))
    (o.posts ++ record { id = given.0; watch = watch_over want (reports_of o.fifodirs name) w } ∷ [])

abbrev pub opened_in : Want → Opening → List ℕ → Option World → Opening
opened_in want o name None = opening_refused o.fifodirs o.posts no.Name
opened_in want o name (Some w) = opened_by want o name w (subscribe_reply w)

-- with a post for one more name, unless one was refused
abbrev pub with_post : Want → Opening → List ℕ → Opening
with_post want o name = if is_some o.refusal then o else opened_in want o name (world_of o.fifodirs name)

-- with a post for each name, in their order
abbrev pub opening_of : Want → List Fifodir → List (List ℕ) → Opening
opening_of want fifodirs names = fold (with_post want) (so_far fifodirs []) names

-- ---- what a wait leaves

-- with the subscription of this id cancelled at the fifodir with this name
abbrev pub without_subscription : List Fifodir → List ℕ → ℕ → List Fifodir
without_subscription fifodirs name id = without_held fifodirs (record { name = name; id = id; hearing = None })

-- with the subscriptions of the posts cancelled, which are those of the first names
abbrev pub without_posts : List Fifodir → List (List ℕ) → List LocalPost → List Fifodir
without_posts fifodirs [] posts = fifodirs
without_posts fifodirs (name ∷ names) [] = fifodirs
without_posts fifodirs (name ∷ names) (post ∷ posts) = without_posts (without_subscription fifodirs name post.id) names posts

-- what a wait over these names leaves: the subscriptions of all its posts are cancelled, and their ids stay used
abbrev pub left_by : Opening → List (List ℕ) → List Fifodir
left_by o names = without_posts o.fifodirs names o.posts

-- ---- what a wait answers

-- a post's number, if it is met
abbrev pub number_of : LocalPost → Option ℕ
number_of post = if is_met_at post.watch then Some post.watch.at else None

abbrev pub shown_by : List LocalPost → Option Verdict → Reply
shown_by posts (Some verdict.Yes) = Yes (map number_of posts)
shown_by posts (Some verdict.Never) = Never
shown_by posts (Some verdict.Late) = Late
shown_by posts None = Late

-- the verdict of the posts as they are now, or late if there is none
abbrev pub verdict_shown : Span → List LocalPost → Reply
verdict_shown span posts = shown_by posts (verdict span (map (λ post. post.watch) posts))

abbrev pub wait_shown : Span → List LocalPost → Option Refusal → Reply
wait_shown span posts (Some refusal) = No refusal
wait_shown span posts None = verdict_shown span posts

-- a post is opened for each name, and all are ended
abbrev pub wait_answer : Desk → Span → Want → List (List ℕ) → Answer
wait_answer d span want names =
    let o = opening_of want d.fifodirs names in
    record { reply = wait_shown span o.posts o.refusal; desk = record d { fifodirs = left_by o names } }

-- what may be left if memory ran out: posts were opened for some of the names, from the first on, and ended
pub record LeftByWait (d : Desk) (want : Want) (names : List (List ℕ)) (new : Desk) : Type 0 where
  pub count : ℕ
  pub unrefused : (opening_of want d.fifodirs (take count names)).refusal ≡ None
  pub left : new ≡ record d { fifodirs = left_by (opening_of want d.fifodirs (take count names)) names }

-- ---- a law: whatever a wait answers, it leaves each fifodir as it was, except for ids that are used

-- more ids were given, none of them is current, and nothing else has changed
pub record HasUsedIds (old new : World) : Type 0 where
  pub used : List Subscription
  pub none_active : list_any (λ s. s.current) used ≡ false
  pub same : new ≡ record old { subscriptions = old.subscriptions ++ used }

abbrev pub HasUsedIdsThere : Option World → Option World → Type 0
HasUsedIdsThere None None = Unit {0}
HasUsedIdsThere None (Some new) = ⊥
HasUsedIdsThere (Some old) None = ⊥
HasUsedIdsThere (Some old) (Some new) = HasUsedIds old new

abbrev pub WaitsUseIds : Type 0
WaitsUseIds = (d : Desk) (span : Span) (want : Want) (names : List (List ℕ)) (name : List ℕ)
    → HasUsedIdsThere (world_of d.fifodirs name) (world_of (wait_answer d span want names).desk.fifodirs name)
