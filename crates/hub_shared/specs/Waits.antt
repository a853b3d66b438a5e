-- What a wait is refused by, and what it shows of its posts.
use Rattle.std.specs.Prelude.{◌≡◌, ℕ, List, Option, None, Some, ◌⊎◌, Bool, true, false, All, Any, map, if◌then◌else◌}
use Rattle.std.specs.Arc.{arc_value}
use Rattle.std.specs.List.{AllZip}
use Rattle.hub_letters.specs.declared.want.Want.{Want}
use Rattle.hub_record.specs.declared.Kind.{Kind}
use Rattle.hub_record.specs.declared.Kind.TheVariants.{Plain, Service}
use Rattle.hub_record.specs.declared.SubError.{SubError}
use Rattle.hub_fifodir.specs.Passes.{MayRefuseTicket, kind_of}
use Rattle.hub_requests.specs.Refusals.{refusal_of_sub}
use Rattle.hub_requests.specs.declared.reply.Refusal.{Refusal}
use Rattle.hub_requests.specs.declared.reply.Refusal.TheVariants as no
use Rattle.hub_requests.specs.declared.reply.Reply.{Reply}
use Rattle.hub_requests.specs.declared.reply.Reply.TheVariants as answer
use Rattle.hub_letters.specs.declared.span.Span.{Span}
use Rattle.hub_wait.specs.declared.tally.Verdict.TheVariants as verdict
use Rattle.hub_wait.specs.Waits.{AreKept, IsAnswer, watches_of}
use Rattle.hub_wait.specs.declared.post.Post.{Post}
use Rattle.hub_wait.specs.Posts.{HasOpened, watch_of}
use Rattle.hub_wait.specs.Watching.{is_met_at}
use Rattle.hub_names.specs.declared.fifodirs.Fifodirs.{Fifodirs}
use Rattle.hub_names.specs.declared.hub.Hub.{Hub}
use Rattle.hub_names.specs.declared.hub.Made.{Made}
use Rattle.hub_names.specs.declared.joined.Joined.{Joined}
use Rattle.hub_names.specs.Fifodirs.{joined_at, IsKeptAs, IsMissed}
use Rattle.hub_names.specs.Speaking.{fifodir_of, notifies_of}

-- the name has a fifodir of this kind
pub record IsOfKind (fs : Fifodirs) (kind : Kind) (name : List ℕ) : Type 0 where
  pub joined : Joined
  pub kept_is : joined_at fs name ≡ Some joined
  pub of_kind : kind_of (fifodir_of joined) ≡ kind

abbrev pub IsKnown : Fifodirs → List ℕ → Type 0
IsKnown fs name = (joined : Joined) × (joined_at fs name ≡ Some joined)

-- Each name has a fifodir. If `plain`, one of them is plain, and if not, each is a service's.
abbrev pub AreSeen : Fifodirs → List (List ℕ) → (plain : Bool) → Type 0
AreSeen fs names true = All (IsKnown fs) names × Any (IsOfKind fs Plain) names
AreSeen fs names false = All (IsOfKind fs Service) names

-- why the names weren't all seen
abbrev pub IsUnseen : Hub → Fifodirs → List (List ℕ) → Refusal → Type 0
IsUnseen hub fs names refusal = ((refusal ≡ no.Name) × Any (IsMissed hub fs) names) ⊎ (refusal ≡ no.Memory)

-- the fifodir that is kept under each name, in their order
abbrev pub AreFound : Fifodirs → List (List ℕ) → List Made → Type 0
AreFound fs names found = AllZip (IsKeptAs fs) names found

-- a post at each of them, in their order
abbrev pub AreOpened : Want → List Made → List Post → Type 0
AreOpened want found posts = AllZip (λ made post. HasOpened (arc_value made.dir) want made.notifies post) found posts

-- why no post was opened: one of the fifodirs gives no ticket
abbrev pub IsPostRefused : List Made → Refusal → Type 0
IsPostRefused found refusal = (error : SubError) × (refusal ≡ refusal_of_sub error) × Any (λ made. MayRefuseTicket (arc_value made.dir) error) found

-- the fifodir that is kept under the name gives no ticket
pub record MayRefusePost (fs : Fifodirs) (error : SubError) (name : List ℕ) : Type 0 where
  pub joined : Joined
  pub kept_is : joined_at fs name ≡ Some joined
  pub refuses : MayRefuseTicket (fifodir_of joined) error

abbrev pub IsRefusedAtName : Fifodirs → List (List ℕ) → Refusal → Type 0
IsRefusedAtName fs names refusal = (error : SubError) × (refusal ≡ refusal_of_sub error) × Any (MayRefusePost fs error) names

-- Why no wait was begun. First each name is looked for, then each must be a service's, and only then a post may be refused.
abbrev pub IsWaitRefused : Hub → Fifodirs → List (List ℕ) → Refusal → Type 0
IsWaitRefused hub fs names no.Name = Any (IsMissed hub fs) names
IsWaitRefused hub fs names no.Kind = AreSeen fs names true
IsWaitRefused hub fs names no.Memory = Unit {0}
IsWaitRefused hub fs names refusal = IsRefusedAtName fs names refusal × AreSeen fs names false

-- a post at the fifodir that is kept under the name
pub record IsPostAt (fs : Fifodirs) (want : Want) (name : List ℕ) (post : Post) : Type 0 where
  pub joined : Joined
  pub kept_is : joined_at fs name ≡ Some joined
  pub opened : HasOpened (fifodir_of joined) want (notifies_of joined) post

-- a post for each name, in their order
abbrev pub ArePosts : Fifodirs → Want → List (List ℕ) → List Post → Type 0
ArePosts fs want names posts = AllZip (IsPostAt fs want) names posts

-- the number of events at which its service is as wanted
abbrev pub number_met : Post → Option ℕ
number_met post = if is_met_at (watch_of post) then Some (watch_of post).at else None

-- the verdict over the posts as they are, with the number of each that is met
abbrev pub Shows : Span → List Post → Reply → Type 0
Shows span posts (answer.Yes numbers) = IsAnswer span (watches_of posts) verdict.Yes × (numbers ≡ map number_met posts)
Shows span posts answer.Never = IsAnswer span (watches_of posts) verdict.Never
Shows span posts answer.Late = IsAnswer span (watches_of posts) verdict.Late
Shows span posts _ = ⊥

-- that of the posts that were opened, as they were in the end
pub record Settles (span : Span) (opened : List Post) (reply : Reply) : Type 0 where
  pub posts : List Post
  pub kept : AreKept opened posts
  pub shows : Shows span posts reply

-- a wait for the services of these names
pub record WaitsFor (fs : Fifodirs) (span : Span) (want : Want) (names : List (List ℕ)) (reply : Reply) : Type 0 where
  pub services : AreSeen fs names false
  pub opened : List Post
  pub posts : ArePosts fs want names opened
  pub settled : Settles span opened reply

abbrev pub IsWaitRefusal : Hub → Fifodirs → List (List ℕ) → Reply → Type 0
IsWaitRefusal hub fs names (answer.No refusal) = IsWaitRefused hub fs names refusal
IsWaitRefusal hub fs names _ = ⊥
