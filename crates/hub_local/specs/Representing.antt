-- What a `LocalDesk` represents for.
use Rattle.std.specs.Prelude.{ℕ, ◌≡◌, ◌≢◌, Bool, true, false, List, [], ◌∷◌, length, All, Option, None, Some, is_some}
use Rattle.hub_record.specs.Kept.{Kept, Represents}
use Rattle.hub_record.specs.World.{World, subscription_in}
use Rattle.hub_listen.specs.Hit.{IsPattern}
use Rattle.hub_local.specs.Desks.{Fifodir, Desk, IsDesk, Answer, active, holding_at}
use Rattle.hub_local.specs.Ends.{desk_after_end}
use Rattle.hub_local.specs.DeskAnswers.{own_refusal, request_answer, answer_by, polled_again, poll_told, refusal_to_poll, LeftBy, LeftByNext}
use Rattle.hub_local.specs.RunAnswers.{pattern_in, patterns_in, AreReads, answers, desk_after}
use Rattle.hub_local.specs.declared.local_desk.LocalFifodir.{LocalFifodir}
use Rattle.hub_local.specs.declared.local_desk.Holding.{Holding}
use Rattle.hub_requests.specs.declared.will.Will.{Will}
use Rattle.hub_requests.specs.declared.request.Request.{Request}
use Rattle.hub_requests.specs.declared.request.Request.TheVariants.{Pub, Tell, Cancel, Close, Status, About, Await}
use Rattle.hub_requests.specs.declared.reply.Reply.{Reply}
use Rattle.hub_requests.specs.declared.reply.Reply.TheVariants.{No}
use Rattle.hub_requests.specs.declared.reply.Refusal.{Refusal}
use Rattle.hub_requests.specs.declared.reply.Refusal.TheVariants.{Memory}

-- what a contract sees of a `LocalDesk`: the fifodirs by name in the order in which they were made, what the current
-- handles hold by number, how many handles were given, and the wills by name
pub record Local : Type 0 where
  pub fifodirs : List (List ℕ × LocalFifodir)
  pub holdings : List (ℕ × Holding)
  pub given : ℕ
  pub wills : List (List ℕ × Will)

pub record IsKept (entry : List ℕ × LocalFifodir) (fifodir : Fifodir) : Type 0 where
  pub name : entry.0 ≡ fifodir.name
  pub reports : entry.1.reports ≡ fifodir.reports
  pub world : Represents entry.1.kept fifodir.world

-- each represents for the model's, in the same order
abbrev pub AreKept : List (List ℕ × LocalFifodir) → List Fifodir → Type 0
AreKept [] [] = Unit {0}
AreKept [] (f ∷ fs) = ⊥
AreKept (e ∷ es) [] = ⊥
AreKept (e ∷ es) (f ∷ fs) = IsKept e f × AreKept es fs

pub record RepresentsDesk (local : Local) (desk : Desk) : Type 0 where
  pub fifodirs : AreKept local.fifodirs desk.fifodirs
  pub holdings : local.holdings ≡ active desk
  pub given : local.given ≡ length desk.handles
  pub wills : local.wills ≡ desk.wills
  pub is_desk : IsDesk desk

-- every `LocalDesk` represents for some desk
pub record RepresentsSome (local : Local) : Type 0 where
  pub desk : Desk
  pub represents : RepresentsDesk local desk

-- the record represents a world in which the subscription is current
pub record HasSubscription (kept : Kept) (id : ℕ) : Type 0 where
  pub world : World
  pub represents : Represents kept world
  pub subscribed : is_some (subscription_in world id) ≡ true

-- ---- what a request does

-- the answer of a desk that refuses with `own`, and else does `done`
pub record IsAnswer (local : Local) (desk : Desk) (own : Option Refusal) (done : Answer) (reply : Reply) : Type 0 where
  pub said : reply ≡ (answer_by desk own done).reply
  pub represents : RepresentsDesk local (answer_by desk own done).desk

-- the desk's own refusals come before `no memory`, which leaves a desk as `left` says
pub record IsLacking (local : Local) (own : Option Refusal) (left : Desk → Type 0) : Type 0 where
  pub unrefused : own ≡ None
  pub desk : Desk
  pub is_left : left desk
  pub represents : RepresentsDesk local desk

-- A request is refused with `own` if there is one, and else carried out as `done` says. `grows` says whether it needs
-- memory, and `left` what it may leave if memory runs out.
pub record CarriesOut (old : Local) (grows : Bool) (own : Desk → Option Refusal) (done : Desk → Answer) (left : Desk → Desk → Type 0) (reply : Reply) (new : Local) : Type 0 where
  pub answered : reply ≢ No Memory → (desk : Desk) → RepresentsDesk old desk → IsAnswer new desk (own desk) (done desk) reply
  pub grew : reply ≡ No Memory → grows ≡ true
  pub lacking : reply ≡ No Memory → (desk : Desk) → RepresentsDesk old desk → IsLacking new (own desk) (left desk)

-- whether a request needs memory: all do but these
abbrev pub grows : Request → Bool
grows (Pub name letters) = false
grows (Tell name state) = false
grows (Cancel id) = false
grows (Close name) = false
grows (Status name) = false
grows (About name) = false
grows (Await id turns) = false
grows request = true

-- nothing has changed
abbrev pub Unchanged : Desk → Desk → Type 0
Unchanged desk new = new ≡ desk

-- `read` says for a `Listen` whether its text is a pattern
abbrev pub AsksWith : Bool → Local → Request → Reply → Local → Type 0
AsksWith read old request reply new =
    CarriesOut old (grows request) (λ desk. own_refusal desk read request) (λ desk. request_answer desk request) (λ desk left. LeftBy request desk left) reply new

-- a handle is polled as a next polls it
abbrev pub PollsOn : Local → ℕ → Reply → Local → Type 0
PollsOn old id reply new =
    CarriesOut old true (λ desk. refusal_to_poll (holding_at desk id)) (λ desk. polled_again id (poll_told desk id)) (λ desk left. LeftByNext desk id left) reply new

-- only a pattern is read; if memory ran out it isn't known whether the text is one
abbrev pub IsReadAs : Bool → Option (List ℕ) → Reply → Type 0
IsReadAs read None reply = read ≡ false
IsReadAs read (Some text) reply = read ≡ true → reply ≢ No Memory → IsPattern text

pub record AsksDesk (old : Local) (request : Request) (reply : Reply) (new : Local) : Type 0 where
  pub read : Bool
  pub is_read : IsReadAs read (pattern_in request) reply
  pub answers : AsksWith read old request reply new

pub record Ended (old new : Local) : Type 0 where
  pub represents : (desk : Desk) → RepresentsDesk old desk → RepresentsDesk new (desk_after_end desk)

-- ---- runs

-- each request is asked in turn
pub data Runs : Local → List Request → List Reply → Local → Type 0 where
  over : (local : Local) → Runs local [] [] local
  asked : (old mid new : Local) (request : Request) (requests : List Request) (reply : Reply) (replies : List Reply)
      → AsksDesk old request reply mid → Runs mid requests replies new → Runs old (request ∷ requests) (reply ∷ replies) new

-- if no reply of a run is `no memory`, the replies are the model's answers, with a yes or no for each pattern, and the
-- desk represents for the model's
pub record IsModels (desk : Desk) (requests : List Request) (replies : List Reply) (new : Local) : Type 0 where
  pub reads : List Bool
  pub are_reads : AreReads reads (patterns_in requests)
  pub said : replies ≡ answers desk reads requests
  pub represents : RepresentsDesk new (desk_after desk reads requests)

abbrev pub RunsAnswer : Type 0
RunsAnswer = (old new : Local) (requests : List Request) (replies : List Reply) (desk : Desk)
    → Runs old requests replies new → All (λ reply. reply ≢ No Memory) replies → RepresentsDesk old desk → IsModels desk requests replies new
