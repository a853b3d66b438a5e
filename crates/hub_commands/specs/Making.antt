-- What `make` does.
use Rattle.std.specs.Prelude.{◌≡◌, ◌≢◌, ◌⊎◌, ℕ, List, [], ◌∷◌, ◌++◌, codes, ⊤, Bool, true, false, Option, None, Some, Result, Ok, Err, map}
use Rattle.std.specs.Bool.{beq}
use Rattle.std.specs.List.{list_all}
use Rattle.hub_options.specs.declared.changing.Shape.{Shape}
use Rattle.hub_ask.specs.declared.fault.AskError.{AskError}
use Rattle.hub_ask.specs.declared.outcome.Outcome.{Outcome}
use Rattle.hub_ask.specs.declared.outcome.Outcome.TheVariants.{Done, Refused}
use Rattle.hub_ask.specs.Streams.{Streams, IsNoted, IsReplied, IsToldTo, note_of}
use Rattle.hub_protocol.specs.declared.replies.BorrowedReply.{BorrowedReply}
use Rattle.hub_protocol.specs.declared.replies.BorrowedReply.TheVariants as shown
use Rattle.hub_record.specs.declared.Kind.{Kind}
use Rattle.hub_record.specs.declared.Kind.TheVariants.{Plain, Service}
use Rattle.hub_record.specs.declared.limits.Policy.{Policy}
use Rattle.hub_record.specs.declared.limits.Policy.TheVariants.{Hold, Evict}
use Rattle.hub_requests.specs.Names.{is_name}
use Rattle.hub_requests.specs.declared.about.About.{About}
use Rattle.hub_requests.specs.declared.request.Request.{Request}
use Rattle.hub_requests.specs.declared.request.Request.TheVariants as request
use Rattle.hub_requests.specs.declared.reply.Reply.{Reply}
use Rattle.hub_requests.specs.declared.reply.Reply.TheVariants as reply
use Rattle.hub_requests.specs.declared.reply.Refusal.{Refusal}
use Rattle.hub_requests.specs.declared.reply.Refusal.TheVariants.{Exists}
use Rattle.hub_io.specs.Counted.{Writing}
use Rattle.hub_commands.specs.Asked.{DoesWith, FailsOnce, IsRefused}
use Rattle.hub_dialing.specs.Dialing.{Dialing}
use Rattle.hub_endings.specs.declared.ending.BadWords.{BadWords}
use Rattle.hub_endings.specs.declared.ending.BadWords.TheVariants as bad
use Rattle.hub_endings.specs.declared.ending.Ending.{Ending}

-- ---- a shape

-- whether a slow subscription gives way
abbrev pub evicts : Policy → Bool
evicts Hold = false
evicts Evict = true

abbrev pub request_of : Kind → Shape → (name : List ℕ) → Request
request_of Plain shape name = request.Dir name shape.waiting shape.total (evicts shape.policy)
request_of Service shape name = request.Svc name shape.waiting shape.total shape.notifies (evicts shape.policy)

-- the request that makes a fifodir of this shape
abbrev pub request_for : Shape → (name : List ℕ) → Request
request_for shape name = request_of shape.kind shape name

-- whether one fifodir is as another is wanted; how much it takes doesn't count
abbrev pub is_alike_to : (kind wanted : Kind) → (notifies reports : Bool) → Bool
is_alike_to Plain Plain notifies reports = true
is_alike_to Service Service notifies reports = beq notifies reports
is_alike_to kind wanted notifies reports = false

-- whether what is there is as it is wanted
abbrev pub is_alike : (there : About) → (wanted : Shape) → Bool
is_alike there wanted = is_alike_to there.kind wanted.kind there.notifies wanted.notifies

-- what a fifodir is
abbrev pub sort_text : Kind → (notifies : Bool) → List ℕ
sort_text Plain notifies = codes "a plain fifodir"
sort_text Service true = codes "a service with readiness"
sort_text Service false = codes "a service without readiness"

-- what is said of a fifodir that isn't as it is wanted
abbrev pub unlike_text : (there : About) → (wanted : Shape) → List ℕ
unlike_text there wanted = codes "is " ++ (sort_text there.kind there.notifies ++ (codes ", not " ++ sort_text wanted.kind wanted.notifies))

-- ---- the replies

-- what a reply says of a `dir`, a `svc` or a `will`, as the code has it
abbrev pub made_told : BorrowedReply → Option (Result (Unit {0}) Refusal)
made_told shown.Done = Some (Ok tt)
made_told (shown.No refusal) = Some (Err refusal)
made_told other = None

-- what a reply says of an `about`, as the code has it
abbrev pub about_told : BorrowedReply → Option (Result About Refusal)
about_told (shown.About about) = Some (Ok about)
about_told (shown.No refusal) = Some (Err refusal)
about_told other = None

-- the replies of a hub to a `dir`, a `svc` or a `will`
abbrev pub RepliesToMake : Reply → Type 0
RepliesToMake reply.Done = ⊤
RepliesToMake (reply.No refusal) = ⊤
RepliesToMake other = ⊥

-- the replies of a hub to an `about`
abbrev pub RepliesToAbout : Reply → Type 0
RepliesToAbout (reply.About about) = ⊤
RepliesToAbout (reply.No refusal) = ⊤
RepliesToAbout other = ⊥

-- ---- one name

-- What is there is as it is wanted, which isn't noted. Or it isn't, and there is one note of both.
abbrev pub IsJudged : (noted notes : Option (List ℕ)) (faults failed : Option ℕ) (name : List ℕ) (there : About) (wanted : Shape) → Outcome → Type 0
IsJudged noted notes faults failed name there wanted Done = (is_alike there wanted ≡ true) × (notes ≡ noted) × (failed ≡ faults)
IsJudged noted notes faults failed name there wanted Refused =
    (is_alike there wanted ≡ false) × IsToldTo noted notes faults failed (note_of name (unlike_text there wanted))
IsJudged noted notes faults failed name there wanted other = ⊥

-- What is there isn't as it is wanted, and there is one note of both.
pub record IsUnlike (before after : Streams) (name : List ℕ) (wanted : Shape) : Type 0 where
  pub about : About
  pub between : Streams
  pub looked : IsReplied before between (request.About name) (reply.About about)
  pub other : is_alike about wanted ≡ false
  pub told : IsNoted between after (note_of name (unlike_text about wanted))

-- What is there was looked at once. It is as it is wanted; or it isn't, or the hub doesn't say, and there is one note of that.
abbrev pub IsCompared : (before after : Streams) (name : List ℕ) (wanted : Shape) → Outcome → Type 0
IsCompared before after name wanted Done =
    (about : About) × IsReplied before after (request.About name) (reply.About about) × (is_alike about wanted ≡ true)
IsCompared before after name wanted Refused =
    ((refusal : Refusal) × IsRefused before after (request.About name) name refusal) ⊎ IsUnlike before after name wanted
IsCompared before after name wanted other = ⊥

-- It was asked for once, and was made, or the hub refused that for another reason than that something is there.
abbrev pub IsNew : (before after : Streams) (wanted : Shape) (name : List ℕ) → Outcome → Type 0
IsNew before after wanted name Done = IsReplied before after (request_for wanted name) reply.Done
IsNew before after wanted name Refused = (refusal : Refusal) × (refusal ≢ Exists) × IsRefused before after (request_for wanted name) name refusal
IsNew before after wanted name other = ⊥

-- Something is there.
abbrev pub IsThere : (before between : Streams) (wanted : Shape) (name : List ℕ) → Type 0
IsThere before between wanted name = IsReplied before between (request_for wanted name) (reply.No Exists)

-- It was asked for once, and what is there, if something is, was compared.
abbrev pub IsMade : (before after : Streams) (wanted : Shape) (name : List ℕ) → Outcome → Type 0
IsMade before after wanted name outcome =
    IsNew before after wanted name outcome ⊎ ((between : Streams) × IsThere before between wanted name × IsCompared between after name wanted outcome)

-- The look was sent at most once, and nothing was noted.
abbrev pub FailsToLook : (before after : Streams) (name : List ℕ) → AskError → Type 0
FailsToLook before after name error = FailsOnce RepliesToAbout before after (request.About name) error

-- Each of the two requests was sent at most once, and nothing was noted.
abbrev pub FailsToMake : (before after : Streams) (wanted : Shape) (name : List ℕ) → AskError → Type 0
FailsToMake before after wanted name error = FailsOnce RepliesToMake before after (request_for wanted name) error
    ⊎ ((between : Streams) × IsThere before between wanted name × FailsToLook between after name error)

-- ---- all names

-- a refusal if the next one is none that is done
abbrev pub outcome_after : (outcome next : Outcome) → Outcome
outcome_after outcome Done = outcome
outcome_after outcome next = Refused

-- a refusal if one isn't done
abbrev pub outcome_of_all : List Outcome → Outcome
outcome_of_all [] = Done
outcome_of_all (Done ∷ outcomes) = outcome_of_all outcomes
outcome_of_all (outcome ∷ outcomes) = Refused

-- Each of the names was made, one after another, and went so.
abbrev pub AreMade : (before after : Streams) (wanted : Shape) → (names : List (List ℕ)) → List Outcome → Type 0
AreMade before after wanted [] [] = after ≡ before
AreMade before after wanted (name ∷ names) (outcome ∷ outcomes) =
    (between : Streams) × IsMade before between wanted name outcome × AreMade between after wanted names outcomes
AreMade before after wanted names outcomes = ⊥

-- All of them were made, and this is how the command went.
pub record MakesEach (before after : Streams) (wanted : Shape) (names : List (List ℕ)) (outcome : Outcome) : Type 0 where
  pub outcomes : List Outcome
  pub made : AreMade before after wanted names outcomes
  pub went : outcome ≡ outcome_of_all outcomes

-- The first ones were made, the next one failed, and nothing was done for the others.
pub record FailsToMakeEach (before after : Streams) (wanted : Shape) (names : List (List ℕ)) (error : AskError) : Type 0 where
  pub first : List (List ℕ)
  pub next : List ℕ
  pub others : List (List ℕ)
  pub cut : names ≡ first ++ next ∷ others
  pub between : Streams
  pub outcomes : List Outcome
  pub made : AreMade before between wanted first outcomes
  pub fails : FailsToMake between after wanted next error

-- only texts of which one is no name are refused; text gives the bytes
abbrev pub RefusesNames : {Word : Type 0} → (text : Word → List ℕ) → List Word → BadWords → Type 0
RefusesNames text names bad.NotName = list_all (λ name. is_name (text name)) names ≡ false
RefusesNames text names other = ⊥

-- `make` of these names
abbrev pub MakesAsTold : {D SR SW F Word : Type 0} → Dialing D SR SW → (old new : D) → (socket : List ℕ) → Writing F → (notes note : F)
    → (text : Word → List ℕ) → List Word → Shape → Result ℕ Ending → Type 0
MakesAsTold d old new socket n notes note text names wanted result = DoesWith d old new socket n notes note (RefusesNames text names)
    (λ outcome before after. MakesEach before after wanted (map text names) outcome)
    (λ error before after. FailsToMakeEach before after wanted (map text names) error) result
