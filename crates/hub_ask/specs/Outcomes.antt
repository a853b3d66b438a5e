-- How a request went.
use Rattle.std.specs.Prelude.{◌≡◌, ◌≢◌, ⊤, ℕ, ◌-◌, ◌==◌, nat_lt, ◌&&◌, List, [], ◌∷◌, length, count_by, Bool, true, false, Option, MatchOption}
use Rattle.hub_protocol.specs.Spelling.{is_space}
use Rattle.hub_requests.specs.Texts.{text_of}
use Rattle.hub_requests.specs.declared.reply.Reply.{Reply}
use Rattle.hub_requests.specs.declared.reply.Reply.TheVariants as reply
use Rattle.hub_protocol.specs.declared.replies.BorrowedReply.{BorrowedReply}
use Rattle.hub_protocol.specs.declared.replies.BorrowedReply.TheVariants as shown
use Rattle.hub_protocol.specs.Replies.{IsOfHub}
use Rattle.hub_ask.specs.declared.outcome.Outcome.{Outcome}
use Rattle.hub_ask.specs.declared.outcome.Outcome.TheVariants.{Done, Refused, Never, Late, Nothing}

-- how a request went that a hub answered so
abbrev pub outcome_of : Reply → Outcome
outcome_of (reply.No refusal) = Refused
outcome_of reply.Never = Never
outcome_of reply.Late = Late
outcome_of reply.Nothing = Nothing
outcome_of reply.End = Nothing
outcome_of reply.Evicted = Nothing
outcome_of answer = Done

-- the exit status
abbrev pub status_of : Outcome → ℕ
status_of Done = 0
status_of Refused = 3
status_of Never = 4
status_of Late = 5
status_of Nothing = 6

-- the replies of a hub to a wait for so many services
abbrev pub RepliesToWait : (services : ℕ) → Reply → Type 0
RepliesToWait services (reply.Yes numbers) = length numbers ≡ services
RepliesToWait services reply.Never = ⊤
RepliesToWait services reply.Late = ⊤
RepliesToWait services (reply.No refusal) = ⊤
RepliesToWait services other = ⊥

-- what is read of a line, as the code has it
abbrev pub outcome_read : BorrowedReply → Outcome
outcome_read (shown.No refusal) = Refused
outcome_read shown.Never = Never
outcome_read shown.Late = Late
outcome_read shown.Nothing = Nothing
outcome_read shown.End = Nothing
outcome_read shown.Evicted = Nothing
outcome_read read = Done

-- whether a text has so many fields; one without a byte has none
abbrev pub has_count : List ℕ → (count : ℕ) → Bool
has_count [] count = count == 0
has_count (byte ∷ bytes) count = nat_lt 0 count && (count_by is_space (byte ∷ bytes) == count - 1)

abbrev pub replies_to_wait : (services : ℕ) → BorrowedReply → Bool
replies_to_wait services (shown.Yes text) = has_count text.now services
replies_to_wait services shown.Never = true
replies_to_wait services shown.Late = true
replies_to_wait services (shown.No refusal) = true
replies_to_wait services read = false

-- the text is that of a reply of a hub, of this kind, and the request of that reply went so
pub record IsTold (Kind : Reply → Type 0) (text : List ℕ) (outcome : Outcome) : Type 0 where
  pub reply : Reply
  pub of_hub : IsOfHub reply
  pub kind : Kind reply
  pub spelled : text ≡ text_of reply
  pub went : outcome ≡ outcome_of reply

-- How the request went that has this reply; none if the text is that of no reply of a hub of this kind.
abbrev pub TellsBy : (Reply → Type 0) → List ℕ → Option Outcome → Type 0
TellsBy Kind text outcome = MatchOption outcome ((reply : Reply) → IsOfHub reply → Kind reply → text ≢ text_of reply) (IsTold Kind text)

-- any reply of a hub
abbrev pub Tells : List ℕ → Option Outcome → Type 0
Tells text outcome = TellsBy (λ reply. ⊤) text outcome

-- a reply of a hub to a wait for so many services
abbrev pub TellsOfWait : (services : ℕ) → List ℕ → Option Outcome → Type 0
TellsOfWait services text outcome = TellsBy (RepliesToWait services) text outcome
