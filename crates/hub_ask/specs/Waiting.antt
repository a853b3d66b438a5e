-- A wait, and what is asked after it.
use Rattle.std.specs.Prelude.{◌≡◌, ◌≢◌, ◌⊎◌, ℕ, List, [], ◌∷◌, codes, flat_map, if◌then◌else◌, Option, None, Some}
use Rattle.std.specs.Io.KnownBytes.{Appends}
use Rattle.std.specs.Fmt.{decimal}
use Rattle.hub_letters.specs.declared.want.Want as wants
use Rattle.hub_letters.specs.declared.span.Span.TheVariants as span
use Rattle.hub_requests.specs.Names.{is_name}
use Rattle.hub_requests.specs.declared.request.Request.{Request}
use Rattle.hub_requests.specs.declared.request.Request.TheVariants as request
use Rattle.hub_protocol.specs.Spelling.{text_of_want}
use Rattle.hub_ask.specs.Lines.{joined}
use Rattle.hub_ask.specs.Sending.{SendsFront, lines_of_requests}
use Rattle.hub_ask.specs.Outcomes.{TellsOfWait}
use Rattle.hub_client.specs.declared.fault.RelayError.TheVariants as relay
use Rattle.hub_io.specs.Faults.{AppendsPart}
use Rattle.hub_requests.specs.declared.reply.Refusal.TheVariants as refusal
use Rattle.hub_requests.specs.declared.reply.Reply.{Reply}
use Rattle.hub_requests.specs.declared.reply.Reply.TheVariants as reply
use Rattle.hub_ask.specs.declared.fault.AskError.{AskError}
use Rattle.hub_ask.specs.declared.fault.AskError.TheVariants.{Relay, Unknown}
use Rattle.hub_ask.specs.declared.outcome.Outcome.{Outcome}
use Rattle.hub_ask.specs.declared.waiting.Delay.{Delay}
use Rattle.hub_ask.specs.declared.waiting.Delay.TheVariants as delay
use Rattle.hub_ask.specs.declared.waiting.Delay.TheVariants.{Missing}
use Rattle.hub_ask.specs.declared.outcome.Outcome.TheVariants.{Refused, Never, Late}

-- the words of a wait for these names, with one space between each two
abbrev pub wait_words : (span want : List ℕ) (turns : ℕ) (names : List ℕ) → List ℕ
wait_words span want turns names = joined (λ word. word) (codes "wait" ∷ span ∷ want ∷ decimal turns ∷ names ∷ [])

-- two requests about a service: whether it is as wanted, and how it is
abbrev pub questions_about : (want : wants.Want) → (name : List ℕ) → List Request
questions_about want name = request.Wait span.All want 0 (name ∷ []) ∷ request.Status name ∷ []

-- those about each service whose name is one; text gives the bytes of a name
abbrev pub questions : {Name : Type 0} → (want : wants.Want) → (text : Name → List ℕ) → List Name → List Request
questions want text names = flat_map (λ name. if is_name (text name) then questions_about want (text name) else []) names

-- Of these questions, the first ones were sent, or all. If the word is none of a want, nothing was sent.
abbrev pub AsksAbout : {Name : Type 0} → (word : List ℕ) → (text : Name → List ℕ) → List Name → (sent sends : Option (List ℕ)) → Type 0
AsksAbout word text names sent sends =
    (sends ≡ sent) ⊎ ((want : wants.Want) × (word ≡ text_of_want want) × SendsFront sent sends (questions want text names))

-- All of these questions were sent. If the word is none of a want, nothing was sent.
abbrev pub AsksAll : {Name : Type 0} → (word : List ℕ) → (text : Name → List ℕ) → List Name → (sent sends : Option (List ℕ)) → Type 0
AsksAll word text names sent sends =
    (((want : wants.Want) → word ≢ text_of_want want) × (sends ≡ sent))
    ⊎ ((want : wants.Want) × (word ≡ text_of_want want) × Appends sent sends (lines_of_requests (questions want text names)))

-- what was sent: the bytes before and after
abbrev pub Asking : Type 1
Asking = (sent sends : Option (List ℕ)) → Type 0

-- After a wait that is refused, never or late nothing but these questions is sent, and after any other one nothing is sent
-- or read.
abbrev pub AsksAfter : (sent sends had has : Option (List ℕ)) (asks : Asking) → Outcome → Type 0
AsksAfter sent sends had has asks Refused = asks sent sends
AsksAfter sent sends had has asks Never = asks sent sends
AsksAfter sent sends had has asks Late = asks sent sends
AsksAfter sent sends had has asks other = (sends ≡ sent) × (has ≡ had)

-- the reply that isn't the end of a wait that may go on
abbrev pub reply_of : Delay → Reply
reply_of Missing = reply.No refusal.Name
reply_of delay.Late = reply.Late

-- The reply was written, and tells the outcome of a wait for so many services. Then at most these questions were asked.
pub record IsEnded (services : ℕ) (sent sends had has held holds : Option (List ℕ)) (reply : List ℕ) (asks : Asking) (outcome : Outcome) : Type 0 where
  pub written : Appends held holds reply
  pub told : TellsOfWait services reply (Some outcome)
  pub after : AsksAfter sent sends had has asks outcome

-- Only a prefix of the reply could be written. Or it was written, and is none to a wait for so many services.
abbrev pub FailsToEnd : (services : ℕ) (held holds : Option (List ℕ)) (reply : List ℕ) → AskError → Type 0
FailsToEnd services held holds reply (Relay relay.Output) = AppendsPart held holds reply
FailsToEnd services held holds reply Unknown = Appends held holds reply × TellsOfWait services reply None
FailsToEnd services held holds reply error = ⊥
