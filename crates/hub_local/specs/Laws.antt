-- Laws of a desk: what requests do to its names, and what an await says of the take or poll that comes next.
use Rattle.std.specs.Prelude.{ℕ, ◌≡◌, Bool, List, [], ◌∷◌, ◌++◌, ◌↔◌, false, None}
use Rattle.hub_local.specs.Desks.{Desk, names_in, IsDesk}
use Rattle.hub_local.specs.Ends.{desk_after_end}
use Rattle.hub_local.specs.DeskAnswers.{answer, own_refusal, request_answer}
use Rattle.hub_requests.specs.declared.request.Request.{Request}
use Rattle.hub_requests.specs.declared.request.Request.TheVariants.{Dir, Svc, Take, Poll, Await}
use Rattle.hub_requests.specs.declared.reply.Reply.{Reply}
use Rattle.hub_requests.specs.declared.reply.Reply.TheVariants.{Done, Nothing, Late}

-- ---- names: a new one comes behind all others, and none goes

-- the name that a request has made, if it has this reply
abbrev pub name_made : Request → Reply → List (List ℕ)
name_made (Dir name waiting total evict) Done = name ∷ []
name_made (Svc name waiting total notifies evict) Done = name ∷ []
name_made request reply = []

abbrev pub NamesStay : Type 0
NamesStay = (d : Desk) (read : Bool) (request : Request)
    → names_in (answer d read request).desk.fifodirs ≡ names_in d.fifodirs ++ name_made request (answer d read request).reply

abbrev pub NamesOutliveTheEnd : Type 0
NamesOutliveTheEnd = (d : Desk) → names_in (desk_after_end d).fifodirs ≡ names_in d.fifodirs

-- ---- awaits

-- it is late exactly if a take of the handle has nothing to take
abbrev pub AwaitsTellTakes : Type 0
AwaitsTellTakes = (d : Desk) (id turns max : ℕ) → IsDesk d → own_refusal d false (Take id max) ≡ None
    → ((request_answer d (Await id turns)).reply ≡ Late) ↔ ((request_answer d (Take id max)).reply ≡ Nothing)

-- it is late only if a poll of the handle has no hit, and isn't at the end either
abbrev pub AwaitsTellPolls : Type 0
AwaitsTellPolls = (d : Desk) (id turns : ℕ) → IsDesk d → own_refusal d false (Poll id) ≡ None
    → (request_answer d (Await id turns)).reply ≡ Late → (request_answer d (Poll id)).reply ≡ Nothing
