-- One look more.
use Rattle.std.proofs.Common.{◌≡◌, ℕ, Bool, true, false, List, [], ◌∷◌, ◌++◌, Option, Result, Ok, Err, IfOk, IfErr, inl, inr, refl, sym, subst}
use Rattle.std.proofs.lemmas.Bool.{cases_Bool}
use Rattle.std.proofs.lemmas.List.Elements.{All-nil, All-push}
use Rattle.std.proofs.KnownBytes.{Appends-nil}
use Rattle.hub_client.specs.Passing.{has_lf}
use Rattle.hub_client.specs.declared.fault.RelayError.TheVariants as relay
use Rattle.hub_requests.specs.declared.request.Request.{Request}
use Rattle.hub_protocol.specs.Spelling.{form_of, spelling}
use Rattle.hub_ask.specs.Asking.{BreaksOff, FailsToAsk, IsAnswered}
use Rattle.hub_ask.specs.Hearing.{line_of}
use Rattle.hub_ask.specs.declared.fault.AskError.{AskError}
use Rattle.hub_ask.specs.declared.fault.AskError.TheVariants.{Relay, Unknown, Words}
use Rattle.hub_ask.specs.declared.heard.Heard.{Heard}
use Rattle.hub_ask.proofs.Sent.{line_more, part_of}
use Rattle.hub_look.specs.Looking.{IsLook}
use Rattle.hub_look.specs.Looks.{AsksWhole, IsOneLook, OnlyLooks}

-- nothing was sent
pub asks_none : (sent : Option (List ℕ)) → AsksWhole sent sent
asks_none sent = record { requests = []; looks = All-nil IsOneLook; asked = Appends-nil sent }

-- whole looks are looks
pub only_whole : (begun sent : Option (List ℕ)) → AsksWhole begun sent → OnlyLooks begun sent
only_whole begun sent whole = record {
  requests = whole.requests;
  looks = whole.looks;
  went = record { whole = whole.requests; between = sent; asked = whole.asked; last = inl (refl, refl) };
}

-- the looks of a sender that is as it was
pub asks_same : (begun sent : Option (List ℕ)) → begun ≡ sent → AsksWhole begun sent
asks_same begun sent same = subst (AsksWhole begun) same (asks_none begun)

-- what holds after a look
pub record Looked (begun sends : Option (List ℕ)) (broken : Bool) : Type 0 where
  pub only : OnlyLooks begun sends
  pub whole : broken ≡ false → AsksWhole begun sends

-- nothing more was sent
looked_same : (begun sent sends : Option (List ℕ)) (broken : Bool) → AsksWhole begun sent → sends ≡ sent → Looked begun sends broken
looked_same begun sent sends broken before same =
    let whole = subst (AsksWhole begun) (sym same) before in
    record { only = only_whole begun sends whole; whole = λ e. whole }

-- a look was sent whole
looked_more : (begun sent sends had has : Option (List ℕ)) (request : Request) (broken : Bool) (reply : List ℕ)
    → AsksWhole begun sent → IsOneLook request → IsAnswered sent sends had has (spelling (form_of request)) reply → Looked begun sends broken
looked_more begun sent sends had has request broken reply before look answered =
    let whole : AsksWhole begun sends = record {
      requests = before.requests ++ request ∷ [];
      looks = All-push IsOneLook before.requests request before.looks look;
      asked = line_more begun sent sends before.requests request before.asked answered.asked;
    } in
    record { only = only_whole begun sends whole; whole = λ e. whole }

-- a look was broken off
looked_part : (begun sent sends had has : Option (List ℕ)) (request : Request) (broken : Bool)
    → AsksWhole begun sent → IsOneLook request → BreaksOff sent sends had has (spelling (form_of request)) broken → Looked begun sends broken
looked_part begun sent sends had has request broken before look b = record {
  only = record {
    requests = before.requests ++ request ∷ [];
    looks = All-push IsOneLook before.requests request before.looks look;
    went = record { whole = before.requests; between = sent; asked = before.asked; last = inr (request, refl, part_of sent sends had has _ b.off) };
  };
  whole = λ e. subst (AsksWhole begun) (sym (b.untouched e).0) before;
}

looked_fails : (begun sent sends had has : Option (List ℕ)) (request : Request) (broken : Bool) (error : AskError)
    → AsksWhole begun sent → IsOneLook request → FailsToAsk sent sends had has (spelling (form_of request)) broken error → Looked begun sends broken
looked_fails begun sent sends had has request broken Unknown before look f = elim f [
  | inl h ↦ looked_more begun sent sends had has request broken h.0.0 before look h.0.1
  | inr b ↦ looked_part begun sent sends had has request broken before look b
]
looked_fails begun sent sends had has request broken Words before look f = looked_same begun sent sends broken before f.1
looked_fails begun sent sends had has request broken (Relay relay.Output) before look f = absurd f
looked_fails begun sent sends had has request broken (Relay relay.Input) before look f = absurd f
looked_fails begun sent sends had has request broken error before look f = looked_part begun sent sends had has request broken before look f

looked_by : (begun sent sends had has : Option (List ℕ)) (request : Request) (broken : Bool) (result : Result Heard AskError)
    → AsksWhole begun sent → IsOneLook request
    → IfOk result (λ heard. IsAnswered sent sends had has (spelling (form_of request)) (line_of heard))
    → IfErr result (FailsToAsk sent sends had has (spelling (form_of request)) broken) → Looked begun sends broken
looked_by begun sent sends had has request broken (Ok heard) before look h f = looked_more begun sent sends had has request broken (line_of heard) before look h
looked_by begun sent sends had has request broken (Err error) before look h f = looked_fails begun sent sends had has request broken error before look f

-- a look of a client that isn't broken
pub looked : (begun sent sends had has : Option (List ℕ)) (request : Request) (broken : Bool) (result : Result Heard AskError)
    → IsLook request → AsksWhole begun sent → (has_lf (spelling (form_of request)) ≡ true → sends ≡ sent)
    → IfOk result (λ heard. IsAnswered sent sends had has (spelling (form_of request)) (line_of heard))
    → IfErr result (FailsToAsk sent sends had has (spelling (form_of request)) broken) → Looked begun sends broken
looked begun sent sends had has request broken result look before lines h f = elim (cases_Bool (has_lf (spelling (form_of request)))) [
  | inl lf ↦ looked_same begun sent sends broken before (lines lf)
  | inr one ↦ looked_by begun sent sends had has request broken result before (look, one) h f
]
