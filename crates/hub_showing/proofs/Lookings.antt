-- How a command that looks ends.
use Rattle.std.proofs.Common.{◌≡◌, ℕ, List, Bool, Option, Result, Ok, Err, IsErrAnd, false, inr, refl, sym, subst}
use Rattle.hub_ask.specs.Outcomes.{status_of}
use Rattle.hub_ask.specs.declared.exchanging.TheConstants.{ANSWER}
use Rattle.hub_ask.specs.declared.fault.AskError.{AskError}
use Rattle.hub_ask.specs.declared.outcome.Outcome.{Outcome}
use Rattle.hub_look.specs.Looks.{OnlyLooks}
use Rattle.hub_ask.specs.Streams.{Going, Told}
use Rattle.hub_look.specs.Tables.{FailsToShowStates, ShowsStates}
use Rattle.hub_io.specs.Counted.{Writing}
use Rattle.hub_endings.specs.Words.{any_breaks}
use Rattle.hub_dialing.specs.Dialing.{Dialing}
use Rattle.hub_showing.specs.Looking.{LooksOver, LooksWith, ShowsStatus}
use Rattle.hub_endings.specs.declared.ending.BadWords.{BadWords}
use Rattle.hub_endings.specs.declared.ending.BadWords.TheVariants as bad
use Rattle.hub_endings.specs.declared.ending.Ending.{Ending}
use Rattle.hub_endings.specs.declared.ending.Ending.TheVariants.{Failed}
use Rattle.hub_endings.specs.declared.fault.Fault.TheVariants.{Ask}

-- what went over the connection, if the client began with its streams as they were
over_it : {D SR SW : Type 0} (d : Dialing D SR SW) (old new : D) (socket : List ℕ) (went : Going) (receive receives : SR) (send sends : SW) (begun : SW) (sent had : Option (List ℕ))
    → d.reaches old socket ANSWER (Ok (receive, send)) new → begun ≡ send → ∥ OnlyLooks (d.contents begun) (d.contents sends) ∥₁
    → sent ≡ d.contents send → had ≡ d.remaining receive → went sent (d.contents sends) had (d.remaining receives) → LooksOver d old new socket went
over_it d old new socket went receive receives send sends begun sent had reached is_begun looks is_sent is_had over =
    record {
      receive = receive;
      receives = receives;
      send = send;
      sends = sends;
      reached = reached;
      over = (
        subst (λ it. ∥ OnlyLooks (d.contents it) (d.contents sends) ∥₁) is_begun looks,
        subst (λ it. went it (d.contents sends) (d.remaining receive) (d.remaining receives)) is_sent
            (subst (λ it. went sent (d.contents sends) it (d.remaining receives)) is_had over),
      );
    }

-- it has an outcome
pub looks_so : {D SR SW : Type 0} (d : Dialing D SR SW) (old new : D) (socket : List ℕ) (breaks : Bool) (refused : BadWords) (untouched : Type 0) (goes : Outcome → Going) (fails : AskError → Going)
    (status : ℕ) (outcome : Outcome) (receive receives : SR) (send sends : SW) (begun : SW) (sent had : Option (List ℕ)) → breaks ≡ false → status ≡ status_of outcome
    → d.reaches old socket ANSWER (Ok (receive, send)) new → begun ≡ send → ∥ OnlyLooks (d.contents begun) (d.contents sends) ∥₁ → sent ≡ d.contents send → had ≡ d.remaining receive
    → goes outcome sent (d.contents sends) had (d.remaining receives) → LooksWith d old new socket breaks refused untouched goes fails (Ok status)
looks_so d old new socket breaks refused untouched goes fails status outcome receive receives send sends begun sent had whole is reached is_begun looks is_sent is_had over =
    (whole, outcome, is, over_it d old new socket (goes outcome) receive receives send sends begun sent had reached is_begun looks is_sent is_had over)

-- it fails over the connection
pub looks_in_vain : {D SR SW : Type 0} (d : Dialing D SR SW) (old new : D) (socket : List ℕ) (breaks : Bool) (refused : BadWords) (untouched : Type 0) (goes : Outcome → Going) (fails : AskError → Going)
    (result : Result ℕ Ending) (error : AskError) (receive receives : SR) (send sends : SW) (begun : SW) (sent had : Option (List ℕ)) → breaks ≡ false → IsErrAnd result (λ it. it ≡ Failed (Ask error))
    → d.reaches old socket ANSWER (Ok (receive, send)) new → begun ≡ send → ∥ OnlyLooks (d.contents begun) (d.contents sends) ∥₁ → sent ≡ d.contents send → had ≡ d.remaining receive
    → fails error sent (d.contents sends) had (d.remaining receives) → LooksWith d old new socket breaks refused untouched goes fails result
looks_in_vain d old new socket breaks refused untouched goes fails (Ok status) error receive receives send sends begun sent had whole is reached is_begun looks is_sent is_had over = absurd is
looks_in_vain d old new socket breaks refused untouched goes fails (Err ending) error receive receives send sends begun sent had whole is reached is_begun looks is_sent is_had over =
    subst (λ it. LooksWith d old new socket breaks refused untouched goes fails (Err it)) (sym is)
    (whole, inr (error, refl, over_it d old new socket (fails error) receive receives send sends begun sent had reached is_begun looks is_sent is_had over))

-- ---- `status`

pub shows_so : {D SR SW F Name : Type 0} (d : Dialing D SR SW) (old new : D) (socket : List ℕ) (n : Writing F) (notes note : F) (text : Name → List ℕ) (is_json : Bool) (names : List Name) (untouched : Type 0)
    (held holds : Option (List ℕ)) (status : ℕ) (outcome : Outcome) (receive receives : SR) (send sends begun : SW) (sent had : Option (List ℕ)) → any_breaks text names ≡ false → status ≡ status_of outcome
    → d.reaches old socket ANSWER (Ok (receive, send)) new → begun ≡ send → ∥ OnlyLooks (d.contents begun) (d.contents sends) ∥₁ → sent ≡ d.contents send → had ≡ d.remaining receive
    → Told n notes note (λ before after. ShowsStates text is_json before after held holds names outcome) sent (d.contents sends) had (d.remaining receives)
    → ShowsStatus d old new socket n notes note text is_json names untouched held holds (Ok status)
shows_so d old new socket n notes note text is_json names untouched held holds status outcome receive receives send sends begun sent had whole is reached is_begun looks is_sent is_had over =
    looks_so d old new socket (any_breaks text names) bad.Name untouched
    (λ outcome. Told n notes note (λ before after. ShowsStates text is_json before after held holds names outcome))
    (λ error. Told n notes note (λ before after. FailsToShowStates text is_json before after held holds names error))
    status outcome receive receives send sends begun sent had whole is reached is_begun looks is_sent is_had over

pub shows_in_vain : {D SR SW F Name : Type 0} (d : Dialing D SR SW) (old new : D) (socket : List ℕ) (n : Writing F) (notes note : F) (text : Name → List ℕ) (is_json : Bool) (names : List Name) (untouched : Type 0)
    (held holds : Option (List ℕ)) (result : Result ℕ Ending) (error : AskError) (receive receives : SR) (send sends begun : SW) (sent had : Option (List ℕ)) → any_breaks text names ≡ false → IsErrAnd result (λ it. it ≡ Failed (Ask error))
    → d.reaches old socket ANSWER (Ok (receive, send)) new → begun ≡ send → ∥ OnlyLooks (d.contents begun) (d.contents sends) ∥₁ → sent ≡ d.contents send → had ≡ d.remaining receive
    → Told n notes note (λ before after. FailsToShowStates text is_json before after held holds names error) sent (d.contents sends) had (d.remaining receives)
    → ShowsStatus d old new socket n notes note text is_json names untouched held holds result
shows_in_vain d old new socket n notes note text is_json names untouched held holds result error receive receives send sends begun sent had whole is reached is_begun looks is_sent is_had over =
    looks_in_vain d old new socket (any_breaks text names) bad.Name untouched
    (λ outcome. Told n notes note (λ before after. ShowsStates text is_json before after held holds names outcome))
    (λ error. Told n notes note (λ before after. FailsToShowStates text is_json before after held holds names error))
    result error receive receives send sends begun sent had whole is reached is_begun looks is_sent is_had over
