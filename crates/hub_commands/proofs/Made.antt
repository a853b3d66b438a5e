-- What a hub says to a `make`, and one name after another.
use Rattle.std.proofs.Common.{◌≡◌, ℕ, suc, ◌+◌, ◌<◌, ◌≤◌, List, [], ◌∷◌, ◌++◌, length, take, drop, get_or, Some, Result, Ok, Err, IfErr, IsErrAnd, refl, sym, ap, ◌∙◌, subst, take_all, take-append-drop, drop-cons}
use Rattle.std.proofs.lemmas.List.{take_more}
use Rattle.hub_options.specs.declared.changing.Shape.{Shape}
use Rattle.hub_ask.specs.declared.fault.AskError.{AskError}
use Rattle.hub_ask.specs.declared.outcome.Outcome.{Outcome}
use Rattle.hub_ask.specs.declared.outcome.Outcome.TheVariants.{Done, Refused, Never, Late, Nothing}
use Rattle.hub_ask.specs.Streams.{Streams}
use Rattle.hub_protocol.specs.declared.replies.BorrowedReply.{BorrowedReply}
use Rattle.hub_protocol.specs.declared.replies.BorrowedReply.TheVariants as shown
use Rattle.hub_requests.specs.declared.about.About.{About}
use Rattle.hub_requests.specs.declared.reply.Refusal.{Refusal}
use Rattle.hub_commands.specs.Making.{AreMade, FailsToMake, FailsToMakeEach, IsMade, MakesEach, about_told, made_told, outcome_after, outcome_of_all}

-- ---- the reply by its verdict

pub is_done : (read : BorrowedReply) (u : Unit {0}) → made_told read ≡ Some (Ok u) → read ≡ shown.Done
is_done shown.Done u is = refl
is_done (shown.No refusal) u is = absurd (cc is)
is_done read u is = absurd (cc is)

pub is_refusal : (read : BorrowedReply) (refusal : Refusal) → made_told read ≡ Some (Err refusal) → read ≡ shown.No refusal
is_refusal (shown.No other) refusal is = cc is
is_refusal shown.Done refusal is = absurd (cc is)
is_refusal read refusal is = absurd (cc is)

pub is_about : (read : BorrowedReply) (about : About) → about_told read ≡ Some (Ok about) → read ≡ shown.About about
is_about (shown.About other) about is = cc is
is_about (shown.No refusal) about is = absurd (cc is)
is_about read about is = absurd (cc is)

pub is_no_about : (read : BorrowedReply) (refusal : Refusal) → about_told read ≡ Some (Err refusal) → read ≡ shown.No refusal
is_no_about (shown.No other) refusal is = cc is
is_no_about (shown.About about) refusal is = absurd (cc is)
is_no_about read refusal is = absurd (cc is)

-- ---- one name more

made_more : (before between after : Streams) (wanted : Shape) (names : List (List ℕ)) (outcomes : List Outcome) (name : List ℕ) (outcome : Outcome)
    → AreMade before between wanted names outcomes → IsMade between after wanted name outcome
    → AreMade before after wanted (names ++ name ∷ []) (outcomes ++ outcome ∷ [])
made_more before between after wanted [] [] name outcome same more = (after, subst (λ it. IsMade it after wanted name outcome) same more, refl)
made_more before between after wanted [] (o ∷ outcomes) name outcome h more = absurd h
made_more before between after wanted (n ∷ names) [] name outcome h more = absurd h
made_more before between after wanted (n ∷ names) (o ∷ outcomes) name outcome h more =
    (h.0, h.1, made_more h.0 between after wanted names outcomes name outcome h.2 more)

refused_still : (next : Outcome) → Refused ≡ outcome_after Refused next
refused_still Done = refl
refused_still Refused = refl
refused_still Never = refl
refused_still Late = refl
refused_still Nothing = refl

outcome_more : (outcomes : List Outcome) (next : Outcome) → outcome_of_all (outcomes ++ next ∷ []) ≡ outcome_after (outcome_of_all outcomes) next
outcome_more [] Done = refl
outcome_more [] Refused = refl
outcome_more [] Never = refl
outcome_more [] Late = refl
outcome_more [] Nothing = refl
outcome_more (Done ∷ outcomes) next = outcome_more outcomes next
outcome_more (Refused ∷ outcomes) next = refused_still next
outcome_more (Never ∷ outcomes) next = refused_still next
outcome_more (Late ∷ outcomes) next = refused_still next
outcome_more (Nothing ∷ outcomes) next = refused_still next

pub none_made : (before : Streams) (wanted : Shape) (outcome : Outcome) → outcome ≡ Done → MakesEach before before wanted [] outcome
none_made before wanted outcome done = record { outcomes = []; made = refl; went = done }

pub one_made : (before between after : Streams) (wanted : Shape) (names : List (List ℕ)) (at : ℕ) (name : List ℕ) (outcome next then : Outcome)
    → name ≡ get_or names at name → at < length names → MakesEach before between wanted (take at names) outcome → IsMade between after wanted name next
    → then ≡ outcome_after outcome next → MakesEach before after wanted (take (at + 1) names) then
one_made before between after wanted names at name outcome next then is within h made went =
    subst (λ it. MakesEach before after wanted it then) (sym (take_more names at name within))
    (record {
      outcomes = h.outcomes ++ next ∷ [];
      made = made_more before between after wanted (take at names) h.outcomes (get_or names at name) next h.made (subst (λ it. IsMade between after wanted it next) is made);
      went = went ∙ ap (λ o. outcome_after o next) h.went ∙ sym (outcome_more h.outcomes next);
    })

pub all_made : (before after : Streams) (wanted : Shape) (names : List (List ℕ)) (at : ℕ) (outcome : Outcome)
    → length names ≤ at → MakesEach before after wanted (take at names) outcome → MakesEach before after wanted names outcome
all_made before after wanted names at outcome end h = subst (λ it. MakesEach before after wanted it outcome) (take_all at names end) h

-- one failed
pub not_made : {T : Type 0} (before between after : Streams) (wanted : Shape) (names : List (List ℕ)) (at : ℕ) (name : List ℕ) (outcome : Outcome) (result : Result T AskError) (error : AskError)
    → name ≡ get_or names at name → at < length names → MakesEach before between wanted (take at names) outcome → IsErrAnd result (λ it. it ≡ error)
    → FailsToMake between after wanted name error → IfErr result (FailsToMakeEach before after wanted names)
not_made before between after wanted names at name outcome (Ok it) error there within h is fails = tt
not_made before between after wanted names at name outcome (Err other) error there within h is fails =
    subst (FailsToMakeEach before after wanted names) (sym is)
    (record {
      first = take at names;
      next = get_or names at name;
      others = drop (suc at) names;
      cut = sym (take-append-drop at names) ∙ ap (λ l. take at names ++ l) (drop-cons names at name within);
      between = between;
      outcomes = h.outcomes;
      made = h.made;
      fails = subst (λ it. FailsToMake between after wanted it error) there fails;
    })
