-- Runs over lines, split into the requests among them and the refusals.
use Rattle.std.proofs.Common.{◌≡◌, ◌≢◌, ℕ, List, [], ◌∷◌, Result, Ok, Err, refl, sym, ap, subst}
use Rattle.std.proofs.lemmas.List.Elements.{All-nil, All-cons, All-head, All-tail}
use Rattle.hub_requests.specs.declared.request.Request.{Request}
use Rattle.hub_requests.specs.declared.reply.Reply.{Reply}
use Rattle.hub_requests.specs.declared.reply.Reply.TheVariants.{No}
use Rattle.hub_requests.specs.declared.reply.Refusal.{Refusal}
use Rattle.hub_requests.specs.declared.reply.Refusal.TheVariants.{Memory}
use Rattle.hub_protocol.specs.Reading.{IsReading}
use Rattle.hub_front.specs.Serving.{Asking, AnswersRead, Run}
use Rattle.hub_front.specs.Places.{AreInPlace}

abbrev IsGiven : Reply → Type 0
IsGiven reply = reply ≢ No Memory

abbrev IsRead : Result Request Refusal → Type 0
IsRead read = read ≢ Err Memory

-- no line
in_place_none : {D : Type 0} {asks : Asking D} {old new : D} → new ≡ old → AreInPlace asks old [] [] new
in_place_none e = record {
  reads = [];
  readings = tt;
  given = [];
  asked = e;
  placed = refl;
  read_whole = λ none. All-nil IsRead;
  given_whole = λ none. All-nil IsGiven;
}

-- one more line before them, which is a request
in_place_request : {D : Type 0} {asks : Asking D} {old mid new : D} (line : List ℕ) {lines : List (List ℕ)} (request : Request) (reply : Reply) {replies : List Reply}
    → IsReading line (Ok request) → asks old request reply mid → AreInPlace asks mid lines replies new → AreInPlace asks old (line ∷ lines) (reply ∷ replies) new
in_place_request {mid = mid} line request reply {replies} reading answered p = record {
  reads = Ok request ∷ p.reads;
  readings = (reading, p.readings);
  given = reply ∷ p.given;
  asked = (mid, answered, p.asked);
  placed = ap (λ rs. reply ∷ rs) p.placed;
  read_whole = λ none. All-cons IsRead (Ok request) p.reads (λ e. cc) (p.read_whole (All-tail IsGiven reply replies none));
  given_whole = λ none. All-cons IsGiven reply p.given (All-head IsGiven reply replies none) (p.given_whole (All-tail IsGiven reply replies none));
}

-- one more line before them, which is refused
in_place_refusal : {D : Type 0} {asks : Asking D} {old new : D} (line : List ℕ) {lines : List (List ℕ)} (why : Refusal) {replies : List Reply}
    → IsReading line (Err why) → AreInPlace asks old lines replies new → AreInPlace asks old (line ∷ lines) (No why ∷ replies) new
in_place_refusal line why {replies} reading p = record {
  reads = Err why ∷ p.reads;
  readings = (reading, p.readings);
  given = p.given;
  asked = p.asked;
  placed = ap (λ rs. No why ∷ rs) p.placed;
  read_whole = λ none. All-cons IsRead (Err why) p.reads (λ e. All-head IsGiven (No why) replies none (cc))
      (p.read_whole (All-tail IsGiven (No why) replies none));
  given_whole = λ none. p.given_whole (All-tail IsGiven (No why) replies none);
}

in_place_line : {D : Type 0} {asks : Asking D} {old mid new : D} (line : List ℕ) {lines : List (List ℕ)} (read : Result Request Refusal) (reply : Reply) {replies : List Reply}
    → IsReading line read → AnswersRead asks old read reply mid → AreInPlace asks mid lines replies new → AreInPlace asks old (line ∷ lines) (reply ∷ replies) new
in_place_line line (Ok request) reply reading answered p = in_place_request line request reply reading answered p
in_place_line {asks = asks} {old} {new = new} line {lines} (Err why) reply {replies} reading answered p =
    subst (λ r. AreInPlace asks old (line ∷ lines) (r ∷ replies) new) (sym answered.0)
    (in_place_refusal line why reading (subst (λ d. AreInPlace asks d lines replies new) answered.1 p))

pub run_in_place : {D : Type 0} (asks : Asking D) (old new : D) (lines : List (List ℕ)) (replies : List Reply) → Run asks old lines replies new → AreInPlace asks old lines replies new
run_in_place asks old new [] [] run = in_place_none run
run_in_place asks old new [] (reply ∷ replies) run = absurd run
run_in_place asks old new (line ∷ lines) [] run = absurd run
run_in_place asks old new (line ∷ lines) (reply ∷ replies) (mid, answered, run) =
    in_place_line line answered.read reply answered.reading answered.answered (run_in_place asks mid new lines replies run)
