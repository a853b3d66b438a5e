-- The lines of a setup, one after another.
use Rattle.std.proofs.Common.{◌≡◌, ℕ, ◌+◌, ◌≤◌, true, false, cond, inl, inr, List, [], ◌∷◌, ◌++◌, length, take, Option, None, Some, IfSome, Result, Ok, Err, IsErrAnd, refl, sym, ap, ◌∙◌, subst, append_assoc, arith}
use Rattle.std.specs.Option.{option_map}
use Rattle.std.proofs.lemmas.List.{take_all, length-take-le}
use Rattle.std.proofs.lemmas.List.Elements.{All-nil, All-cons, All-append, filter-append}
use Rattle.hub_front.specs.Serving.{Asking, AnswersLine, Run}
use Rattle.hub_front.proofs.Cuts.{short_or_long}
use Rattle.hub_front.proofs.Runs.{run_then}
use Rattle.hub_io.specs.Lines.{has_lf, BeginsWith, last_line, lines_of}
use Rattle.hub_io.proofs.Lines.{lines-line, lines-part}
use Rattle.hub_protocol.specs.Reading.{IsReading}
use Rattle.hub_requests.specs.declared.request.Request.{Request}
use Rattle.hub_requests.specs.declared.reply.Reply.{Reply}
use Rattle.hub_requests.specs.declared.reply.Reply.TheVariants.{No}
use Rattle.hub_requests.specs.declared.reply.Refusal.{Refusal}
use Rattle.hub_serving.specs.Setup.{asks_something, asking_of, IsNoRefusal, AreCarriedOut, IsRefusedAt, SetsUp, setup_fault, IsSetUp}
use Rattle.hub_endings.specs.declared.fault.Fault.{Fault}
use Rattle.hub_endings.specs.declared.fault.Fault.TheVariants.{SetupLine}
use Rattle.hub_endings.specs.declared.refused_line.RefusedLine.{RefusedLine}

-- ---- the text

-- what a reader has up to a limit is all of it, if it is shorter
pub all_read : (known : Option (List ℕ)) (limit most : ℕ) (old new : List ℕ) → limit ≡ most + 1 → old ≡ [] → length new ≤ most → IfSome (option_map (take limit) known) (λ xs. new ≡ old ++ xs)
    → IfSome known (λ bytes. new ≡ bytes)
all_read None limit most old new above empty few e = tt
all_read (Some bytes) limit most old new above empty few e =
    let cut : new ≡ take limit bytes = e ∙ ap (λ l. l ++ take limit bytes) empty in
    elim (short_or_long (length bytes) limit) [
      | inl h ↦ cut ∙ take_all limit bytes (omega arith)
      | inr h ↦
          let size : length (take limit bytes) ≡ limit = length-take-le limit bytes h in
          absurd (omega (arith, ap length cut))
    ]

-- ---- one line

pub none_asked : {D : Type 0} (asks : Asking D) (old : D) → AreCarriedOut asks old [] old
none_asked asks old = record { replies = []; run = refl; accepted = All-nil IsNoRefusal }

pub passed_over : {D : Type 0} (asks : Asking D) (old : D) (line : List ℕ) → asks_something line ≡ false → AreCarriedOut asks old (line ∷ []) old
passed_over asks old line e = record {
  replies = [];
  run = subst (λ t. Run asks old (cond t (line ∷ []) []) [] old) (sym e) refl;
  accepted = All-nil IsNoRefusal;
}

-- a reply that isn't `no` is no refusal
pub no_refusal : (reply : Reply) → ((refusal : Refusal) → reply ≡ No refusal → ⊥) → IsNoRefusal reply
no_refusal (No refusal) other = other refusal refl
no_refusal reply other = tt

pub accepted : {D : Type 0} (asks : Asking D) (old new : D) (line : List ℕ) (request : Request) (reply : Reply) → asks_something line ≡ true → IsReading line (Ok request) → asks old request reply new
    → IsNoRefusal reply → AreCarriedOut asks old (line ∷ []) new
accepted asks old new line request reply e reading answered kind = record {
  replies = reply ∷ [];
  run = subst (λ t. Run asks old (cond t (line ∷ []) []) (reply ∷ []) new) (sym e) (new, record { read = Ok request; reading = reading; answered = answered }, refl);
  accepted = All-cons IsNoRefusal reply [] kind (All-nil IsNoRefusal);
}

-- ---- lines, and more of them

pub asked_then : {D : Type 0} {asks : Asking D} {old mid new : D} {l1 l2 : List (List ℕ)} → AreCarriedOut asks old l1 mid → AreCarriedOut asks mid l2 new → AreCarriedOut asks old (l1 ++ l2) new
asked_then {asks = asks} {old} {mid} {new} {l1} {l2} p q = record {
  replies = p.replies ++ q.replies;
  run = subst (λ ls. Run asks old ls (p.replies ++ q.replies) new) (sym (filter-append asks_something l1 l2))
      (run_then asks old mid new (asking_of l1) (asking_of l2) p.replies q.replies p.run q.run);
  accepted = All-append IsNoRefusal p.replies q.replies p.accepted q.accepted;
}

-- what is left begins with a line
pub begins_left : (all done : List (List ℕ)) (left line rest : List ℕ) → all ≡ done ++ lines_of left → BeginsWith left line rest → all ≡ done ++ line ∷ lines_of rest
begins_left all done left line rest e f = e ∙ ap (λ it. done ++ lines_of it) f.whole ∙ ap (λ ls. done ++ ls) (lines-line line rest f.cut)

pub one_more : (all done : List (List ℕ)) (left line rest : List ℕ) → all ≡ done ++ lines_of left → BeginsWith left line rest → all ≡ (done ++ line ∷ []) ++ lines_of rest
one_more all done left line rest e f = begins_left all done left line rest e f ∙ sym (append_assoc done (line ∷ []) (lines_of rest))

pub refused_among : {D : Type 0} {asks : Asking D} {old mid new : D} (all done : List (List ℕ)) (line : List ℕ) (after : List (List ℕ)) (number : ℕ) (refusal : Refusal) → all ≡ done ++ line ∷ after
    → number ≡ length done + 1 → AreCarriedOut asks old done mid → asks_something line ≡ true → AnswersLine asks mid line (No refusal) new
    → IsRefusedAt asks old all (record { number = number; refusal = refusal }) new
refused_among {mid = mid} all done line after number refusal among counted before asking refused = record {
  front = done;
  line = line;
  after = after;
  among = among;
  number = counted;
  asking = asking;
  mid = mid;
  before = before;
  refused = refused;
}

-- ---- what is left has no LF

-- an empty rest is no line, and would ask for nothing
last_asked : {D : Type 0} {asks : Asking D} {mid new : D} (left : List ℕ) → AreCarriedOut asks mid (left ∷ []) new → AreCarriedOut asks mid (last_line left) new
last_asked [] p = record { replies = p.replies; run = p.run; accepted = p.accepted }
last_asked (b ∷ bs) p = p

last_asks : (left : List ℕ) → asks_something left ≡ true → last_line left ≡ left ∷ []
last_asks [] e = cc
last_asks (b ∷ bs) e = refl

pub all_asked : {D : Type 0} {asks : Asking D} {old mid new : D} (all done : List (List ℕ)) (left : List ℕ) → all ≡ done ++ lines_of left → has_lf left ≡ false
    → AreCarriedOut asks old done mid → AreCarriedOut asks mid (left ∷ []) new → AreCarriedOut asks old all new
all_asked {asks = asks} {old} {new = new} all done left e none p q =
    subst (λ ls. AreCarriedOut asks old ls new) (sym (e ∙ ap (λ ls. done ++ ls) (lines-part left none))) (asked_then p (last_asked left q))

pub refused_last : {D : Type 0} {asks : Asking D} {old mid new : D} (all done : List (List ℕ)) (left : List ℕ) (number : ℕ) (refusal : Refusal) → all ≡ done ++ lines_of left → has_lf left ≡ false
    → number ≡ length done + 1 → AreCarriedOut asks old done mid → asks_something left ≡ true → AnswersLine asks mid left (No refusal) new
    → IsRefusedAt asks old all (record { number = number; refusal = refusal }) new
refused_last all done left number refusal e none counted before asking refused =
    refused_among all done left [] number refusal (e ∙ ap (λ ls. done ++ ls) (lines-part left none ∙ last_asks left asking)) counted before asking refused

-- ---- a session

pub all_done : {D : Type 0} (begins : D → Type 0) (asks : Asking D) (ends : D → D → Type 0) (old new : D) (text : List ℕ) (done : Result (Unit {0}) RefusedLine) (it : Unit {0}) → begins old
    → SetsUp asks ends old (lines_of text) new done → done ≡ Ok it → IsSetUp begins asks ends (lines_of text) (Ok it)
all_done begins asks ends old new text done it begun sets is = inr (old, new, done, begun, sets, ap setup_fault (sym is))

pub one_refused : {D : Type 0} (begins : D → Type 0) (asks : Asking D) (ends : D → D → Type 0) (old new : D) (text : List ℕ) (done : Result (Unit {0}) RefusedLine) (at : RefusedLine) (told : Result (Unit {0}) Fault)
    → begins old → SetsUp asks ends old (lines_of text) new done → done ≡ Err at → IsErrAnd told (λ error. error ≡ SetupLine at) → IsSetUp begins asks ends (lines_of text) told
one_refused begins asks ends old new text done at (Ok it) begun sets is error = absurd error
one_refused begins asks ends old new text done at (Err fault) begun sets is error =
    inr (old, new, done, begun, sets, ap Err error ∙ ap setup_fault (sym is))
