-- Runs over lines, and what they write.
use Rattle.std.proofs.Common.{◌≡◌, ℕ, List, [], ◌∷◌, ◌++◌, Option, refl, sym, ap, ◌∙◌, subst, append_assoc, append-nil}
use Rattle.std.specs.Io.KnownBytes.{Appends}
use Rattle.std.proofs.KnownBytes.{Appends-nil, Appends-trans}
use Rattle.std.proofs.lemmas.Grind.{flat_map-append}
use Rattle.hub_requests.specs.declared.reply.Reply.{Reply}
use Rattle.hub_requests.specs.Texts.{text_of}
use Rattle.hub_io.specs.Faults.{AppendsPart}
use Rattle.hub_front.specs.Serving.{Asking, AnswersLine, Run, Served, BreaksOff}

-- one run after another
pub run_then : {D : Type 0} (asks : Asking D) (old mid new : D) (l1 l2 : List (List ℕ)) (r1 r2 : List Reply)
    → Run asks old l1 r1 mid → Run asks mid l2 r2 new → Run asks old (l1 ++ l2) (r1 ++ r2) new
run_then asks old mid new [] l2 [] r2 p q = subst (λ d. Run asks d l2 r2 new) p q
run_then asks old mid new [] l2 (r ∷ r1) r2 p q = absurd p
run_then asks old mid new (l ∷ l1) l2 [] r2 p q = absurd p
run_then asks old mid new (l ∷ l1) l2 (r ∷ r1) r2 p q = (p.0, p.1, run_then asks p.0 mid new l1 l2 r1 r2 p.2 q)

-- no line is served by doing nothing
pub served_none : {D : Type 0} (asks : Asking D) (old : D) (held : Option (List ℕ)) → Served asks old [] held held old
served_none asks old held = record { replies = []; run = refl; written = Appends-nil held }

-- one line served
pub served_one : {D : Type 0} {asks : Asking D} {old new : D} {line : List ℕ} {held holds : Option (List ℕ)} (reply : Reply)
    → AnswersLine asks old line reply new → Appends held holds (text_of reply) → Served asks old (line ∷ []) held holds new
served_one {asks} {old} {new} {line} {held} {holds} reply answered appended = record {
  replies = reply ∷ [];
  run = (new, answered, refl);
  written = subst (Appends held holds) (sym (append-nil (text_of reply))) appended;
}

pub answers_same : {D : Type 0} {asks : Asking D} {old new : D} {line line' : List ℕ} {reply : Reply} → line ≡ line' → AnswersLine asks old line reply new → AnswersLine asks old line' reply new
answers_same {asks} {old} {new} {reply = reply} e a = subst (λ l. AnswersLine asks old l reply new) e a

pub served_same : {D : Type 0} {asks : Asking D} {old new : D} {lines lines' : List (List ℕ)} {held holds : Option (List ℕ)} → lines ≡ lines'
    → Served asks old lines held holds new → Served asks old lines' held holds new
served_same {asks} {old} {new} {held = held} {holds} e s = subst (λ ls. Served asks old ls held holds new) e s

pub breaks_same : {D : Type 0} {asks : Asking D} {old new : D} {lines lines' : List (List ℕ)} {held holds : Option (List ℕ)} → lines ≡ lines'
    → BreaksOff asks old lines held holds new → BreaksOff asks old lines' held holds new
breaks_same {asks} {old} {new} {held = held} {holds} e b = subst (λ ls. BreaksOff asks old ls held holds new) e b

-- lines served, and then more of them
pub served_then : {D : Type 0} {asks : Asking D} {old mid new : D} {l1 l2 : List (List ℕ)} {held between holds : Option (List ℕ)}
    → Served asks old l1 held between mid → Served asks mid l2 between holds new → Served asks old (l1 ++ l2) held holds new
served_then {asks} {old} {mid} {new} {l1} {l2} {held} {between} {holds} p q = record {
  replies = p.replies ++ q.replies;
  run = run_then asks old mid new l1 l2 p.replies q.replies p.run q.run;
  written = subst (Appends held holds) (sym (flat_map-append text_of p.replies q.replies)) (Appends-trans held between holds _ _ p.written q.written);
}

-- the first line was answered, but its reply wasn't written whole
pub breaks_at_once : {D : Type 0} {asks : Asking D} {old new : D} {line : List ℕ} {held holds : Option (List ℕ)} (reply : Reply)
    → AnswersLine asks old line reply new → AppendsPart held holds (text_of reply) → BreaksOff asks old (line ∷ []) held holds new
breaks_at_once {asks} {old} {new} {line} {held} {holds} reply answered part = record {
  front = [];
  line = line;
  after = [];
  among = refl;
  mid = old;
  between = held;
  served = served_none asks old held;
  reply = reply;
  answered = answered;
  written = part;
}

-- a fault among lines is one among more of them: those that were served before, and those behind
breaks_inside : {D : Type 0} {asks : Asking D} {old mid new : D} {l1 l2 : List (List ℕ)} (l3 : List (List ℕ)) {held between holds : Option (List ℕ)}
    → Served asks old l1 held between mid → BreaksOff asks mid l2 between holds new → BreaksOff asks old (l1 ++ (l2 ++ l3)) held holds new
breaks_inside {l1 = l1} l3 p b = record {
  front = l1 ++ b.front;
  line = b.line;
  after = b.after ++ l3;
  among = ap (λ l. l1 ++ (l ++ l3)) b.among ∙ ap (λ l. l1 ++ l) (append_assoc b.front (b.line ∷ b.after) l3) ∙ sym (append_assoc l1 b.front (b.line ∷ (b.after ++ l3)));
  mid = b.mid;
  between = b.between;
  served = served_then p b.served;
  reply = b.reply;
  answered = b.answered;
  written = b.written;
}

-- lines served, and then a fault among the next
pub breaks_then : {D : Type 0} {asks : Asking D} {old mid new : D} {l1 l2 : List (List ℕ)} {held between holds : Option (List ℕ)}
    → Served asks old l1 held between mid → BreaksOff asks mid l2 between holds new → BreaksOff asks old (l1 ++ l2) held holds new
breaks_then {l1 = l1} {l2} p b = breaks_same (ap (λ l. l1 ++ l) (append-nil l2)) (breaks_inside [] p b)

-- a fault among the lines is one among more of them
pub breaks_within : {D : Type 0} {asks : Asking D} {old new : D} {l1 : List (List ℕ)} (l2 : List (List ℕ)) {held holds : Option (List ℕ)}
    → BreaksOff asks old l1 held holds new → BreaksOff asks old (l1 ++ l2) held holds new
breaks_within {asks = asks} {old} l2 {held} b = breaks_inside l2 (served_none asks old held) b
