-- Lines that were answered, and replies that were written in batches.
use Rattle.std.proofs.Common.{◌≡◌, ℕ, List, [], ◌∷◌, ◌++◌, take, drop, flat_map, Option, Result, Ok, Err, OnOk, OnErr, refl, sym, ap, ◌∙◌, subst, append_assoc, append-nil, take-append-drop, arith}
use Rattle.std.specs.Io.KnownBytes.{Appends}
use Rattle.std.proofs.KnownBytes.{Appends-nil, Appends-trans}
use Rattle.std.proofs.lemmas.Grind.{flat_map-append}
use Rattle.std.proofs.lemmas.List.{length-drop}
use Rattle.hub_requests.specs.declared.reply.Reply.{Reply}
use Rattle.hub_requests.specs.Texts.{text_of}
use Rattle.hub_io.specs.Faults.{AppendsPart}
use Rattle.hub_front.specs.Serving.{Asking, AnswersLine, Served}
use Rattle.hub_front.proofs.Runs.{run_then}
use Rattle.hub_gather.specs.Gathering.{Loses}
use Rattle.hub_gather.specs.Passing.{Gathers, Sends}

pub OnErr-from : {T E P Q : Type 0} (r : Result T E) → (P → Q) → OnErr r P → OnErr r Q
OnErr-from (Ok x) f p = tt
OnErr-from (Err e) f p = f p

pub OnOk-from : {T E P Q : Type 0} (r : Result T E) → (P → Q) → OnOk r P → OnOk r Q
OnOk-from (Ok x) f p = f p
OnOk-from (Err e) f p = tt

-- texts that were held and written, and then more of them
joined : (held mid holds sent1 sent2 : List ℕ) (r1 r2 : List Reply) → held ++ flat_map text_of r1 ≡ sent1 ++ mid → mid ++ flat_map text_of r2 ≡ sent2 ++ holds
    → held ++ flat_map text_of (r1 ++ r2) ≡ (sent1 ++ sent2) ++ holds
joined held mid holds sent1 sent2 r1 r2 p q =
    ap (λ l. held ++ l) (flat_map-append text_of r1 r2)
    ∙ sym (append_assoc held (flat_map text_of r1) (flat_map text_of r2))
    ∙ ap (λ l. l ++ flat_map text_of r2) p
    ∙ append_assoc sent1 mid (flat_map text_of r2)
    ∙ ap (λ l. sent1 ++ l) q
    ∙ sym (append_assoc sent1 sent2 holds)

pub gathers_none : {D : Type 0} (asks : Asking D) (old : D) (held : List ℕ) (had : Option (List ℕ)) → Gathers asks old [] held had had held old
gathers_none asks old held had = record { replies = []; run = refl; sent = []; written = Appends-nil had; texts = append-nil held }

-- a line was answered after a part of what is held was written
pub gathers_one : {D : Type 0} {asks : Asking D} {old new : D} {line : List ℕ} {had has : Option (List ℕ)} (held mid holds : List ℕ) (reply : Reply)
    → Sends held had has mid → AnswersLine asks old line reply new → holds ≡ mid ++ text_of reply → Gathers asks old (line ∷ []) held had has holds new
gathers_one {new = new} held mid holds reply s answered next = record {
  replies = reply ∷ [];
  run = (new, answered, refl);
  sent = s.sent;
  written = s.written;
  texts = ap (λ l. held ++ l) (append-nil (text_of reply)) ∙ ap (λ l. l ++ text_of reply) s.whole ∙ append_assoc s.sent mid (text_of reply) ∙ ap (λ l. s.sent ++ l) (sym next);
}

pub gathers_then : {D : Type 0} {asks : Asking D} {old mid new : D} {l1 l2 : List (List ℕ)} {had between has : Option (List ℕ)} {held holding holds : List ℕ}
    → Gathers asks old l1 held had between holding mid → Gathers asks mid l2 holding between has holds new → Gathers asks old (l1 ++ l2) held had has holds new
gathers_then {asks} {old} {mid} {new} {l1} {l2} {had} {between} {has} {held} {holding} {holds} p q = record {
  replies = p.replies ++ q.replies;
  run = run_then asks old mid new l1 l2 p.replies q.replies p.run q.run;
  sent = p.sent ++ q.sent;
  written = Appends-trans had between has p.sent q.sent p.written q.written;
  texts = joined held holding holds p.sent q.sent p.replies q.replies p.texts q.texts;
}

pub gathers_same : {D : Type 0} {asks : Asking D} {old new : D} {lines lines' : List (List ℕ)} {had has : Option (List ℕ)} {held holds : List ℕ} → lines ≡ lines'
    → Gathers asks old lines held had has holds new → Gathers asks old lines' held had has holds new
gathers_same {asks} {old} {new} {had = had} {has} {held} {holds} e s = subst (λ ls. Gathers asks old ls held had has holds new) e s

-- all replies are written
pub served_of : {D : Type 0} {asks : Asking D} {old new : D} {lines : List (List ℕ)} {had between has : Option (List ℕ)} {holds : List ℕ}
    → Gathers asks old lines [] had between holds new → Appends between has holds → Served asks old lines had has new
served_of {had = had} {between} {has} {holds} g rest = record {
  replies = g.replies;
  run = g.run;
  written = subst (Appends had has) (sym g.texts) (Appends-trans had between has g.sent holds g.written rest);
}

gathers_of_served : {D : Type 0} {asks : Asking D} {old new : D} {lines : List (List ℕ)} {had has : Option (List ℕ)} → Served asks old lines had has new → Gathers asks old lines [] had has [] new
gathers_of_served s = record { replies = s.replies; run = s.run; sent = flat_map text_of s.replies; written = s.written; texts = sym (append-nil (flat_map text_of s.replies)) }

-- ---- a write failed

-- a part of what is held was written
pub loses_at : {D : Type 0} {asks : Asking D} {old : D} {had has : Option (List ℕ)} (held : List ℕ) → AppendsPart had has held → Loses asks old [] held had has old
loses_at held p = record {
  front = [];
  after = [];
  among = refl;
  replies = [];
  run = refl;
  sent = take p.count held;
  written = p.written;
  lost = drop p.count held;
  some = omega (arith, p.part, length-drop p.count held);
  texts = append-nil held ∙ sym (take-append-drop p.count held);
}

pub loses_then : {D : Type 0} {asks : Asking D} {old mid new : D} {l1 l2 : List (List ℕ)} {had between has : Option (List ℕ)} {held holding : List ℕ}
    → Gathers asks old l1 held had between holding mid → Loses asks mid l2 holding between has new → Loses asks old (l1 ++ l2) held had has new
loses_then {asks} {old} {mid} {new} {l1} {l2} {had} {between} {has} {held} {holding} p q = record {
  front = l1 ++ q.front;
  after = q.after;
  among = ap (λ l. l1 ++ l) q.among ∙ sym (append_assoc l1 q.front q.after);
  replies = p.replies ++ q.replies;
  run = run_then asks old mid new l1 q.front p.replies q.replies p.run q.run;
  sent = p.sent ++ q.sent;
  written = Appends-trans had between has p.sent q.sent p.written q.written;
  lost = q.lost;
  some = q.some;
  texts = joined held holding q.lost p.sent q.sent p.replies q.replies p.texts q.texts;
}

pub loses_within : {D : Type 0} {asks : Asking D} {old new : D} {l1 : List (List ℕ)} (l2 : List (List ℕ)) {had has : Option (List ℕ)} {held : List ℕ}
    → Loses asks old l1 held had has new → Loses asks old (l1 ++ l2) held had has new
loses_within l2 b = record {
  front = b.front;
  after = b.after ++ l2;
  among = ap (λ l. l ++ l2) b.among ∙ append_assoc b.front b.after l2;
  replies = b.replies;
  run = b.run;
  sent = b.sent;
  written = b.written;
  lost = b.lost;
  some = b.some;
  texts = b.texts;
}

pub loses_same : {D : Type 0} {asks : Asking D} {old new : D} {lines lines' : List (List ℕ)} {had has : Option (List ℕ)} {held : List ℕ} → lines ≡ lines'
    → Loses asks old lines held had has new → Loses asks old lines' held had has new
loses_same {asks} {old} {new} {had = had} {has} {held} e b = subst (λ ls. Loses asks old ls held had has new) e b

-- after lines were answered, all of them, a write failed
pub loses_after : {D : Type 0} {asks : Asking D} {old new : D} {lines : List (List ℕ)} {had between has : Option (List ℕ)} {held holds : List ℕ}
    → Gathers asks old lines held had between holds new → AppendsPart between has holds → Loses asks old lines held had has new
loses_after {lines = lines} {holds = holds} g part = loses_same (append-nil lines) (loses_then g (loses_at holds part))

pub loses_served : {D : Type 0} {asks : Asking D} {old mid new : D} {l1 l2 : List (List ℕ)} {had between has : Option (List ℕ)}
    → Served asks old l1 had between mid → Loses asks mid l2 [] between has new → Loses asks old (l1 ++ l2) [] had has new
loses_served s b = loses_then (gathers_of_served s) b

-- ---- what is held is named otherwise

pub gathers_from : {D : Type 0} {asks : Asking D} {old new : D} {lines : List (List ℕ)} {had has : Option (List ℕ)} {held held' holds : List ℕ} → held ≡ held'
    → Gathers asks old lines held had has holds new → Gathers asks old lines held' had has holds new
gathers_from {asks} {old} {new} {lines} {had} {has} {holds = holds} e g = subst (λ h. Gathers asks old lines h had has holds new) e g

pub gathers_to : {D : Type 0} {asks : Asking D} {old new : D} {lines : List (List ℕ)} {had has : Option (List ℕ)} {held holds holds' : List ℕ} → holds ≡ holds'
    → Gathers asks old lines held had has holds new → Gathers asks old lines held had has holds' new
gathers_to {asks} {old} {new} {lines} {had} {has} {held} e g = subst (λ h. Gathers asks old lines held had has h new) e g

pub loses_from : {D : Type 0} {asks : Asking D} {old new : D} {lines : List (List ℕ)} {had has : Option (List ℕ)} {held held' : List ℕ} → held ≡ held'
    → Loses asks old lines held had has new → Loses asks old lines held' had has new
loses_from {asks} {old} {new} {lines} {had} {has} e b = subst (λ h. Loses asks old lines h had has new) e b
