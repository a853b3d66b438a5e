-- A look that is refused.
use Rattle.std.proofs.Common.{◌≡◌, ℕ, List, Option, Result, Ok, Err, IfOk, inl, inr, refl, sym, ap, ◌∙◌, subst}
use Rattle.hub_requests.specs.Texts.{text_of}
use Rattle.hub_requests.specs.declared.request.Request.{Request}
use Rattle.hub_requests.specs.declared.reply.Refusal.{Refusal}
use Rattle.hub_requests.specs.declared.reply.Reply.{Reply}
use Rattle.hub_requests.specs.declared.reply.Reply.TheVariants as reply
use Rattle.hub_protocol.specs.Replies.{IsOfHub, IsShown}
use Rattle.hub_protocol.specs.Spelling.{form_of, spelling}
use Rattle.hub_protocol.specs.declared.replies.BorrowedReply.TheVariants as shown
use Rattle.hub_ask.specs.Asking.{IsAnswered}
use Rattle.hub_ask.specs.Hearing.{line_of}
use Rattle.hub_ask.specs.declared.heard.Heard.{Heard}
use Rattle.hub_ask.proofs.Replied.{no_shown}
use Rattle.hub_look.specs.Looking.{LooksBy}
use Rattle.hub_ask.specs.Streams.{IsHeard, IsReplied, IsToldTo, Streams, note_of}
use Rattle.hub_look.specs.Tables.{IsFoundBy, IsLookedUp, IsRefused, reason_of}
use Rattle.hub_look.specs.declared.stop.Stop.{Stop}

-- a hub would refuse the line
pub refused_here : (sent had noted notes : Option (List ℕ)) (faults failed : Option ℕ) (asked : Request) (line name : List ℕ) (look : Result Request Refusal) (refusal : Refusal)
    → spelling (form_of asked) ≡ line → LooksBy line look → look ≡ Err refusal → IsToldTo noted notes faults failed (note_of name (reason_of refusal))
    → IsRefused (record { sent = sent; had = had; noted = noted; faults = faults }) (record { sent = sent; had = had; noted = notes; faults = failed }) asked name refusal
refused_here sent had noted notes faults failed asked line name look refusal spells looks is told = record {
  between = record { sent = sent; had = had; noted = noted; faults = faults };
  why = inr (refl, subst (LooksBy (spelling (form_of asked))) is (subst (λ it. LooksBy it look) (sym spells) looks));
  told = record { sent = refl; had = refl; noted = told };
}

-- the hub refused the look
pub refused_there : (sent sends had has noted notes : Option (List ℕ)) (faults failed : Option ℕ) (asked : Request) (name text : List ℕ) (refusal : Refusal)
    → IsAnswered sent sends had has (spelling (form_of asked)) text → IsShown text (shown.No refusal) → IsToldTo noted notes faults failed (note_of name (reason_of refusal))
    → IsRefused (record { sent = sent; had = had; noted = noted; faults = faults }) (record { sent = sends; had = has; noted = notes; faults = failed }) asked name refusal
refused_there sent sends had has noted notes faults failed asked name text refusal answered h told =
    let same = no_shown refusal h.reply h.shows in
    record {
      between = record { sent = sends; had = has; noted = noted; faults = faults };
      why = inl (record {
        of_hub = subst IsOfHub same h.of_hub;
        answered = subst (IsAnswered sent sends had has (spelling (form_of asked))) (h.spelled ∙ ap text_of same) answered;
        noted = refl;
        faults = refl;
      });
      told = record { sent = refl; had = refl; noted = told };
    }

-- ---- the look that was sent is spelled as the one that was asked for

same_line : (asked sent : Request) (line : List ℕ) → spelling (form_of asked) ≡ line → LooksBy line (Ok sent) → spelling (form_of sent) ≡ spelling (form_of asked)
same_line asked sent line spells looks = sym looks.0.form.spelled ∙ sym spells

heard_as : (before after : Streams) (asked sent : Request) (text : List ℕ) → spelling (form_of sent) ≡ spelling (form_of asked) → IsHeard before after sent text → IsHeard before after asked text
heard_as before after asked sent text same h = record {
  answered = subst (λ it. IsAnswered before.sent after.sent before.had after.had it text) same h.answered;
  noted = h.noted;
  faults = h.faults;
}

replied_as : (before after : Streams) (asked sent : Request) (it : Reply) → spelling (form_of sent) ≡ spelling (form_of asked) → IsReplied before after sent it → IsReplied before after asked it
replied_as before after asked sent it same h = record {
  of_hub = h.of_hub;
  answered = subst (λ line. IsAnswered before.sent after.sent before.had after.had line (text_of it)) same h.answered;
  noted = h.noted;
  faults = h.faults;
}

refused_as : (before after : Streams) (asked sent : Request) (name : List ℕ) (refusal : Refusal) → spelling (form_of sent) ≡ spelling (form_of asked) → IsRefused before after sent name refusal
    → IsRefused before after asked name refusal
refused_as before after asked sent name refusal same h = record {
  between = h.between;
  why = elim h.why [
    | inl replied ↦ inl (replied_as before h.between asked sent (reply.No refusal) same replied)
    | inr here ↦ inr (here.0, subst (λ line. LooksBy line (Err refusal)) same here.1)
  ];
  told = h.told;
}

-- what was found by the line of a look
pub looked_up_by : (before after : Streams) (asked : Request) (line name : List ℕ) (found : Result Heard Refusal) → IsFoundBy before after line name found → spelling (form_of asked) ≡ line
    → IsLookedUp before after asked name found
looked_up_by before after asked line name (Ok heard) h spells = heard_as before after asked h.asked (line_of heard) (same_line asked h.asked line spells h.spelled) h.answered
looked_up_by before after asked line name (Err refusal) h spells = h asked spells

found_by : (before after : Streams) (sent : Request) (line name : List ℕ) (found : Result Heard Refusal) → LooksBy line (Ok sent) → IsLookedUp before after sent name found
    → IsFoundBy before after line name found
found_by before after sent line name (Ok heard) looks h = record { asked = sent; spelled = looks; answered = h }
found_by before after sent line name (Err refusal) looks h = λ asked spells. refused_as before after asked sent name refusal (same_line asked sent line spells looks) h

-- what was found by the look that was sent
pub found_so : (before after : Streams) (sent : Request) (line name : List ℕ) (look : Result Request Refusal) (result : Result (Result Heard Refusal) Stop)
    → LooksBy line look → look ≡ Ok sent → IfOk result (IsLookedUp before after sent name) → IfOk result (IsFoundBy before after line name)
found_so before after sent line name look (Ok found) looks is h = found_by before after sent line name found (subst (LooksBy line) is looks) h
found_so before after sent line name look (Err stop) looks is h = tt
