-- What a reply to a request shows.
use Rattle.std.proofs.Common.{◌≡◌, ℕ, List, Option, refl, subst}
use Rattle.hub_ask.specs.Asking.{IsAnswered}
use Rattle.hub_ask.specs.Streams.{IsToldTo, note_of}
use Rattle.hub_ask.proofs.Replied.{no_shown, replied_by}
use Rattle.hub_protocol.specs.Replies.{IsShown, Shows}
use Rattle.hub_protocol.specs.Spelling.{form_of, spelling}
use Rattle.hub_protocol.specs.declared.replies.BorrowedReply.{BorrowedReply}
use Rattle.hub_protocol.specs.declared.replies.BorrowedReply.TheVariants as shown
use Rattle.hub_requests.specs.declared.request.Request.{Request}
use Rattle.hub_requests.specs.declared.reply.Reply.TheVariants as reply
use Rattle.hub_requests.specs.declared.reply.Refusal.{Refusal}
use Rattle.hub_commands.specs.Asked.{IsRefused}
use Rattle.hub_commands.specs.Notes.{reason_of}

-- it was refused, and that was noted
pub refused_by : (sent sends had has noted notes : Option (List ℕ)) (faults failed : Option ℕ) (asked : Request) (text name bytes : List ℕ) (read : BorrowedReply) (refusal : Refusal) (h : IsShown text read)
    → read ≡ shown.No refusal → IsAnswered sent sends had has (spelling (form_of asked)) text → bytes ≡ name → IsToldTo noted notes faults failed (note_of bytes (reason_of refusal))
    → IsRefused (record { sent = sent; had = had; noted = noted; faults = faults }) (record { sent = sends; had = has; noted = notes; faults = failed }) asked name refusal
refused_by sent sends had has noted notes faults failed asked text name bytes read refusal h is answered same told = record {
  between = record { sent = sends; had = has; noted = noted; faults = faults };
  replied = replied_by sent sends had has noted faults asked text read (reply.No refusal) h (no_shown refusal h.reply (subst (λ it. Shows it h.reply) is h.shows)) answered;
  told = record { sent = refl; had = refl; noted = subst (λ it. IsToldTo noted notes faults failed (note_of it (reason_of refusal))) same told };
}
