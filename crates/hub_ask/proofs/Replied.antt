-- The reply to a request, by what is shown of it.
use Rattle.std.proofs.Common.{◌≡◌, ℕ, List, Option, sym, ap, ◌∙◌, subst, refl}
use Rattle.hub_requests.specs.Texts.{text_of}
use Rattle.hub_requests.specs.declared.request.Request.{Request}
use Rattle.hub_requests.specs.declared.reply.Refusal.{Refusal}
use Rattle.hub_requests.specs.declared.reply.Reply.{Reply}
use Rattle.hub_requests.specs.declared.reply.Reply.TheVariants as reply
use Rattle.hub_protocol.specs.Replies.{IsOfHub, IsShown, Shows}
use Rattle.hub_protocol.specs.Spelling.{form_of, spelling}
use Rattle.hub_protocol.specs.declared.replies.BorrowedReply.{BorrowedReply}
use Rattle.hub_protocol.specs.declared.replies.BorrowedReply.TheVariants as shown
use Rattle.hub_ask.specs.Asking.{IsAnswered}
use Rattle.hub_ask.specs.Streams.{IsReplied}

-- a refusal is shown only of a refusal
pub no_shown : (refusal : Refusal) (it : Reply) → Shows (shown.No refusal) it → it ≡ reply.No refusal
no_shown refusal (reply.No other) same = ap reply.No (sym same)
no_shown refusal it h = absurd h

-- the reply to a request, by what was shown of it
pub replied_by : (sent sends had has noted : Option (List ℕ)) (faults : Option ℕ) (asked : Request) (text : List ℕ) (read : BorrowedReply) (it : Reply) (h : IsShown text read)
    → h.reply ≡ it → IsAnswered sent sends had has (spelling (form_of asked)) text
    → IsReplied (record { sent = sent; had = had; noted = noted; faults = faults }) (record { sent = sends; had = has; noted = noted; faults = faults }) asked it
replied_by sent sends had has noted faults asked text read it h same answered = record {
  of_hub = subst IsOfHub same h.of_hub;
  answered = subst (IsAnswered sent sends had has (spelling (form_of asked))) (h.spelled ∙ ap text_of same) answered;
  noted = refl;
  faults = refl;
}
