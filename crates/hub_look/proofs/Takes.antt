-- What a reply makes of a fifodir that is followed.
use Rattle.std.proofs.Common.{◌≡◌, ◌≢◌, ℕ, List, Bool, IsErrAnd, true, false, if◌then◌else◌, Option, None, Some, MatchOption, MatchResult, Result, Ok, Err, OnOk, IfErr, length, refl, sym, ap, ◌∙◌, subst, codes, Bor}
use Rattle.std.specs.Io.KnownBytes.{Appends}
use Rattle.hub_requests.specs.declared.request.Request.TheVariants as request
use Rattle.hub_requests.specs.declared.reply.Refusal.{Refusal}
use Rattle.hub_requests.specs.declared.reply.Reply.{Reply}
use Rattle.hub_requests.specs.declared.reply.Reply.TheVariants as reply
use Rattle.hub_protocol.specs.Replies.{IsShown, Shows}
use Rattle.hub_protocol.specs.Spelling.{form_of, spelling}
use Rattle.hub_protocol.specs.declared.replies.BorrowedReply.{BorrowedReply}
use Rattle.hub_protocol.specs.declared.replies.BorrowedReply.TheVariants as shown
use Rattle.hub_client.specs.declared.fault.RelayError.TheVariants as relay
use Rattle.hub_ask.specs.Asking.{IsAnswered}
use Rattle.hub_ask.specs.declared.fault.AskError.{AskError}
use Rattle.hub_ask.specs.declared.fault.AskError.TheVariants.{Relay}
use Rattle.hub_look.specs.Stops.{IsOwnFault}
use Rattle.hub_ask.specs.declared.outcome.Outcome.TheVariants as outcome
use Rattle.hub_views.specs.EventLines.{IsTextOf, number_after}
use Rattle.hub_look.specs.Follows.{Manner, IsSettled, IsTaken, IsWrittenFor, EndsTake, FailsToWrite, GoesOn, StopsBy, ends_by, told_of, written_of}
use Rattle.hub_look.specs.Subscribing.{name_of}
use Rattle.hub_ask.specs.Streams.{IsNoted, IsToldTo, Streams, note_of}
use Rattle.hub_look.specs.Tables.{reason_of}
use Rattle.hub_look.specs.declared.stop.Stop.{Stop}
use Rattle.hub_look.specs.declared.stop.Stop.TheVariants as stops
use Rattle.hub_look.specs.declared.subscribing.Followed.{Followed}
use Rattle.hub_ask.proofs.Replied.{no_shown, replied_by}

abbrev streams_of : (sent had noted : Option (List ℕ)) (faults : Option ℕ) → Streams
streams_of sent had noted faults = record { sent = sent; had = had; noted = noted; faults = faults }

-- ---- which reply is shown

end_shown : (it : Reply) → Shows shown.End it → it ≡ reply.End
end_shown reply.End h = refl
end_shown it h = absurd h

evicted_shown : (it : Reply) → Shows shown.Evicted it → it ≡ reply.Evicted
evicted_shown reply.Evicted h = refl
evicted_shown it h = absurd h

got_shown : (letters : Bor (List ℕ)) (it : Reply) → Shows (shown.Got letters) it → it ≡ reply.Got letters.now
got_shown letters (reply.Got other) h = ap reply.Got (sym h)
got_shown letters it h = absurd h

hit_shown : (letters : Bor (List ℕ)) (it : Reply) → Shows (shown.Hit letters) it → it ≡ reply.Hit letters.now
hit_shown letters (reply.Hit other) h = ap reply.Hit (sym h)
hit_shown letters it h = absurd h

-- ---- what is told and written of it

-- some of the letters, or all, are written
pub settled_letters : {T : Type 0} (manner : Manner) (followed later : Followed) (noted held holds : Option (List ℕ)) (faults : Option ℕ) (letters : Bor (List ℕ)) (some : List ℕ) (result : Result T Stop) (it : Reply)
    → Shows (shown.Got letters) it → some ≡ written_of manner.is_once letters.now
    → OnOk result ((lines : List ℕ) × IsTextOf manner.is_hit manner.form (name_of followed) followed.next some lines × Appends held holds lines)
    → OnOk result (later ≡ record followed { next = number_after followed.next (length some) })
    → OnOk result (IsSettled manner followed later noted noted faults faults held holds it)
settled_letters manner followed later noted held holds faults letters some (Ok done) it shows are written moved =
    subst (IsSettled manner followed later noted noted faults faults held holds) (sym (got_shown letters it shows)) (record {
      told = (refl, refl);
      written = subst (λ it. (lines : List ℕ) × IsTextOf manner.is_hit manner.form (name_of followed) followed.next it lines × Appends held holds lines) are written;
      moved = moved ∙ ap (λ it. record followed { next = number_after followed.next (length it) }) are;
    })
settled_letters manner followed later noted held holds faults letters some (Err stop) it shows are written moved = tt

pub settled_hit : {T : Type 0} (manner : Manner) (followed later : Followed) (noted held holds : Option (List ℕ)) (faults : Option ℕ) (letters : Bor (List ℕ)) (result : Result T Stop) (it : Reply)
    → Shows (shown.Hit letters) it
    → OnOk result ((lines : List ℕ) × IsTextOf manner.is_hit manner.form (name_of followed) followed.next letters.now lines × Appends held holds lines)
    → OnOk result (later ≡ record followed { next = number_after followed.next (length letters.now) })
    → OnOk result (IsSettled manner followed later noted noted faults faults held holds it)
settled_hit manner followed later noted held holds faults letters (Ok done) it shows written moved =
    subst (IsSettled manner followed later noted noted faults faults held holds) (sym (hit_shown letters it shows)) (record { told = (refl, refl); written = written; moved = moved })
settled_hit manner followed later noted held holds faults letters (Err stop) it shows written moved = tt

pub settled_end : (manner : Manner) (followed : Followed) (noted held : Option (List ℕ)) (faults : Option ℕ) (it : Reply)
    → Shows shown.End it → IsSettled manner followed (record followed { is_over = true }) noted noted faults faults held held it
settled_end manner followed noted held faults it shows =
    subst (IsSettled manner followed (record followed { is_over = true }) noted noted faults faults held held) (sym (end_shown it shows)) (record { told = (refl, refl); written = refl; moved = refl })

pub settled_eviction : (manner : Manner) (followed : Followed) (noted notes held : Option (List ℕ)) (faults failed : Option ℕ) (name : List ℕ) (it : Reply)
    → Shows shown.Evicted it → name ≡ name_of followed → IsToldTo noted notes faults failed (note_of name (codes "evicted"))
    → IsSettled manner followed followed noted notes faults failed held held it
settled_eviction manner followed noted notes held faults failed name it shows is_name told =
    subst (IsSettled manner followed followed noted notes faults failed held held) (sym (evicted_shown it shows))
    (record { told = subst (λ n. IsToldTo noted notes faults failed (note_of n (codes "evicted"))) is_name told; written = refl; moved = refl })

pub settled_refusal : (manner : Manner) (followed : Followed) (noted notes held : Option (List ℕ)) (faults failed : Option ℕ) (name : List ℕ) (refusal : Refusal) (it : Reply)
    → Shows (shown.No refusal) it → name ≡ name_of followed → IsToldTo noted notes faults failed (note_of name (reason_of refusal))
    → IsSettled manner followed followed noted notes faults failed held held it
settled_refusal manner followed noted notes held faults failed name refusal it shows is_name told =
    subst (IsSettled manner followed followed noted notes faults failed held held) (sym (no_shown refusal it shows))
    (record { told = subst (λ n. IsToldTo noted notes faults failed (note_of n (reason_of refusal))) is_name told; written = refl; moved = refl })

-- ---- one request

told_so : (sends has noted notes : Option (List ℕ)) (faults failed : Option ℕ) (name : List ℕ) (reason : Option (List ℕ))
    → MatchOption reason ((notes ≡ noted) × (failed ≡ faults)) (λ reason. IsToldTo noted notes faults failed (note_of name reason))
    → MatchOption reason (streams_of sends has notes failed ≡ streams_of sends has noted faults) (λ reason. IsNoted (streams_of sends has noted faults) (streams_of sends has notes failed) (note_of name reason))
told_so sends has noted notes faults failed name None h = ap (λ it. streams_of sends has it failed) h.0 ∙ ap (streams_of sends has noted) h.1
told_so sends has noted notes faults failed name (Some reason) h = record { sent = refl; had = refl; noted = h }

-- the hub was asked once, and its reply is told and written
pub taken : (manner : Manner) (turns : ℕ) (sent sends had has noted notes held holds : Option (List ℕ)) (faults failed : Option ℕ) (followed later : Followed) (text : List ℕ) (read : BorrowedReply) (h : IsShown text read)
    → IsAnswered sent sends had has (spelling (form_of (request.Next followed.handle turns))) text
    → IsSettled manner followed later noted notes faults failed held holds h.reply
    → IsTaken manner turns followed later (streams_of sent had noted faults) (streams_of sends has notes failed) held holds h.reply
taken manner turns sent sends had has noted notes held holds faults failed followed later text read h answered settled = record {
  between = streams_of sends has noted faults;
  replied = replied_by sent sends had has noted faults (request.Next followed.handle turns) text read h.reply h refl answered;
  told = told_so sends has noted notes faults failed (name_of followed) (told_of h.reply) settled.told;
  written = settled.written;
  moved = settled.moved;
}

-- it goes on after it
pub goes_on : (manner : Manner) (turns : ℕ) (followed later : Followed) (before after : Streams) (held holds : Option (List ℕ)) (result : Result Bool Stop) (it : Reply)
    → MatchResult result (λ came. GoesOn manner.is_once it) (StopsBy manner.is_once it) → IsTaken manner turns followed later before after held holds it
    → OnOk result ((it : Reply) × IsTaken manner turns followed later before after held holds it × GoesOn manner.is_once it)
goes_on manner turns followed later before after held holds (Ok came) it goes h = (it, h, goes)
goes_on manner turns followed later before after held holds (Err stop) it goes h = tt

no_letters : (is_once : Bool) → (if is_once then Some outcome.Done else None) ≡ None → (is_once ≡ false → ⊥) → ⊥
no_letters true ends goes = absurd (cc)
no_letters false ends goes = goes refl

-- nothing is written of a reply that neither ends a follow nor lets it go on
unwritten : (manner : Manner) (followed : Followed) (it : Reply) (held holds : Option (List ℕ)) → IsWrittenFor manner followed it held holds
    → ends_by manner.is_once it ≡ None → (GoesOn manner.is_once it → ⊥) → holds ≡ held
unwritten manner followed (reply.Got letters) held holds written ends goes = absurd (no_letters manner.is_once ends goes)
unwritten manner followed (reply.Hit letters) held holds written ends goes = absurd (no_letters manner.is_once ends goes)
unwritten manner followed it held holds written ends goes = written

-- it ends there
pub ends_there : (manner : Manner) (turns : ℕ) (followed later : Followed) (before after : Streams) (held holds : Option (List ℕ)) (result : Result Bool Stop) (it : Reply)
    → MatchResult result (λ came. GoesOn manner.is_once it) (StopsBy manner.is_once it) → IsTaken manner turns followed later before after held holds it
    → IfErr result (EndsTake manner turns followed later before after held holds)
ends_there manner turns followed later before after held holds (Ok came) it by h = tt
ends_there manner turns followed later before after held holds (Err (stops.Reply went)) it by h = (it, h, by)
ends_there manner turns followed later before after held holds (Err (stops.Fault error)) it by h =
    subst (λ error. EndsTake manner turns followed later before after held holds (stops.Fault error)) (sym by.0) (unwritten manner followed it held holds h.written by.1 by.2)

-- ---- faults

pub fails_taking : (manner : Manner) (turns : ℕ) (followed later : Followed) (before after : Streams) (held holds : Option (List ℕ)) (stop : Stop)
    → FailsToWrite manner followed held holds stop → EndsTake manner turns followed later before after held holds stop
fails_taking manner turns followed later before after held holds (stops.Reply went) h = absurd h
fails_taking manner turns followed later before after held holds (stops.Fault (Relay relay.Output)) h = h
fails_taking manner turns followed later before after held holds (stops.Fault error) h = h

-- writing the letters failed
pub fails_so : {T : Type 0} (manner : Manner) (turns : ℕ) (followed later : Followed) (before after : Streams) (held holds : Option (List ℕ)) (result : Result T Stop) (stop : Stop)
    → IsErrAnd result (λ it. it ≡ stop) → FailsToWrite manner followed held holds stop → IfErr result (EndsTake manner turns followed later before after held holds)
fails_so manner turns followed later before after held holds (Ok it) stop is h = tt
fails_so manner turns followed later before after held holds (Err other) stop is h =
    fails_taking manner turns followed later before after held holds other (subst (FailsToWrite manner followed held holds) (sym is) h)

own_fault : (manner : Manner) (turns : ℕ) (followed later : Followed) (before after : Streams) (held : Option (List ℕ)) (error : AskError)
    → error ≢ Relay relay.Output → EndsTake manner turns followed later before after held held (stops.Fault error)
own_fault manner turns followed later before after held (Relay relay.Output) other = absurd (other refl)
own_fault manner turns followed later before after held error other = refl

-- asking failed
pub own_so : {T : Type 0} (manner : Manner) (turns : ℕ) (followed later : Followed) (before after : Streams) (held : Option (List ℕ)) (result : Result T Stop) (stop : Stop)
    → IsErrAnd result (λ it. it ≡ stop) → IsOwnFault stop → IfErr result (EndsTake manner turns followed later before after held held)
own_so manner turns followed later before after held (Ok it) stop is own = tt
own_so manner turns followed later before after held (Err other) stop is own =
    subst (EndsTake manner turns followed later before after held held) (sym (is ∙ own.1)) (own_fault manner turns followed later before after held own.0 own.2)
