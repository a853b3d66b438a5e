-- A fifodir that was asked for, and what was there.
use Rattle.std.proofs.Common.{◌≡◌, ◌≢◌, ℕ, List, [], ◌∷◌, ◌++◌, Bool, Option, None, Result, Ok, Err, IfOk, IfErr, IsErrAnd, MatchBool, true, false, inl, inr, refl, sym, ap, ◌∙◌, subst}
use Rattle.std.proofs.KnownBytes.{Appends-nil, Consumes-nil}
use Rattle.hub_client.specs.declared.fault.RelayError.TheVariants as relay
use Rattle.hub_options.specs.declared.changing.Shape.{Shape}
use Rattle.hub_ask.specs.Asking.{FailsToAsk, IsAnswered}
use Rattle.hub_ask.specs.declared.fault.AskError.{AskError}
use Rattle.hub_ask.specs.declared.fault.AskError.TheVariants as ask
use Rattle.hub_ask.specs.declared.outcome.Outcome.{Outcome}
use Rattle.hub_ask.specs.declared.outcome.Outcome.TheVariants.{Done, Refused, Never, Late, Nothing}
use Rattle.hub_ask.specs.Streams.{IsToldTo, Streams, note_of}
use Rattle.hub_ask.proofs.Replied.{no_shown, replied_by}
use Rattle.hub_protocol.specs.Replies.{IsShown, Shows}
use Rattle.hub_protocol.specs.Spelling.{form_of, spelling}
use Rattle.hub_protocol.specs.declared.replies.BorrowedReply.{BorrowedReply}
use Rattle.hub_protocol.specs.declared.replies.BorrowedReply.TheVariants as shown
use Rattle.hub_requests.specs.declared.about.About.{About}
use Rattle.hub_requests.specs.declared.request.Request.{Request}
use Rattle.hub_requests.specs.declared.request.Request.TheVariants as request
use Rattle.hub_requests.specs.declared.reply.Reply.{Reply}
use Rattle.hub_requests.specs.declared.reply.Reply.TheVariants as reply
use Rattle.hub_requests.specs.declared.reply.Refusal.{Refusal}
use Rattle.hub_requests.specs.declared.reply.Refusal.TheVariants.{Exists}
use Rattle.hub_commands.specs.Asked.{FailsOnce}
use Rattle.hub_commands.specs.Making.{FailsToLook, FailsToMake, IsCompared, IsJudged, IsMade, IsThere, RepliesToAbout, RepliesToMake, about_told, is_alike, made_told, request_for, unlike_text}
use Rattle.hub_commands.specs.Notes.{reason_of}
use Rattle.hub_commands.proofs.Replied.{refused_by}

-- ---- the replies

done_shown : (it : Reply) → Shows shown.Done it → it ≡ reply.Done
done_shown reply.Done h = refl
done_shown it h = absurd h

about_shown : (about : About) (it : Reply) → Shows (shown.About about) it → it ≡ reply.About about
about_shown about (reply.About other) h = ap reply.About (sym h)
about_shown about it h = absurd h

-- ---- one fifodir

-- the hub refuses since something is there
pub exists_if : (refusal : Refusal) (there : Bool) → MatchBool there (refusal ≡ Exists) (refusal ≢ Exists) → there ≡ true → refusal ≡ Exists
exists_if refusal there h is = subst (λ it. MatchBool it (refusal ≡ Exists) (refusal ≢ Exists)) is h

-- or for another reason
pub exists_unless : (refusal : Refusal) (there : Bool) → MatchBool there (refusal ≡ Exists) (refusal ≢ Exists) → there ≡ false → refusal ≢ Exists
exists_unless refusal there h is = subst (λ it. MatchBool it (refusal ≡ Exists) (refusal ≢ Exists)) is h

-- it was made
pub made_new : (sent sends had has noted : Option (List ℕ)) (faults : Option ℕ) (wanted : Shape) (name : List ℕ) (asked : Request) (text : List ℕ) (read : BorrowedReply) (h : IsShown text read)
    → read ≡ shown.Done → asked ≡ request_for wanted name → IsAnswered sent sends had has (spelling (form_of asked)) text
    → IsMade (record { sent = sent; had = had; noted = noted; faults = faults }) (record { sent = sends; had = has; noted = noted; faults = faults }) wanted name Done
made_new sent sends had has noted faults wanted name asked text read h is same answered =
    inl (replied_by sent sends had has noted faults (request_for wanted name) text read reply.Done h (done_shown h.reply (subst (λ it. Shows it h.reply) is h.shows))
    (subst (λ it. IsAnswered sent sends had has (spelling (form_of it)) text) same answered))

-- something is there
pub is_there : (sent sends had has noted : Option (List ℕ)) (faults : Option ℕ) (wanted : Shape) (name : List ℕ) (asked : Request) (text : List ℕ) (read : BorrowedReply) (h : IsShown text read)
    → read ≡ shown.No Exists → asked ≡ request_for wanted name → IsAnswered sent sends had has (spelling (form_of asked)) text
    → IsThere (record { sent = sent; had = had; noted = noted; faults = faults }) (record { sent = sends; had = has; noted = noted; faults = faults }) wanted name
is_there sent sends had has noted faults wanted name asked text read h is same answered =
    replied_by sent sends had has noted faults (request_for wanted name) text read (reply.No Exists) h (no_shown Exists h.reply (subst (λ it. Shows it h.reply) is h.shows))
    (subst (λ it. IsAnswered sent sends had has (spelling (form_of it)) text) same answered)

-- what is there was compared
pub made_there : (before between after : Streams) (wanted : Shape) (name : List ℕ) (result : Result Outcome AskError)
    → IsThere before between wanted name → IfOk result (IsCompared between after name wanted) → IfOk result (IsMade before after wanted name)
made_there before between after wanted name (Ok outcome) there h = inr (between, there, h)
made_there before between after wanted name (Err error) there h = tt

-- the look failed
pub not_made_there : (before between after : Streams) (wanted : Shape) (name : List ℕ) (result : Result Outcome AskError)
    → IsThere before between wanted name → IfErr result (FailsToLook between after name) → IfErr result (FailsToMake before after wanted name)
not_made_there before between after wanted name (Ok outcome) there h = tt
not_made_there before between after wanted name (Err error) there h = inr (between, there, h)

-- the look was answered
pub compared : (sent sends had has noted notes : Option (List ℕ)) (faults failed : Option ℕ) (name : List ℕ) (wanted : Shape) (asked : Request) (text : List ℕ) (read : BorrowedReply) (about : About) (outcome : Outcome) (h : IsShown text read)
    → read ≡ shown.About about → asked ≡ request.About name → IsAnswered sent sends had has (spelling (form_of asked)) text
    → IsJudged noted notes faults failed name about wanted outcome
    → IsCompared (record { sent = sent; had = had; noted = noted; faults = faults }) (record { sent = sends; had = has; noted = notes; faults = failed }) name wanted outcome
compared sent sends had has noted notes faults failed name wanted asked text read about Done h is same answered judged =
    let replied = replied_by sent sends had has noted faults (request.About name) text read (reply.About about) h (about_shown about h.reply (subst (λ it. Shows it h.reply) is h.shows))
    (subst (λ it. IsAnswered sent sends had has (spelling (form_of it)) text) same answered) in
    (about, record { of_hub = replied.of_hub; answered = replied.answered; noted = judged.1; faults = judged.2 }, judged.0)
compared sent sends had has noted notes faults failed name wanted asked text read about Refused h is same answered judged =
    inr (record {
      about = about;
      between = record { sent = sends; had = has; noted = noted; faults = faults };
      looked = replied_by sent sends had has noted faults (request.About name) text read (reply.About about) h (about_shown about h.reply (subst (λ it. Shows it h.reply) is h.shows))
          (subst (λ it. IsAnswered sent sends had has (spelling (form_of it)) text) same answered);
      other = judged.0;
      told = record { sent = refl; had = refl; noted = judged.1 };
    })
compared sent sends had has noted notes faults failed name wanted asked text read about Never h is same answered judged = absurd judged
compared sent sends had has noted notes faults failed name wanted asked text read about Late h is same answered judged = absurd judged
compared sent sends had has noted notes faults failed name wanted asked text read about Nothing h is same answered judged = absurd judged

-- the look was refused
pub not_compared : (sent sends had has noted notes : Option (List ℕ)) (faults failed : Option ℕ) (name : List ℕ) (wanted : Shape) (asked : Request) (text bytes : List ℕ) (read : BorrowedReply) (refusal : Refusal) (h : IsShown text read)
    → read ≡ shown.No refusal → asked ≡ request.About name → IsAnswered sent sends had has (spelling (form_of asked)) text → bytes ≡ name → IsToldTo noted notes faults failed (note_of bytes (reason_of refusal))
    → IsCompared (record { sent = sent; had = had; noted = noted; faults = faults }) (record { sent = sends; had = has; noted = notes; faults = failed }) name wanted Refused
not_compared sent sends had has noted notes faults failed name wanted asked text bytes read refusal h is same answered is_name told =
    inl (
      refusal,
      refused_by sent sends had has noted notes faults failed (request.About name) text name bytes read refusal h is
          (subst (λ it. IsAnswered sent sends had has (spelling (form_of it)) text) same answered) is_name told,
    )

-- the hub refused to make it, for another reason than that it is there
pub not_made_new : (sent sends had has noted notes : Option (List ℕ)) (faults failed : Option ℕ) (wanted : Shape) (name : List ℕ) (asked : Request) (text bytes : List ℕ) (read : BorrowedReply) (refusal : Refusal) (h : IsShown text read)
    → read ≡ shown.No refusal → refusal ≢ Exists → asked ≡ request_for wanted name → IsAnswered sent sends had has (spelling (form_of asked)) text → bytes ≡ name → IsToldTo noted notes faults failed (note_of bytes (reason_of refusal))
    → IsMade (record { sent = sent; had = had; noted = noted; faults = faults }) (record { sent = sends; had = has; noted = notes; faults = failed }) wanted name Refused
not_made_new sent sends had has noted notes faults failed wanted name asked text bytes read refusal h is other same answered is_name told =
    inl (
      refusal,
      other,
      refused_by sent sends had has noted notes faults failed (request_for wanted name) text name bytes read refusal h is
          (subst (λ it. IsAnswered sent sends had has (spelling (form_of it)) text) same answered) is_name told,
    )

-- ---- what is there isn't as it is wanted

pub judged_unlike : (noted notes : Option (List ℕ)) (faults failed : Option ℕ) (name bytes text what : List ℕ) (there : About) (wanted : Shape) → is_alike there wanted ≡ false → bytes ≡ name → what ≡ text → text ≡ unlike_text there wanted
    → IsToldTo noted notes faults failed (note_of bytes what) → IsJudged noted notes faults failed name there wanted Refused
judged_unlike noted notes faults failed name bytes text what there wanted other is_name seen is told =
    (other, subst (λ it. IsToldTo noted notes faults failed (note_of name it)) (seen ∙ is) (subst (λ it. IsToldTo noted notes faults failed (note_of it what)) is_name told))

-- ---- nothing was sent

-- memory ran out before the request
pub not_asked : (answers : Reply → Type 0) (before : Streams) (asked : Request) → FailsOnce answers before before asked (ask.Relay relay.Memory)
not_asked answers before asked = inl (record {
  broken = false;
  failed = record {
    off = record {
      front = [];
      back = spelling (form_of asked) ++ 10 ∷ [];
      of_line = refl;
      went = [];
      unsent = [];
      prefix = refl;
      asked = Appends-nil before.sent;
      heard = [];
      received = Consumes-nil before.had;
    };
    untouched = λ e. (refl, refl);
  };
  noted = refl;
  faults = refl;
})

-- no reply came
pub no_answer : (answers : Reply → Type 0) (sent sends had has noted : Option (List ℕ)) (faults : Option ℕ) (asked wanted : Request) (broken : Bool) (error : AskError)
    → asked ≡ wanted → FailsToAsk sent sends had has (spelling (form_of asked)) broken error
    → FailsOnce answers (record { sent = sent; had = had; noted = noted; faults = faults }) (record { sent = sends; had = has; noted = noted; faults = faults }) wanted error
no_answer answers sent sends had has noted faults asked wanted broken error same failed = inl (record {
  broken = broken;
  failed = subst (λ it. FailsToAsk sent sends had has (spelling (form_of it)) broken error) same failed;
  noted = refl;
  faults = refl;
})

-- ---- a reply came, which is none to the request

pub left_unknown : (answers : Reply → Type 0) (sent sends had has noted : Option (List ℕ)) (faults : Option ℕ) (asked wanted : Request) (text : List ℕ) (read : BorrowedReply) (h : IsShown text read)
    → asked ≡ wanted → IsAnswered sent sends had has (spelling (form_of asked)) text → (answers h.reply → ⊥)
    → FailsOnce answers (record { sent = sent; had = had; noted = noted; faults = faults }) (record { sent = sends; had = has; noted = noted; faults = faults }) wanted ask.Unknown
left_unknown answers sent sends had has noted faults asked wanted text read h same answered none = inr (record {
  reply = h.reply;
  replied = replied_by sent sends had has noted faults wanted text read h.reply h refl (subst (λ it. IsAnswered sent sends had has (spelling (form_of it)) text) same answered);
  why = inr (refl, none);
})

pub none_to_about : (read : BorrowedReply) (it : Reply) → about_told read ≡ None → Shows read it → RepliesToAbout it → ⊥
none_to_about (shown.About about) it none shows h = cc none
none_to_about (shown.No refusal) it none shows h = cc none
none_to_about read (reply.About about) none shows h = shows
none_to_about read (reply.No refusal) none shows h = shows
none_to_about read it none shows h = h

pub none_to_make : (read : BorrowedReply) (it : Reply) → made_told read ≡ None → Shows read it → RepliesToMake it → ⊥
none_to_make shown.Done it none shows h = cc none
none_to_make (shown.No refusal) it none shows h = cc none
none_to_make read reply.Done none shows h = shows
none_to_make read (reply.No refusal) none shows h = shows
none_to_make read it none shows h = h

-- it failed so
pub fails_so : {T : Type 0} (fails : AskError → Type 0) (result : Result T AskError) (error : AskError) → IsErrAnd result (λ it. it ≡ error) → fails error → IfErr result fails
fails_so fails (Ok it) error is h = tt
fails_so fails (Err other) error is h = subst fails (sym is) h
