-- What a look at a name shows.
use Rattle.std.proofs.Common.{◌≡◌, ℕ, List, [], ◌++◌, codes, append-nil, Result, Ok, Err, IfOk, inl, inr, sym, ap, subst}
use Rattle.hub_record.specs.declared.Status.{Status}
use Rattle.hub_requests.specs.declared.about.About.{About}
use Rattle.hub_requests.specs.declared.request.Request.{Request}
use Rattle.hub_requests.specs.declared.request.Request.TheVariants as request
use Rattle.hub_requests.specs.declared.reply.Refusal.{Refusal}
use Rattle.hub_requests.specs.declared.reply.Reply.{Reply}
use Rattle.hub_requests.specs.declared.reply.Reply.TheVariants as reply
use Rattle.hub_protocol.specs.Replies.{Shows}
use Rattle.hub_protocol.specs.Spelling.{form_of, spelling}
use Rattle.hub_protocol.specs.declared.replies.BorrowedReply.{BorrowedReply}
use Rattle.hub_protocol.specs.declared.replies.BorrowedReply.TheVariants as shown
use Rattle.hub_ask.specs.Hearing.{line_of}
use Rattle.hub_ask.specs.declared.heard.Heard.{Heard}
use Rattle.hub_ask.specs.Streams.{IsHeard, Streams}
use Rattle.hub_look.specs.Tables.{IsAbout, IsDescribed, IsJudged, IsLookedUp, IsRefused, HubSays, TellsBy}
use Rattle.hub_look.specs.declared.stop.Stop.{Stop}
use Rattle.hub_look.proofs.Listed.{replied_so}

-- the lines of two words

pub spelled_status : (name : List ℕ) → spelling (form_of (request.Status name)) ≡ codes "status " ++ (name ++ [])
spelled_status name = ap (λ it. codes "status " ++ it) (sym (append-nil name))

pub spelled_about : (name : List ℕ) → spelling (form_of (request.About name)) ≡ codes "about " ++ (name ++ [])
spelled_about name = ap (λ it. codes "about " ++ it) (sym (append-nil name))

-- it isn't refused
pub heard_so : (before after : Streams) (asked : Request) (name : List ℕ) (looked : Result Heard Refusal) (heard : Heard)
    → IsLookedUp before after asked name looked → looked ≡ Ok heard → IsHeard before after asked (line_of heard)
heard_so before after asked name looked heard h is = subst (IsLookedUp before after asked name) is h

pub state_shown : (status : Status) (it : Reply) → Shows (shown.State status) it → it ≡ reply.State status
state_shown status (reply.State other) same = ap reply.State (sym same)
state_shown status it h = absurd h

pub about_shown : (about : About) (it : Reply) → Shows (shown.About about) it → it ≡ reply.About about
about_shown about (reply.About other) same = ap reply.About (sym same)
about_shown about it h = absurd h

-- what the hub says, if a reply of this kind shows it
module _ {T : Type 0} (variant : T → BorrowedReply) (kind : T → Reply) (shows : (read : T) (it : Reply) → Shows (variant read) it → it ≡ kind read) (asked : Request) where
  told : (before after : Streams) (name : List ℕ) (looked : Result Heard Refusal) (said : Result T Refusal)
      → IsLookedUp before after asked name looked → TellsBy variant looked said → HubSays kind asked before after name said
  told before after name (Ok heard) (Ok it) h tells = replied_so before after asked (line_of heard) (variant it) (kind it) tells h (shows it tells.reply tells.shows)
  told before after name (Err refusal) (Err other) h same = subst (IsRefused before after asked name) (sym same) h
  told before after name (Ok heard) (Err refusal) h tells = absurd tells
  told before after name (Err refusal) (Ok it) h tells = absurd tells

  pub told_so : (before after : Streams) (name : List ℕ) (looked : Result Heard Refusal) (result : Result (Result T Refusal) Stop)
      → IsLookedUp before after asked name looked → IfOk result (TellsBy variant looked) → IfOk result (HubSays kind asked before after name)
  told_so before after name looked (Ok said) h tells = told before after name looked said h tells
  told_so before after name looked (Err stop) h tells = tt

-- ---- both looks

pub both_told : (before between after : Streams) (name : List ℕ) (one : Result About Refusal) (other : Result Status Refusal) (about : About) (status : Status)
    → IsAbout before between name one → one ≡ Ok about → IsJudged between after name other → other ≡ Ok status
    → IsDescribed before after name (Ok (record { about = about; status = status }))
both_told before between after name one other about status h is k so =
    (between, subst (IsAbout before between name) is h, subst (IsJudged between after name) so k)

pub about_refused : (before after : Streams) (name : List ℕ) (one : Result About Refusal) (refusal : Refusal)
    → IsAbout before after name one → one ≡ Err refusal → IsDescribed before after name (Err refusal)
about_refused before after name one refusal h is = inl (subst (IsAbout before after name) is h)

pub status_refused : (before between after : Streams) (name : List ℕ) (one : Result About Refusal) (other : Result Status Refusal) (about : About) (refusal : Refusal)
    → IsAbout before between name one → one ≡ Ok about → IsJudged between after name other → other ≡ Err refusal → IsDescribed before after name (Err refusal)
status_refused before between after name one other about refusal h is k so =
    inr (between, about, subst (IsAbout before between name) is h, subst (IsJudged between after name) so k)
