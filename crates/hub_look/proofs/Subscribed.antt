-- How a fifodir was subscribed to.
use Rattle.std.proofs.Common.{◌≡◌, ◌≢◌, ℕ, ◌+◌, suc, ◌<◌, ◌≤◌, List, [], ◌∷◌, ◌++◌, Option, None, Some, MatchOption, Result, Ok, Err, IfOk, map, length, take, take_all, get_or, refl, sym, ap, ◌∙◌, subst, inl, inr}
use Rattle.std.proofs.lemmas.List.{take_more}
use Rattle.hub_requests.specs.declared.request.Request.TheVariants as request
use Rattle.hub_requests.specs.declared.reply.Refusal.{Refusal}
use Rattle.hub_requests.specs.declared.reply.Reply.{Reply}
use Rattle.hub_requests.specs.declared.reply.Reply.TheVariants as reply
use Rattle.hub_protocol.specs.Replies.{IsShown, Shows}
use Rattle.hub_protocol.specs.declared.replies.BorrowedReply.{BorrowedReply}
use Rattle.hub_protocol.specs.declared.replies.BorrowedReply.TheVariants as shown
use Rattle.hub_record.specs.declared.Status.{Status}
use Rattle.hub_ask.specs.Hearing.{line_of}
use Rattle.hub_ask.specs.declared.heard.Heard.{Heard}
use Rattle.hub_ask.specs.Streams.{IsHeard, Streams}
use Rattle.hub_look.specs.Subscribing.{AreBegun, AreCancelled, IsBegun, IsBetween, IsCancelled, IsHandled, IsNew, IsNumbered, IsSubscribed, IsTried, name_of, sub_line}
use Rattle.hub_look.specs.Tables.{IsFoundBy, IsJudged, TellsBy, Verdict}
use Rattle.hub_views.specs.declared.form.Form.{Form}
use Rattle.hub_views.specs.declared.form.Form.TheVariants.{Line, Plain, Json}
use Rattle.hub_look.specs.declared.stop.Stop.{Stop}
use Rattle.hub_look.specs.declared.subscribing.Followed.{Followed}
use Rattle.hub_look.proofs.Listed.{replied_so}

number_shown : (n : ℕ) (it : Reply) → Shows (shown.Number n) it → it ≡ reply.Number n
number_shown n (reply.Number m) h = ap reply.Number (sym h)
number_shown n it h = absurd h

-- the reply gives a handle
handled_by : (before after : Streams) (line name : List ℕ) (found : Result Heard Refusal) (handle : ℕ)
    → IsFoundBy before after line name found → TellsBy shown.Number found (Ok handle) → IsHandled before after line handle
handled_by before after line name (Ok heard) handle by shows = record {
  request = by.asked;
  spelled = by.spelled;
  replied = replied_so before after by.asked (line_of heard) (shown.Number handle) (reply.Number handle) shows by.answered (number_shown handle shows.reply shows.shows);
}
handled_by before after line name (Err refusal) handle by tells = absurd tells

pub handled : (before after : Streams) (line name : List ℕ) (found : Result Heard Refusal) (result : Result ℕ Stop)
    → IsFoundBy before after line name found → IfOk result (λ handle. TellsBy shown.Number found (Ok handle)) → IfOk result (IsHandled before after line)
handled before after line name found (Ok handle) by tells = handled_by before after line name found handle by tells
handled before after line name found (Err stop) by tells = tt

-- the hub says how many events there are
pub counted : (before after : Streams) (name : List ℕ) (verdict : Verdict) (status : Status) → IsJudged before after name verdict → verdict ≡ Ok status
    → (it : Status) × IsJudged before after name (Ok it) × (status.number ≡ it.number)
counted before after name verdict status judged is = (status, subst (IsJudged before after name) is judged, refl)

-- ---- a subscription between two looks

pub is_between : (before first second after : Streams) (name : List ℕ) (handle number later : ℕ)
    → (it : Status) × IsJudged before first name (Ok it) × (number ≡ it.number) → IsHandled first second (sub_line name) handle
    → (it : Status) × IsJudged second after name (Ok it) × (later ≡ it.number) → IsBetween before after name handle number later
is_between before first second after name handle number later looked handled looked_later = record {
  status = looked.0;
  status_later = looked_later.0;
  first = first;
  second = second;
  looked = looked.1;
  handled = handled;
  looked_later = looked_later.1;
  numbered = looked.2;
  numbered_later = looked_later.2;
}

pub numbered : (before first second after : Streams) (name : List ℕ) (number later : ℕ) (followed : Followed)
    → (it : Status) × IsJudged before first name (Ok it) × (number ≡ it.number) → IsHandled first second (sub_line name) followed.handle
    → (it : Status) × IsJudged second after name (Ok it) × (later ≡ it.number) → later ≡ number → IsNew name (Some number) followed → IsNumbered before after name followed
numbered before first second after name number later followed looked handled looked_later same new = record {
  number = number;
  between = subst (λ it. IsBetween before after name followed.handle number it) same
      (is_between before first second after name followed.handle number later looked handled looked_later);
  new = new;
}

pub cancelled : (before first second third after : Streams) (name : List ℕ) (handle number later : ℕ) (text : List ℕ) (read : BorrowedReply)
    → (it : Status) × IsJudged before first name (Ok it) × (number ≡ it.number) → IsHandled first second (sub_line name) handle
    → (it : Status) × IsJudged second third name (Ok it) × (later ≡ it.number) → later ≢ number → IsHeard third after (request.Cancel handle) text → IsShown text read
    → IsCancelled before after name
cancelled before first second third after name handle number later text read looked handled looked_later other heard shows = record {
  handle = handle;
  number = number;
  later = later;
  last = third;
  reply = shows.reply;
  between = is_between before first second third name handle number later looked handled looked_later;
  other = other;
  cancelled = replied_so third after (request.Cancel handle) text read shows.reply shows heard refl;
}

-- ---- one after another

pub one_try_more : (before now later : Streams) (name : List ℕ) → (tries : ℕ) × AreCancelled tries before now name → IsCancelled now later name → (tries : ℕ) × AreCancelled tries before later name
one_try_more before now later name so_far more = (suc so_far.0, (now, so_far.1, more))

-- a number was found
pub tried_well : (before now after : Streams) (name : List ℕ) (it : Option Followed) (followed : Followed) → (tries : ℕ) × AreCancelled tries before now name
    → MatchOption it (IsCancelled now after name) (IsNumbered now after name) → it ≡ Some followed → IsTried before after name followed
tried_well before now after name it followed so_far h is =
    record { tries = so_far.0; between = now; cancelled = so_far.1; last = inl (subst (λ it. MatchOption it (IsCancelled now after name) (IsNumbered now after name)) is h) }

tried_in_vain : (before now after : Streams) (name : List ℕ) (followed : Followed) → (tries : ℕ) × AreCancelled tries before now name → IsSubscribed now after (sub_line name) name followed → IsTried before after name followed
tried_in_vain before now after name followed so_far last = record { tries = so_far.0; between = now; cancelled = so_far.1; last = inr last }

-- no number was found
pub not_between : (before after : Streams) (name : List ℕ) (it : Option Followed) → MatchOption it (IsCancelled before after name) (IsNumbered before after name) → it ≡ None → IsCancelled before after name
not_between before after name it h is = subst (λ it. MatchOption it (IsCancelled before after name) (IsNumbered before after name)) is h

pub tried_ok : (before now after : Streams) (name : List ℕ) (result : Result Followed Stop) → (tries : ℕ) × AreCancelled tries before now name
    → IfOk result (IsSubscribed now after (sub_line name) name) → IfOk result (IsTried before after name)
tried_ok before now after name (Ok followed) so_far last = tried_in_vain before now after name followed so_far last
tried_ok before now after name (Err stop) so_far last = tt

-- ---- each of them

tried_named : (before after : Streams) (name : List ℕ) (followed : Followed) → IsTried before after name followed → name_of followed ≡ name
tried_named before after name followed h = elim (h.last) [
  | inl numbered ↦ numbered.new.named
  | inr subscribed ↦ subscribed.new.named
]

named_so : {Word : Type 0} (text : Word → List ℕ) (pattern : Option Word) (form : Form) (before after : Streams) (name : List ℕ) (followed : Followed)
    → IsBegun text pattern form before after name followed → name_of followed ≡ name
named_so text (Some pattern) form before after name followed h = h.new.named
named_so text None Plain before after name followed h = h.new.named
named_so text None Line before after name followed h = tried_named before after name followed h
named_so text None Json before after name followed h = tried_named before after name followed h

pub begun_named : {Word : Type 0} (text : Word → List ℕ) (pattern : Option Word) (form : Form) (before after : Streams) (names : List (List ℕ)) (all : List Followed)
    → AreBegun text pattern form before after names all → map name_of all ≡ names
begun_named text pattern form before after [] [] h = refl
begun_named text pattern form before after [] (f ∷ all) h = absurd h
begun_named text pattern form before after (n ∷ names) [] h = absurd h
begun_named text pattern form before after (n ∷ names) (f ∷ all) h =
    ap (λ it. it ∷ map name_of all) (named_so text pattern form before h.0 n f h.1) ∙ ap (λ it. n ∷ it) (begun_named text pattern form h.0 after names all h.2)

begun_more : {Word : Type 0} (text : Word → List ℕ) (pattern : Option Word) (form : Form) (before now after : Streams) (names : List (List ℕ)) (all : List Followed) (name : List ℕ) (followed : Followed)
    → AreBegun text pattern form before now names all → IsBegun text pattern form now after name followed
    → AreBegun text pattern form before after (names ++ name ∷ []) (all ++ followed ∷ [])
begun_more text pattern form before now after [] [] name followed same more =
    (after, subst (λ it. IsBegun text pattern form it after name followed) same more, refl)
begun_more text pattern form before now after [] (f ∷ all) name followed h more = absurd h
begun_more text pattern form before now after (n ∷ names) [] name followed h more = absurd h
begun_more text pattern form before now after (n ∷ names) (f ∷ all) name followed h more =
    (h.0, h.1, begun_more text pattern form h.0 now after names all name followed h.2 more)

pub map_more : {A B : Type 0} (f : A → B) (xs : List A) (x : A) → map f (xs ++ x ∷ []) ≡ map f xs ++ f x ∷ []
map_more f [] x = refl
map_more f (y ∷ xs) x = ap (λ it. f y ∷ it) (map_more f xs x)

-- one fifodir more
pub one_begun : {Word Name : Type 0} (text : Word → List ℕ) (bytes : Name → List ℕ) (pattern : Option Word) (form : Form) (before now after : Streams) (names : List Name) (at : ℕ) (d : Name) (all grown : List Followed) (followed : Followed)
    → at < length names → AreBegun text pattern form before now (map bytes (take at names)) all → IsBegun text pattern form now after (bytes (get_or names at d)) followed → grown ≡ all ++ followed ∷ []
    → AreBegun text pattern form before after (map bytes (take (at + 1) names)) grown
one_begun text bytes pattern form before now after names at d all grown followed within h more grows =
    subst (λ it. AreBegun text pattern form before after it grown) (sym (ap (map bytes) (take_more names at d within) ∙ map_more bytes (take at names) (get_or names at d)))
    (subst (AreBegun text pattern form before after (map bytes (take at names) ++ bytes (get_or names at d) ∷ [])) (sym grows)
    (begun_more text pattern form before now after (map bytes (take at names)) all (bytes (get_or names at d)) followed h more))

-- each of them
pub all_begun : {Word Name : Type 0} (text : Word → List ℕ) (bytes : Name → List ℕ) (pattern : Option Word) (form : Form) (before after : Streams) (names slice : List Name) (at : ℕ) (all : List Followed)
    → length slice ≤ at → slice ≡ names → AreBegun text pattern form before after (map bytes (take at slice)) all → AreBegun text pattern form before after (map bytes names) all
all_begun text bytes pattern form before after names slice at all end same h =
    subst (λ it. AreBegun text pattern form before after (map bytes it) all) (take_all at slice end ∙ same) h

pub all_named : {Name : Type 0} (bytes : Name → List ℕ) (names slice : List Name) (at : ℕ) (all : List Followed)
    → length slice ≤ at → slice ≡ names → map name_of all ≡ map bytes (take at slice) → map name_of all ≡ map bytes names
all_named bytes names slice at all end same h = h ∙ ap (map bytes) (take_all at slice end ∙ same)
