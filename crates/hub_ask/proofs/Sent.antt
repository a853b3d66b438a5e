-- Requests that were sent, one after another.
use Rattle.std.proofs.Common.{◌≡◌, ℕ, ◌+◌, ◌<◌, ◌≤◌, List, [], ◌∷◌, ◌++◌, length, take, drop, get_or, Bool, true, if◌then◌else◌, Option, None, Some, Result, Ok, Err, IfOk, IfErr, OnErr, IsErrAnd, inl, inr, refl, sym, ap, ◌∙◌, subst, append-nil, append_assoc, take_all, take-append-drop}
use Rattle.std.proofs.lemmas.List.{take_more}
use Rattle.std.proofs.lemmas.Grind.{flat_map-append}
use Rattle.std.specs.List.{flat_map}
use Rattle.std.specs.Io.KnownBytes.{Appends}
use Rattle.std.proofs.KnownBytes.{Appends-nil, Appends-trans, Consumes-nil}
use Rattle.hub_client.specs.declared.fault.RelayError.TheVariants as relay
use Rattle.hub_letters.specs.declared.want.Want as wants
use Rattle.hub_requests.specs.Names.{is_name}
use Rattle.hub_requests.specs.declared.request.Request.{Request}
use Rattle.hub_protocol.specs.Spelling.{form_of, spelling}
use Rattle.hub_protocol.specs.Writing.{line_of_request}
use Rattle.hub_ask.specs.Asking.{IsBrokenOff, BreaksOff, FailsToHear, Hears}
use Rattle.hub_ask.specs.Sending.{SendsFront, SendsPart, lines_of_requests}
use Rattle.hub_ask.specs.Waiting.{questions_about}
use Rattle.hub_ask.specs.declared.fault.AskError.{AskError}
use Rattle.hub_ask.specs.declared.fault.AskError.TheVariants.{Relay, Words}
use Rattle.hub_ask.specs.declared.heard.Heard.{Heard}

-- ---- an exchange that didn't begin

breaks_none : (sent had : Option (List ℕ)) (line : List ℕ) (broken : Bool) → BreaksOff sent sent had had line broken
breaks_none sent had line broken = record {
  off = record {
    front = [];
    back = line ++ 10 ∷ [];
    of_line = refl;
    went = [];
    unsent = [];
    prefix = refl;
    asked = Appends-nil sent;
    heard = [];
    received = Consumes-nil had;
  };
  untouched = λ e. (refl, refl);
}

-- no memory for the line
pub fails_at_once : {T : Type 0} (sent had : Option (List ℕ)) (line : List ℕ) (broken : Bool) (result : Result T AskError)
    → IsErrAnd result (λ it. it ≡ Relay relay.Memory) → IfErr result (FailsToHear sent sent had had line broken)
fails_at_once sent had line broken (Ok it) e = tt
fails_at_once sent had line broken (Err error) e = subst (FailsToHear sent sent had had line broken) (sym e) (breaks_none sent had line broken)

-- ---- one request more

hears_asked : (sent sends had has : Option (List ℕ)) (line : List ℕ) (heard : Option Heard) → Hears sent sends had has line heard → Appends sent sends (line ++ 10 ∷ [])
hears_asked sent sends had has line (Some heard) h = h.asked
hears_asked sent sends had has line None h = h.1.asked

pub part_of : (sent sends had has : Option (List ℕ)) (line : List ℕ) → IsBrokenOff sent sends had has line → SendsPart sent sends (line ++ 10 ∷ [])
part_of sent sends had has line off = record {
  front = off.front;
  back = off.back;
  of_line = off.of_line;
  went = off.went;
  unsent = off.unsent;
  prefix = off.prefix;
  asked = off.asked;
}

lines_more : (whole : List Request) (request : Request) → lines_of_requests (whole ++ request ∷ []) ≡ lines_of_requests whole ++ line_of_request request
lines_more whole request = flat_map-append line_of_request whole (request ∷ []) ∙ ap (λ l. lines_of_requests whole ++ l) (append-nil (line_of_request request))

-- a line was sent behind others
pub line_more : (sent mid sends : Option (List ℕ)) (whole : List Request) (request : Request)
    → Appends sent mid (lines_of_requests whole) → Appends mid sends (line_of_request request) → Appends sent sends (lines_of_requests (whole ++ request ∷ []))
line_more sent mid sends whole request before asked =
    subst (Appends sent sends) (sym (lines_more whole request)) (Appends-trans sent mid sends _ _ before asked)

-- a request was sent behind others
pub asks_more : (sent mid sends had has : Option (List ℕ)) (whole : List Request) (request : Request) (heard : Option Heard)
    → Appends sent mid (lines_of_requests whole) → Hears mid sends had has (spelling (form_of request)) heard
    → Appends sent sends (lines_of_requests (whole ++ request ∷ []))
asks_more sent mid sends had has whole request heard before h =
    line_more sent mid sends whole request before (hears_asked mid sends had has _ heard h)

-- nothing was sent of these
pub fronts_none : (sent sends : Option (List ℕ)) (first others : List Request) → Appends sent sends (lines_of_requests first) → SendsFront sent sends (first ++ others)
fronts_none sent sends first others asked = record {
  first = first;
  others = others;
  cut = refl;
  went = record { whole = first; between = sends; asked = asked; last = inl (refl, refl) };
}

fails_front : (sent mid sends had has : Option (List ℕ)) (whole : List Request) (request : Request) (rest : List Request) (broken : Bool)
    → Appends sent mid (lines_of_requests whole) → BreaksOff mid sends had has (spelling (form_of request)) broken → SendsFront sent sends (whole ++ request ∷ rest)
fails_front sent mid sends had has whole request rest broken before b = record {
  first = whole ++ request ∷ [];
  others = rest;
  cut = sym (append_assoc whole (request ∷ []) rest);
  went = record { whole = whole; between = mid; asked = before; last = inr (request, refl, part_of mid sends had has _ b.off) };
}

same_front : (sent mid sends : Option (List ℕ)) (first others : List Request) → Appends sent mid (lines_of_requests first) → sends ≡ mid → SendsFront sent sends (first ++ others)
same_front sent mid sends first others asked same = fronts_none sent sends first others (subst (λ it. Appends sent it (lines_of_requests first)) (sym same) asked)

-- a request failed behind others
pub fails_more : (sent mid sends had has : Option (List ℕ)) (whole : List Request) (request : Request) (rest : List Request) (broken : Bool) (error : AskError)
    → Appends sent mid (lines_of_requests whole) → FailsToHear mid sends had has (spelling (form_of request)) broken error
    → SendsFront sent sends (whole ++ request ∷ rest)
fails_more sent mid sends had has whole request rest broken (Relay relay.Output) before f = absurd f
fails_more sent mid sends had has whole request rest broken (Relay relay.Input) before f = absurd f
fails_more sent mid sends had has whole request rest broken Words before f = same_front sent mid sends whole (request ∷ rest) before f.1
fails_more sent mid sends had has whole request rest broken error before f = fails_front sent mid sends had has whole request rest broken before f

-- a request came behind others, or failed there
pub sends_more : (sent mid sends had has : Option (List ℕ)) (whole : List Request) (request : Request) (rest : List Request) (broken : Bool) (result : Result (Option Heard) AskError)
    → Appends sent mid (lines_of_requests whole)
    → IfOk result (Hears mid sends had has (spelling (form_of request))) → IfErr result (FailsToHear mid sends had has (spelling (form_of request)) broken)
    → SendsFront sent sends (whole ++ request ∷ rest)
sends_more sent mid sends had has whole request rest broken (Ok heard) before h f =
    subst (SendsFront sent sends) (append_assoc whole (request ∷ []) rest) (fronts_none sent sends (whole ++ request ∷ []) rest (asks_more sent mid sends had has whole request heard before h))
sends_more sent mid sends had has whole request rest broken (Err error) before h f = fails_more sent mid sends had has whole request rest broken error before f

-- ---- the first of some, behind others

pub front_behind : (sent mid sends : Option (List ℕ)) (before requests after : List Request)
    → Appends sent mid (lines_of_requests before) → SendsFront mid sends requests → SendsFront sent sends (before ++ (requests ++ after))
front_behind sent mid sends before requests after asked f = record {
  first = before ++ f.first;
  others = f.others ++ after;
  cut = ap (λ l. before ++ (l ++ after)) f.cut ∙ ap (λ l. before ++ l) (append_assoc f.first f.others after) ∙ sym (append_assoc before f.first (f.others ++ after));
  went = record {
    whole = before ++ f.went.whole;
    between = f.went.between;
    asked = subst (Appends sent f.went.between) (sym (flat_map-append line_of_request before f.went.whole)) (Appends-trans sent mid f.went.between _ _ asked f.went.asked);
    last = elim f.went.last [
      | inl same ↦ inl (ap (λ l. before ++ l) same.0, same.1)
      | inr more ↦ inr (more.0, ap (λ l. before ++ l) more.1 ∙ sym (append_assoc before f.went.whole (more.0 ∷ [])), more.2)
    ];
  };
}

-- ---- pieces of a list

-- one more of the pieces
pub flat_map-more : {X A : Type 0} (f : X → List A) (xs : List X) (i : ℕ) (d : X) → i < length xs → flat_map f (take (i + 1) xs) ≡ flat_map f (take i xs) ++ f (get_or xs i d)
flat_map-more f xs i d below =
    ap (flat_map f) (take_more xs i d below) ∙ flat_map-append f (take i xs) (get_or xs i d ∷ []) ∙ ap (λ l. flat_map f (take i xs) ++ l) (append-nil (f (get_or xs i d)))

-- those before one, its own, and those behind it
pub flat_map-around : {X A : Type 0} (f : X → List A) (xs : List X) (i : ℕ) (d : X) → i < length xs
    → flat_map f xs ≡ flat_map f (take i xs) ++ (f (get_or xs i d) ++ flat_map f (drop (i + 1) xs))
flat_map-around f xs i d below =
    ap (flat_map f) (sym (take-append-drop (i + 1) xs)) ∙ flat_map-append f (take (i + 1) xs) (drop (i + 1) xs)
    ∙ ap (λ l. l ++ flat_map f (drop (i + 1) xs)) (flat_map-more f xs i d below)
    ∙ append_assoc (flat_map f (take i xs)) (f (get_or xs i d)) (flat_map f (drop (i + 1) xs))

-- ---- two questions

pub on_err : {T E P : Type 0} (result : Result T E) → P → OnErr result P
on_err (Ok it) p = tt
on_err (Err e) p = p

-- the first of two requests, or its fault
pub first_of_two : (sent sends had has : Option (List ℕ)) (one it two : Request) (broken : Bool) (result : Result (Option Heard) AskError)
    → one ≡ it → IfOk result (Hears sent sends had has (spelling (form_of one))) → IfErr result (FailsToHear sent sends had has (spelling (form_of one)) broken)
    → SendsFront sent sends (it ∷ two ∷ [])
first_of_two sent sends had has one it two broken result is h f =
    subst (λ r. SendsFront sent sends (r ∷ two ∷ [])) is (sends_more sent sent sends had has [] one (two ∷ []) broken result (Appends-nil sent) h f)

-- the second one behind it, or its fault
pub second_of_two : (sent mid sends had left had' has : Option (List ℕ)) (one it two : Request) (broken : Bool) (met : Option Heard) (result : Result (Option Heard) AskError)
    → one ≡ it → Hears sent mid had left (spelling (form_of one)) met
    → IfOk result (Hears mid sends had' has (spelling (form_of two))) → IfErr result (FailsToHear mid sends had' has (spelling (form_of two)) broken)
    → SendsFront sent sends (it ∷ two ∷ [])
second_of_two sent mid sends had left had' has one it two broken met result is before h f =
    subst (λ r. SendsFront sent sends (r ∷ two ∷ [])) is
    (sends_more sent mid sends had' has (one ∷ []) two [] broken result (asks_more sent sent mid had left [] one met (Appends-nil sent) before) h f)

-- both
pub both_of_two : (sent mid sends had left had' has : Option (List ℕ)) (one it two : Request) (met heard : Option Heard) (result : Result (Option Heard) AskError)
    → one ≡ it → Hears sent mid had left (spelling (form_of one)) met → result ≡ Ok heard → IfOk result (Hears mid sends had' has (spelling (form_of two)))
    → Appends sent sends (lines_of_requests (it ∷ two ∷ []))
both_of_two sent mid sends had left had' has one it two met heard result is before ok h =
    subst (λ r. Appends sent sends (lines_of_requests (r ∷ two ∷ []))) is
    (asks_more sent mid sends had' has (one ∷ []) two heard (asks_more sent sent mid had left [] one met (Appends-nil sent) before) (subst (λ it. IfOk it (Hears mid sends had' has (spelling (form_of two)))) ok h))

-- ---- pieces of requests

-- those of the first elements were sent
pub front_so_far : {X : Type 0} (f : X → List Request) (xs : List X) (i : ℕ) (sent sends : Option (List ℕ))
    → Appends sent sends (lines_of_requests (flat_map f (take i xs))) → SendsFront sent sends (flat_map f xs)
front_so_far f xs i sent sends asked =
    subst (SendsFront sent sends) (sym (flat_map-append f (take i xs) (drop i xs)) ∙ ap (flat_map f) (take-append-drop i xs)) (fronts_none sent sends (flat_map f (take i xs)) (flat_map f (drop i xs)) asked)

-- behind the last element, those of all were sent
pub all_sent : {X : Type 0} (f : X → List Request) (xs : List X) (i : ℕ) (sent sends : Option (List ℕ)) → length xs ≤ i
    → Appends sent sends (lines_of_requests (flat_map f (take i xs))) → Appends sent sends (lines_of_requests (flat_map f xs))
all_sent f xs i sent sends end asked = subst (λ l. Appends sent sends (lines_of_requests (flat_map f l))) (take_all i xs end) asked

-- and then the first ones of the next element
pub front_at : {X : Type 0} (f : X → List Request) (xs : List X) (i : ℕ) (d : X) (requests : List Request) (sent mid sends : Option (List ℕ)) → i < length xs
    → Appends sent mid (lines_of_requests (flat_map f (take i xs))) → requests ≡ f (get_or xs i d) → SendsFront mid sends requests → SendsFront sent sends (flat_map f xs)
front_at f xs i d requests sent mid sends below asked is front =
    subst (SendsFront sent sends) (sym (flat_map-around f xs i d below))
    (front_behind sent mid sends (flat_map f (take i xs)) (f (get_or xs i d)) (flat_map f (drop (i + 1) xs)) asked (subst (SendsFront mid sends) is front))

-- the questions about a service with this name
pub about_named : (want : wants.Want) (name bytes text : List ℕ) → is_name bytes ≡ true → name ≡ bytes → bytes ≡ text
    → questions_about want name ≡ (if is_name text then questions_about want text else [])
about_named want name bytes text is same at =
    ap (questions_about want) (same ∙ at) ∙ sym (ap (λ t. if t then questions_about want text else []) (ap is_name (sym at) ∙ is))
