-- One more question about a fifodir that is followed.
use Rattle.std.proofs.Common.{◌≡◌, ℕ, suc, zero, ◌<◌, List, ◌∷◌, ◌++◌, length, take, drop, get_or, set, Bool, true, false, MatchBool, Option, map, Result, Ok, Err, OnOk, IfOk, IfErr, MatchResult, IsErrAnd, refl, sym, ap, ◌∙◌, subst, inl, inr, take-append-drop, drop-cons}
use Rattle.std.proofs.lemmas.List.{set-get_or, set_split}
use Rattle.hub_requests.specs.declared.reply.Reply.{Reply}
use Rattle.hub_ask.specs.declared.fault.AskError.{AskError}
use Rattle.hub_ask.specs.declared.outcome.Outcome.{Outcome}
use Rattle.hub_look.specs.Stops.{IsOwnStop, StopsWith}
use Rattle.hub_ask.specs.Streams.{IsToldTo, Streams}
use Rattle.hub_look.specs.Follows.{Beginning, Manner, Scene, EndsByItself, EndsFollow, EndsLookAt, EndsRounds, FollowsTo, GoesOn, IsSeenTo, IsUnderWay, LooksOn, AreAsked, IsSaid, IsTaken, EndsLooks, EndsTake, again_line, begins_by, scene}
use Rattle.hub_look.specs.Subscribing.{AreBegun, name_of}
use Rattle.hub_look.specs.declared.following.Following.{Following}
use Rattle.hub_look.specs.declared.stop.Stop.{Stop}
use Rattle.hub_look.specs.declared.stop.Stop.TheVariants as stops
use Rattle.hub_look.specs.declared.subscribing.Followed.{Followed}

-- the one at this place, among the others
split_at : (all : List Followed) (at : ℕ) (d followed : Followed) → at < length all → followed ≡ get_or all at d → all ≡ take at all ++ followed ∷ drop (suc at) all
split_at all at d followed within is =
    sym (take-append-drop at all) ∙ ap (λ l. take at all ++ l) (drop-cons all at d within ∙ ap (λ f. f ∷ drop (suc at) all) (sym is))

-- ---- one look

-- what came next was taken
pub looked_ok : {T : Type 0} (manner : Manner) (turns : ℕ) (followed later : Followed) (before after : Streams) (held holds : Option (List ℕ)) (result : Result T Stop) → followed.is_over ≡ false
    → OnOk result ((reply : Reply) × IsTaken manner turns followed later before after held holds reply × GoesOn manner.is_once reply)
    → OnOk result (IsSeenTo manner followed later before after held holds)
looked_ok manner turns followed later before after held holds (Ok it) lasts h = inr (lasts, (turns, h))
looked_ok manner turns followed later before after held holds (Err stop) lasts h = tt

pub looked_err : {T : Type 0} (manner : Manner) (turns : ℕ) (followed later : Followed) (before after : Streams) (held holds : Option (List ℕ)) (result : Result T Stop) → followed.is_over ≡ false
    → IfErr result (EndsTake manner turns followed later before after held holds) → IfErr result (EndsLookAt manner followed later before after held holds)
looked_err manner turns followed later before after held holds (Ok it) lasts h = tt
looked_err manner turns followed later before after held holds (Err stop) lasts h = (lasts, (turns, h))

-- ---- a look at one of them

-- nothing was asked
pub not_asked : (manner : Manner) (all grown : List Followed) (before after : Streams) (held holds : Option (List ℕ)) → grown ≡ all → after ≡ before → holds ≡ held
    → LooksOn manner (scene all before held) (scene grown after holds)
not_asked manner all grown before after held holds same_all same same_held = (
  0,
  ap (λ it. scene it after holds) same_all ∙ ap (λ it. scene all it holds) same ∙ ap (λ it. scene all before it) same_held,
)

pub seen_to : (manner : Manner) (all : List Followed) (at : ℕ) (d followed later : Followed) (before after : Streams) (held holds : Option (List ℕ))
    → at < length all → followed ≡ get_or all at d → IsSeenTo manner followed later before after held holds → LooksOn manner (scene all before held) (scene (set all at later) after holds)
seen_to manner all at d followed later before after held holds within is seen = elim seen [
  | inl same ↦ not_asked manner all (set all at later) before after held holds (ap (λ it. set all at it) (same.0 ∙ is) ∙ set-get_or all at d) same.1 same.2
  | inr looked ↦ (
    1,
    (
      scene all before held,
      refl,
      record {
        left = take at all;
        followed = followed;
        later = later;
        right = drop (suc at) all;
        among = split_at all at d followed within is;
        others = set_split all at later within;
        asked = looked;
      },
    ),
  )
]

pub ends_looking : (manner : Manner) (all : List Followed) (at : ℕ) (d followed later : Followed) (before after : Streams) (held holds : Option (List ℕ)) (stop : Stop)
    → at < length all → followed ≡ get_or all at d → EndsLookAt manner followed later before after held holds stop → EndsLooks manner (scene all before held) after holds stop
ends_looking manner all at d followed later before after held holds stop within is ends = record {
  count = 0;
  between = scene all before held;
  looks = refl;
  ends = record {
    left = take at all;
    followed = followed;
    later = later;
    right = drop (suc at) all;
    among = split_at all at d followed within is;
    asked = ends;
  };
}

-- ---- one after another

asked_on : (manner : Manner) (n m : ℕ) (before between after : Scene) → AreAsked manner n before between → AreAsked manner m between after → (count : ℕ) × AreAsked manner count before after
asked_on manner n zero before between after first rest = (n, subst (AreAsked manner n before) (sym rest) first)
asked_on manner n (suc m) before between after first rest =
    let more = asked_on manner n m before between rest.0 first rest.1 in
    (suc more.0, (rest.0, more.1, rest.2))

pub looks_on : (manner : Manner) (before between after : Scene) → LooksOn manner before between → LooksOn manner between after → LooksOn manner before after
looks_on manner before between after first rest = asked_on manner first.0 rest.0 before between after first.1 rest.1

pub ends_on : (manner : Manner) (n : ℕ) (before between : Scene) (after : Streams) (holds : Option (List ℕ)) (stop : Stop)
    → AreAsked manner n before between → EndsLooks manner between after holds stop → EndsLooks manner before after holds stop
ends_on manner n before between after holds stop first rest =
    let more = asked_on manner n rest.count before between rest.between first rest.looks in
    record { count = more.0; between = rest.between; looks = more.1; ends = rest.ends }

-- ---- the whole follow

begins : (manner : Manner) (begun : Beginning) (names : List (List ℕ)) (all : List Followed) (streams : Streams) (held : Option (List ℕ))
    → map name_of all ≡ names → begun streams names all → IsUnderWay manner begun names held (record { all = all; streams = streams; held = held })
begins manner begun names all streams held named subscribed = record { start = all; between = streams; named = named; begun = subscribed; count = 0; looks = refl }

continues : (manner : Manner) (begun : Beginning) (names : List (List ℕ)) (held : Option (List ℕ)) (now later : Scene)
    → IsUnderWay manner begun names held now → (count : ℕ) × AreAsked manner count now later → IsUnderWay manner begun names held later
continues manner begun names held now later h looks =
    let more = asked_on manner h.count looks.0 (record { all = h.start; streams = h.between; held = held }) now later h.looks looks.1 in
    record { start = h.start; between = h.between; named = h.named; begun = h.begun; count = more.0; looks = more.1 }

-- nothing was subscribed to
pub ends_before : {T : Type 0} (manner : Manner) (begun : Beginning) (names : List (List ℕ)) (after : Streams) (held : Option (List ℕ)) (result : Result T Stop) (stop : Stop)
    → IsErrAnd result (λ it. it ≡ stop) → IsOwnStop stop → IfErr result (EndsFollow manner begun names after held held)
ends_before manner begun names after held (Ok it) stop is own = tt
ends_before manner begun names after held (Err other) stop is own = inl (subst IsOwnStop (sym is) own, refl)

-- one more round ended it
pub ends_round : {T : Type 0} (manner : Manner) (before between : Scene) (after : Streams) (holds : Option (List ℕ)) (result : Result T Stop) (stop : Stop)
    → IsErrAnd result (λ it. it ≡ stop) → (count : ℕ) × AreAsked manner count before between → EndsLooks manner between after holds stop → IfErr result (EndsLooks manner before after holds)
ends_round manner before between after holds (Ok it) stop is first ends = tt
ends_round manner before between after holds (Err other) stop is first ends =
    subst (EndsLooks manner before after holds) (sym is) (ends_on manner first.0 before between after holds stop first.1 ends)

pub outcome_of_stop : (manner : Manner) (begun : Beginning) (names : List (List ℕ)) (after : Streams) (held holds : Option (List ℕ)) (result : Result Outcome AskError) (stop : Stop)
    → MatchResult result (StopsWith manner.is_timed stop) (λ error. stop ≡ stops.Fault error) → EndsFollow manner begun names after held holds stop → IfOk result (FollowsTo manner begun names after held holds)
outcome_of_stop manner begun names after held holds (Ok it) stop is h = inr (stop, is, h)
outcome_of_stop manner begun names after held holds (Err error) stop is h = tt

pub fault_of_stop : (manner : Manner) (begun : Beginning) (names : List (List ℕ)) (after : Streams) (held holds : Option (List ℕ)) (result : Result Outcome AskError) (stop : Stop)
    → MatchResult result (StopsWith manner.is_timed stop) (λ error. stop ≡ stops.Fault error) → EndsFollow manner begun names after held holds stop
    → IfErr result (λ error. EndsFollow manner begun names after held holds (stops.Fault error))
fault_of_stop manner begun names after held holds (Ok it) stop is h = tt
fault_of_stop manner begun names after held holds (Err error) stop is h = subst (EndsFollow manner begun names after held holds) is h

-- ---- from the beginning to the end

-- slice has all that were subscribed to
begins_at : (manner : Manner) (begun : Beginning) (names : List (List ℕ)) (all slice : List Followed) (streams : Streams) (held : Option (List ℕ))
    → slice ≡ all → map name_of all ≡ names → begun streams names all → IsUnderWay manner begun names held (scene slice streams held)
begins_at manner begun names all slice streams held same named subscribed =
    subst (λ it. IsUnderWay manner begun names held (scene it streams held)) (sym same) (begins manner begun names all streams held named subscribed)

-- it ended by itself
pub ends_itself : (manner : Manner) (begun : Beginning) (names : List (List ℕ)) (all slice new : List Followed) (before after : Streams) (held holds : Option (List ℕ)) (result : Result Outcome Stop)
    → slice ≡ all → map name_of all ≡ names → begun before names all → IfOk result (EndsRounds manner (scene slice before held) (scene new after holds))
    → IfOk result (EndsByItself manner begun names after held holds)
ends_itself manner begun names all slice new before after held holds (Ok went) same named subscribed h =
    let now = continues manner begun names held (scene slice before held) (scene new after holds) (begins_at manner begun names all slice before held same named subscribed) h.0 in
    elim (h.1) [
      | inl over ↦ inl (over.0, record { all = new; followed = now; over = over.1 })
      | inr late ↦ inr (late.0, late.1, (new, now))
    ]
ends_itself manner begun names all slice new before after held holds (Err stop) same named subscribed h = tt

-- a reply or a fault ended it
pub ends_after : (manner : Manner) (begun : Beginning) (names : List (List ℕ)) (all slice : List Followed) (before after : Streams) (held holds : Option (List ℕ)) (result : Result Outcome Stop)
    → slice ≡ all → map name_of all ≡ names → begun before names all → IfErr result (EndsLooks manner (scene slice before held) after holds)
    → IfErr result (EndsFollow manner begun names after held holds)
ends_after manner begun names all slice before after held holds (Ok went) same named subscribed h = tt
ends_after manner begun names all slice before after held holds (Err stop) same named subscribed h =
    inr (record { now = scene slice before held; followed = begins_at manner begun names all slice before held same named subscribed; ends = h })

-- ---- what is said at the beginning

pub said_so : {F : Type 0} (contents : F → Option (List ℕ)) (failures : F → Option ℕ) (is_again : Bool) (sent had : Option (List ℕ)) (notes note : F)
    → MatchBool is_again (IsToldTo (contents notes) (contents note) (failures notes) (failures note) again_line) (note ≡ notes)
    → IsSaid is_again (record { sent = sent; had = had; noted = contents notes; faults = failures notes }) (record { sent = sent; had = had; noted = contents note; faults = failures note })
said_so contents failures true sent had notes note h = record { sent = refl; had = refl; noted = h }
said_so contents failures false sent had notes note h = ap (λ it. record { sent = sent; had = had; noted = contents it; faults = failures it }) h

pub begun_so : (following : Following) (before between after : Streams) (names : List (List ℕ)) (all : List Followed)
    → AreBegun (λ word. word.now) following.pattern following.form before between names all → IsSaid following.is_again between after → begins_by following before after names all
begun_so following before between after names all begun said = (between, begun, said)
