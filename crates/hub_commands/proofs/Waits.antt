-- How a wait goes on, and how it ends.
use Rattle.std.proofs.Common.{◌≡◌, ℕ, ◌+◌, ◌^◌, ◌<◌, ◌≤◌, List, [], ◌∷◌, ◌++◌, length, ◌==◌, ◌||◌, ◌⊎◌, Option, None, Some, Result, Ok, Err, IsErrAnd, false, codes, inl, inr, refl, sym, ap, ◌∙◌, subst, arith, ne_eqb, true, Bool}
use Rattle.std.proofs.lemmas.Fmt.{decimal_is_IsNumeral}
use Rattle.std.proofs.lemmas.List.Folds.{list_any-append}
use Rattle.std.proofs.lemmas.Str.Parse.{digit_from_value}
use Rattle.std.specs.Fmt.{decimal}
use Rattle.std.specs.List.{list_any}
use Rattle.std.specs.Str.Parse.{AllDigits}
use Rattle.hub_ask.specs.Asking.{IsAnswered, IsBrokenOff}
use Rattle.hub_ask.specs.Outcomes.{TellsOfWait, status_of}
use Rattle.hub_ask.specs.Waiting.{Asking, AsksAbout, IsEnded, wait_words}
use Rattle.hub_ask.specs.declared.client.Client.{Client}
use Rattle.hub_requests.specs.declared.bounds.TheConstants.{MOST_TURNS}
use Rattle.hub_ask.specs.declared.outcome.Outcome.{Outcome}
use Rattle.hub_ask.specs.declared.waiting.TheConstants.{GRACE}
use Rattle.hub_client.specs.Passing.{has_lf}
use Rattle.hub_dialing.specs.Dialing.{Dialing, OverOne}
use Rattle.hub_commands.specs.Waiting.{AreOneWait, AsksAfterTry, Begins, EndsSo, EndsTry, GoesOn, IsAt, IsPart, IsPassing, IsTried, PutsOff, WaitsFor, WaitsOn, Wishing}
use Rattle.hub_endings.specs.declared.ending.Ending.{Ending}
use Rattle.hub_endings.specs.declared.ending.Ending.TheVariants.{Refused, Stopped, Unreached, Failed}
use Rattle.hub_endings.specs.declared.fault.Fault.{Fault}
use Rattle.hub_endings.specs.declared.fault.Fault.TheVariants.{Memory, Ask}
use Rattle.hub_ask.specs.declared.fault.AskError.{AskError}
use Rattle.hub_ask.specs.declared.fault.AskError.TheVariants.{NoAnswer}

-- ---- the lines of a wait

-- no digit is an LF
digits_no_lf : (digits : List ℕ) → AllDigits 10 digits → has_lf digits ≡ false
digits_no_lf [] all = refl
digits_no_lf (c ∷ cs) all =
    let digit = digit_from_value c all.0 in
    ap (λ t. t || has_lf cs) (ne_eqb c 10 (λ e. omega (arith, digit, e))) ∙ digits_no_lf cs all.1

decimal_no_lf : (n : ℕ) → n < 2 ^ 64 → has_lf (codes " " ++ decimal n) ≡ false
decimal_no_lf n few = digits_no_lf (decimal n) (decimal_is_IsNumeral n few).0.1

-- what comes behind decides, if the front is the same
behind : (front one other : List ℕ) → has_lf one ≡ has_lf other → has_lf (front ++ one) ≡ has_lf (front ++ other)
behind front one other same =
    list_any-append (λ b. b == 10) front one ∙ ap (λ t. list_any (λ b. b == 10) front || t) same ∙ sym (list_any-append (λ b. b == 10) front other)

in_front : (front rest : List ℕ) → has_lf front ≡ false → has_lf (front ++ rest) ≡ has_lf rest
in_front front rest cut = list_any-append (λ b. b == 10) front rest ∙ ap (λ t. t || has_lf rest) cut

-- the number of turns doesn't make several lines of one
pub same_cut : (span want names : List ℕ) (one other : ℕ) → one < 2 ^ 64 → other < 2 ^ 64
    → has_lf (wait_words span want one names) ≡ has_lf (wait_words span want other names)
same_cut span want names one other few less =
    let rest : List ℕ = (codes " " ++ names) ++ [] in
    let first : List ℕ = (codes " " ++ decimal one) ++ rest in
    let second : List ℕ = (codes " " ++ decimal other) ++ rest in
    let numbers : has_lf first ≡ has_lf second =
    in_front (codes " " ++ decimal one) rest (decimal_no_lf one few) ∙ sym (in_front (codes " " ++ decimal other) rest (decimal_no_lf other less)) in
    behind (codes "wait") ((codes " " ++ span) ++ ((codes " " ++ want) ++ first)) ((codes " " ++ span) ++ ((codes " " ++ want) ++ second))
    (behind (codes " " ++ span) ((codes " " ++ want) ++ first) ((codes " " ++ want) ++ second) (behind (codes " " ++ want) first second numbers))

-- so if the first line isn't several, none is
pub not_cut : (span want names items : List ℕ) (first turns : ℕ) → first ≤ MOST_TURNS → turns ≤ MOST_TURNS → has_lf (wait_words span want first items) ≡ false → names ≡ items
    → has_lf (wait_words span want turns names) ≡ true → ⊥
not_cut span want names items first turns few less cut same is =
    let more : turns < 2 ^ 64 = omega arith in
    let most : first < 2 ^ 64 = omega arith in
    let e : has_lf (wait_words span want turns items) ≡ has_lf (wait_words span want first items) = same_cut span want items turns first more most in
    let broken : has_lf (wait_words span want turns items) ≡ true = subst (λ n. has_lf (wait_words span want turns n) ≡ true) same is in
    cc

-- ---- the tries

-- nothing was tried yet
pub at_first : {D SR SW : Type 0} (d : Dialing D SR SW) (w : Wishing) (first : ℕ) (old : D) → IsAt d w first old old first
at_first d w first old = record { before = []; tried = refl; next = refl }

-- a fault of an exchange passes only if the line was a part of the wait
part_passes : (want : List ℕ) (turns : ℕ) (error : AskError) → IsPassing want turns (Ask error) → IsPart want turns
part_passes want turns NoAnswer passes = passes
part_passes want turns error passes = absurd passes

-- a try that came to nothing
pub put_off : {D SR SW T : Type 0} (d : Dialing D SR SW) (w : Wishing) (old new : D) (turns : ℕ) (line : List ℕ) (text : T → List ℕ) (tried later : Result (Client SR SW × T) Fault)
    → line ≡ w.line turns → IsTried d old new w.socket (turns + GRACE) line text tried → GoesOn w.is_now w.want turns text tried → AsksAfterTry d.contents tried later → PutsOff d w turns old new
put_off d w old new turns line text (Err fault) later same (inl reached) on asked = (on.0, inl (fault, on.1, reached))
put_off d w old new turns line text (Err fault) later same (inr it) on asked = (
  on.0,
  inr (record {
    receive = it.2.receive;
    receives = it.2.receives;
    send = it.2.send;
    sends = it.2.sends;
    reached = it.2.reached;
    over = inr (
      part_passes w.want turns it.0 (subst (IsPassing w.want turns) it.1 on.1),
      subst (λ l. IsBrokenOff (d.contents it.2.send) (d.contents it.2.sends) (d.remaining it.2.receive) (d.remaining it.2.receives) l) same it.2.over,
    );
  }),
)
put_off d w old new turns line text (Ok it) (Err fault) same tried on asked = absurd asked
put_off d w old new turns line text (Ok it) (Ok later) same tried on asked = (
  on.0,
  inr (record {
    receive = tried.receive;
    receives = later.0.receiver;
    send = tried.send;
    sends = later.0.sender;
    reached = tried.reached;
    over = inl (
      text it.1,
      d.contents it.0.sender,
      d.remaining it.0.receiver,
      subst (λ l. IsAnswered (d.contents tried.send) (d.contents it.0.sender) (d.remaining tried.receive) (d.remaining it.0.receiver) l (text it.1)) same tried.answered,
      on.1,
      asked,
    );
  }),
)

-- and one more
pub one_more_try : {D SR SW T : Type 0} (d : Dialing D SR SW) (w : Wishing) (first : ℕ) (old now new : D) (turns next : ℕ) (line : List ℕ) (text : T → List ℕ) (tried later : Result (Client SR SW × T) Fault)
    → IsAt d w first old now turns → line ≡ w.line turns → IsTried d now new w.socket (turns + GRACE) line text tried → GoesOn w.is_now w.want turns text tried → AsksAfterTry d.contents tried later → next ≤ turns
    → IsAt d w first old new next
one_more_try d w first old now new turns next line text tried later at same came on asked fewer =
    record { before = turns ∷ at.before; tried = (now, at.tried, at.next, put_off d w now new turns line text tried later same came on asked); next = fewer }

-- ---- the end

-- by a fault of the last try
ends_by_fault : {D SR SW : Type 0} (d : Dialing D SR SW) (w : Wishing) (first : ℕ) (old between new : D) (turns : ℕ) (line : List ℕ)
    (untouched : Type 0) (held holds : Option (List ℕ)) (fault : Fault)
    → IsAt d w first old between turns → line ≡ w.line turns → has_lf line ≡ false
    → (d.reaches between w.socket (turns + GRACE) (Err fault) new)
    ⊎ ((error : AskError) × (fault ≡ Ask error) × OverOne d between new w.socket (turns + GRACE) (λ sent sends had has. IsBrokenOff sent sends had has line))
    → untouched → holds ≡ held → WaitsOn d w first old new untouched held holds (Err (Failed fault))
ends_by_fault d w first old between new turns line untouched held holds fault at same cut (inl reached) kept still = record {
  between = between;
  turns = turns;
  at = at;
  last = inr (inl (subst (λ l. has_lf l ≡ false) same cut, reached, kept));
}
ends_by_fault d w first old between new turns line untouched held holds fault at same cut (inr it) kept still = record {
  between = between;
  turns = turns;
  at = at;
  last = inr (inr (
    subst (λ l. has_lf l ≡ false) same cut,
    it.0,
    it.1,
    record {
      receive = it.2.receive;
      receives = it.2.receives;
      send = it.2.send;
      sends = it.2.sends;
      reached = it.2.reached;
      over = inl (subst (λ l. IsBrokenOff (d.contents it.2.send) (d.contents it.2.sends) (d.remaining it.2.receive) (d.remaining it.2.receives) l) same it.2.over, still);
    },
  ));
}

-- by the last try
pub ends_by_try : {D SR SW T : Type 0} (d : Dialing D SR SW) (w : Wishing) (first : ℕ) (old between new : D) (turns : ℕ) (line : List ℕ) (text : T → List ℕ)
    (untouched : Type 0) (held holds : Option (List ℕ)) (tried : Result (Client SR SW × T) Fault) (result : Result ℕ Ending)
    → IsAt d w first old between turns → line ≡ w.line turns → has_lf line ≡ false → IsTried d between new w.socket (turns + GRACE) line text tried
    → EndsTry d.remaining d.contents w.services w.is_quiet w.asks untouched held holds text tried result → WaitsOn d w first old new untouched held holds result
ends_by_try d w first old between new turns line text untouched held holds (Err fault) result at same cut came ends =
    subst (λ r. WaitsOn d w first old new untouched held holds r) (sym ends.0)
    (ends_by_fault d w first old between new turns line untouched held holds fault at same cut came ends.1 ends.2)
ends_by_try d w first old between new turns line text untouched held holds (Ok it) (Ok status) at same cut came ends = record {
  between = between;
  turns = turns;
  at = at;
  last = (
    subst (λ l. has_lf l ≡ false) same cut,
    ends.0,
    ends.1,
    record {
      receive = came.receive;
      receives = ends.2.receiver;
      send = came.send;
      sends = ends.2.sender;
      reached = came.reached;
      over = record {
        reply = text it.1;
        sends' = d.contents it.0.sender;
        has' = d.remaining it.0.receiver;
        answered = subst (λ l. IsAnswered (d.contents came.send) (d.contents it.0.sender) (d.remaining came.receive) (d.remaining it.0.receiver) l (text it.1)) same came.answered;
        ended = ends.3;
      };
    },
  );
}
ends_by_try d w first old between new turns line text untouched held holds (Ok it) (Err (Refused _)) at same cut came ends = absurd ends
ends_by_try d w first old between new turns line text untouched held holds (Ok it) (Err (Stopped report)) at same cut came ends = absurd ends
ends_by_try d w first old between new turns line text untouched held holds (Ok it) (Err (Unreached hub)) at same cut came ends = absurd ends
ends_by_try d w first old between new turns line text untouched held holds (Ok it) (Err (Failed fault)) at same cut came ends = record {
  between = between;
  turns = turns;
  at = at;
  last = inr (inr (
    subst (λ l. has_lf l ≡ false) same cut,
    ends.0,
    ends.1,
    record {
      receive = came.receive;
      receives = it.0.receiver;
      send = came.send;
      sends = it.0.sender;
      reached = came.reached;
      over = inr (
        text it.1,
        subst (λ l. IsAnswered (d.contents came.send) (d.contents it.0.sender) (d.remaining came.receive) (d.remaining it.0.receiver) l (text it.1)) same came.answered,
        ends.2,
      );
    },
  ));
}

-- without memory for a line
pub ends_without_memory : {D SR SW : Type 0} (d : Dialing D SR SW) (w : Wishing) (first : ℕ) (old between : D) (turns : ℕ)
    (untouched : Type 0) (held holds : Option (List ℕ)) (result : Result ℕ Ending)
    → IsAt d w first old between turns → IsErrAnd result (λ it. it ≡ Failed Memory) → untouched → WaitsOn d w first old between untouched held holds result
ends_without_memory d w first old between turns untouched held holds (Ok status) at is kept = absurd is
ends_without_memory d w first old between turns untouched held holds (Err other) at is kept =
    subst (λ e. WaitsOn d w first old between untouched held holds (Err e)) (sym is) (record {
      between = between;
      turns = turns;
      at = at;
      last = inl (refl, refl, kept);
    })

-- ---- the end of the last try

-- quietly
pub ends_quietly : {SR SW T : Type 0} (remaining : SR → Option (List ℕ)) (contents : SW → Option (List ℕ)) (services : ℕ) (is_quiet : Bool) (asks : Asking) (untouched : Type 0) (held : Option (List ℕ)) (text : T → List ℕ)
    (tried : Result (Client SR SW × T) Fault) (it : Client SR SW × T) (reply : List ℕ) (status : ℕ) (outcome : Outcome)
    → tried ≡ Ok it → text it.1 ≡ reply → is_quiet ≡ true → status ≡ status_of outcome → TellsOfWait services reply (Some outcome)
    → EndsTry remaining contents services is_quiet asks untouched held held text tried (Ok status)
ends_quietly remaining contents services is_quiet asks untouched held text tried it reply status outcome came same quiet is told =
    let said : TellsOfWait services (text it.1) (Some outcome) = subst (λ r. TellsOfWait services r (Some outcome)) (sym same) told in
    subst (λ t. EndsTry remaining contents services is_quiet asks untouched held held text t (Ok status)) (sym came)
    (outcome, is, it.0, subst (λ q. EndsSo services q (contents it.0.sender) (contents it.0.sender) (remaining it.0.receiver) (remaining it.0.receiver) held held (text it.1) asks outcome) (sym quiet) (said, refl, refl, refl))

-- or with what is written
pub ends_aloud : {SR SW T N : Type 0} (remaining : SR → Option (List ℕ)) (contents : SW → Option (List ℕ)) (is_quiet : Bool) (want : List ℕ) (name : N → List ℕ) (names items : List N)
    (untouched : Type 0) (held holds : Option (List ℕ)) (text : T → List ℕ) (tried : Result (Client SR SW × T) Fault) (it : Client SR SW × T) (client later : Client SR SW) (reply : List ℕ) (status : ℕ) (outcome : Outcome)
    → tried ≡ Ok it → it.0 ≡ client → text it.1 ≡ reply → names ≡ items → is_quiet ≡ false → status ≡ status_of outcome
    → IsEnded (length names) (contents client.sender) (contents later.sender) (remaining client.receiver) (remaining later.receiver) held holds reply (AsksAbout want name names) outcome
    → EndsTry remaining contents (length items) is_quiet (AsksAbout want name items) untouched held holds text tried (Ok status)
ends_aloud remaining contents is_quiet want name names items untouched held holds text tried it client later reply status outcome came one same listed loud is ended =
    let by_client : IsEnded (length names) (contents it.0.sender) (contents later.sender) (remaining it.0.receiver) (remaining later.receiver) held holds reply (AsksAbout want name names) outcome =
    subst (λ k. IsEnded (length names) (contents k.sender) (contents later.sender) (remaining k.receiver) (remaining later.receiver) held holds reply (AsksAbout want name names) outcome) (sym one) ended in
    let by_reply : IsEnded (length names) (contents it.0.sender) (contents later.sender) (remaining it.0.receiver) (remaining later.receiver) held holds (text it.1) (AsksAbout want name names) outcome =
    subst (λ r. IsEnded (length names) (contents it.0.sender) (contents later.sender) (remaining it.0.receiver) (remaining later.receiver) held holds r (AsksAbout want name names) outcome) (sym same) by_client in
    let by_names : IsEnded (length items) (contents it.0.sender) (contents later.sender) (remaining it.0.receiver) (remaining later.receiver) held holds (text it.1) (AsksAbout want name items) outcome =
    subst (λ n. IsEnded (length n) (contents it.0.sender) (contents later.sender) (remaining it.0.receiver) (remaining later.receiver) held holds (text it.1) (AsksAbout want name n) outcome) listed by_reply in
    subst (λ t. EndsTry remaining contents (length items) is_quiet (AsksAbout want name items) untouched held holds text t (Ok status)) (sym came)
    (outcome, is, later, subst (λ q. EndsSo (length items) q (contents it.0.sender) (contents later.sender) (remaining it.0.receiver) (remaining later.receiver) held holds (text it.1) (AsksAbout want name items) outcome) (sym loud) by_names)

-- ---- the whole command

-- a wait whose first line has the turns of its limit
pub waits_so : {D SR SW : Type 0} (d : Dialing D SR SW) (w : Wishing) (limit : Option ℕ) (turns : ℕ) (old new : D) (untouched : Type 0) (held holds : Option (List ℕ)) (nothing : Type 0) (result : Result ℕ Ending)
    → Begins w.want limit (Ok turns) → AreOneWait w.are_names w.services (length (w.line turns)) → WaitsOn d w turns old new untouched held holds result → WaitsFor d w limit old new untouched held holds nothing result
waits_so d w limit turns old new untouched held holds nothing result begins fits on =
    inr (
      subst (λ n. AreOneWait w.are_names w.services (length (w.line n))) begins.0 fits,
      subst (λ n. WaitsOn d w n old new untouched held holds result) begins.0 on,
    )
