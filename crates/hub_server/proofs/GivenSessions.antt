-- What a gate was asked for.
use Rattle.std.proofs.Common.{◌≡◌, ℕ, ◌+◌, List, [], ◌∷◌, ◌++◌, length, refl, sym, ap, subst, ◌∙◌, arith, Bool, true, false, ◌≤◌, ◌<◌, inl, inr, Result, Ok, Err, IfErr}
use Rattle.std.proofs.lemmas.List.{length_push}
use Rattle.hub_front.specs.declared.stay.Stay.{Stay}
use Rattle.hub_server.specs.declared.gate.Next.TheVariants as next
use Rattle.hub_server.specs.declared.promise.Session.{Session}
use Rattle.hub_reports.specs.declared.report.ServeError.{ServeError}
use Rattle.hub_server.specs.Gates.{Giving, Gave, IsAsked, StopsEarly}
use Rattle.hub_server.specs.Promised.{AreOver, IsShare, streams_of}
use Rattle.std.proofs.lemmas.List.Elements.{All-push}

-- one session more
pub gave_one_more : {G R W : Type 0} (gives : Giving G R W) (old : G) (given : List (R × W)) (gate new : G) (session : R × W)
    → Gave gives old given gate → gives gate (next.Session session.0 session.1) new → Gave gives old (given ++ session ∷ []) new
gave_one_more gives old [] gate new session gave one = (new, subst (λ g. gives g (next.Session session.0 session.1) new) gave one, refl)
gave_one_more gives old (first ∷ given) gate new session gave one =
    (gave.0, gave.1, gave_one_more gives gave.0 given gate new session gave.2 one)

streams_of-snoc : {R W O : Type 0} (sessions : List (Session R W O)) (session : Session R W O)
    → streams_of (sessions ++ session ∷ []) ≡ streams_of sessions ++ (session.reader.value, session.writer.value) ∷ []
streams_of-snoc [] session = refl
streams_of-snoc (first ∷ sessions) session =
    ap (λ streams. (first.reader.value, first.writer.value) ∷ streams) (streams_of-snoc sessions session)

pub gave_another : {G R W O : Type 0} (gives : Giving G R W) (old gate new : G) (sessions sessions' : List (Session R W O)) (session : Session R W O)
    (reader : R) (writer : W) → sessions' ≡ sessions ++ session ∷ [] → session.reader.value ≡ reader → session.writer.value ≡ writer
    → Gave gives old (streams_of sessions) gate → gives gate (next.Session reader writer) new
    → Gave gives old (streams_of sessions') new × (length (streams_of sessions') ≡ length (streams_of sessions) + 1)
gave_another {R = R} {W = W} gives old gate new sessions sessions' session reader writer pushed same_reader same_writer gave one =
    let streams : R × W = (session.reader.value, session.writer.value) in
    let more : streams_of sessions' ≡ streams_of sessions ++ streams ∷ [] = ap streams_of pushed ∙ streams_of-snoc sessions session in
    let gives_it : gives gate (next.Session streams.0 streams.1) new =
    subst (λ r. gives gate (next.Session r streams.1) new) (sym same_reader) (subst (λ w. gives gate (next.Session reader w) new) (sym same_writer) one) in (
      subst (λ given. Gave gives old given new) (sym more) (gave_one_more gives old (streams_of sessions) gate new streams gave gives_it),
      ap length more ∙ length_push (streams_of sessions) streams,
    )

-- the thread of the last session couldn't be started
asked_for_one_more : {G R W : Type 0} (gives : Giving G R W) (most : ℕ) (old gate new : G) (given : List (R × W)) (reader : R) (writer : W) (error : ServeError)
    → length given < most → Gave gives old given gate → gives gate (next.Session reader writer) new → StopsEarly gives most old new error
asked_for_one_more gives most old gate new given reader writer error room gave one = record {
  given = given ++ (reader, writer) ∷ [];
  gate = new;
  gave = gave_one_more gives old given gate new (reader, writer) gave one;
  few = let longer = length_push given (reader, writer) in omega arith;
  ends = inl refl;
  spawn = λ refused spawn. ((let longer = length_push given (reader, writer) in omega arith), refl);
}

-- so whatever error is told, it stopped early
pub stops_for_one_more : {G R W T : Type 0} (gives : Giving G R W) (most : ℕ) (old gate new : G) (given : List (R × W)) (reader : R) (writer : W) (result : Result T ServeError)
    → length given < most → Gave gives old given gate → gives gate (next.Session reader writer) new → IfErr result (StopsEarly gives most old new)
stops_for_one_more gives most old gate new given reader writer (Ok done) room gave one = tt
stops_for_one_more gives most old gate new given reader writer (Err error) room gave one = asked_for_one_more gives most old gate new given reader writer error room gave one

-- no more were given than are wanted
pub given_few : {G R W : Type 0} (gives : Giving G R W) (most : ℕ) (old : G) (given : List (R × W)) (failed : Bool) (new : G)
    → IsAsked gives most old given failed new → length given ≤ most
given_few gives most old given true new asked = let short = asked.ends.0 in omega arith
given_few gives most old given false new asked = elim asked.ends [ inl full ↦ (let all = full.0 in omega arith) | inr over ↦ (let short = over.0 in omega arith) ]

-- one more whose desk is from a share of these
pub over_one_more : {R W O D : Type 0} (opens : O → D → Type 0) (stay : O → Stay) (desks : O) (sessions sessions' : List (Session R W O)) (session : Session R W O)
    → sessions' ≡ sessions ++ session ∷ [] → AreOver opens stay desks sessions → IsShare opens stay desks session.desks.value
    → AreOver opens stay desks sessions'
over_one_more opens stay desks sessions sessions' session pushed over here =
    subst (AreOver opens stay desks) (sym pushed) (All-push (λ s. IsShare opens stay desks s.desks.value) sessions session over here)
