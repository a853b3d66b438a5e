-- What `follow` does over one connection after another.
use Rattle.std.proofs.Common.{◌≡◌, ◌≤◌, ℕ, suc, List, true, false, Option, None, Some, MatchOption, is_some, Result, Ok, Err, IsErrAnd, MatchResult, refl, sym, ap, ◌∙◌, inl, inr, subst}
use Rattle.hub_options.specs.declared.asking.Follow.{Follow}
use Rattle.hub_ask.specs.declared.deadline.Deadline.{Deadline}
use Rattle.hub_ask.specs.declared.exchanging.TheConstants.{ANSWER}
use Rattle.hub_ask.specs.declared.fault.AskError.{AskError}
use Rattle.hub_ask.specs.declared.fault.AskError.TheVariants.{NoAnswer}
use Rattle.hub_ask.specs.declared.outcome.Outcome.{Outcome}
use Rattle.hub_ask.specs.declared.outcome.Outcome.TheVariants.{Late}
use Rattle.hub_look.specs.Looks.{OnlyLooks}
use Rattle.hub_look.specs.declared.following.Following.{Following}
use Rattle.hub_io.specs.Counted.{Writing}
use Rattle.hub_reports.specs.declared.report.Report.{Report}
use Rattle.hub_ask.specs.Streams.{Going}
use Rattle.hub_showing.specs.Breaking.{follow_breaks}
use Rattle.hub_dialing.specs.Dialing.{Dialing}
use Rattle.hub_showing.specs.Following.{AfterLooks, AreTried, Course, FailsThere, FollowsAsTold, FollowsOn, FollowsThere, Having, IsAbsence, IsGoodFollow, IsLimitOfFollow, IsLookedThere, IsReached, IsSilent, IsUnreached, IsUntil, LooksThere, course, following_wanted, is_some_of, some_of}
use Rattle.hub_endings.specs.Words.{IsLimit}
use Rattle.hub_endings.specs.declared.ending.Ending.{Ending}
use Rattle.hub_endings.specs.declared.ending.Ending.TheVariants.{Refused, Stopped, Unreached, Failed}
use Rattle.hub_endings.specs.declared.reach_fault.Unreached as hubs
use Rattle.hub_endings.specs.declared.fault.Fault.{Fault}
use Rattle.hub_endings.specs.declared.fault.Fault.TheVariants.{Ask}

-- this went over the connection that was made
pub there_so : {D SR SW F : Type 0} (c : Course D SR SW F) (before after : Having D F) (went : Going) (millis : ℕ) (first begun : SW) (receives : SR) (sends : SW) (sent had : Option (List ℕ))
    → millis ≤ ANSWER → IsReached c.dialing before.dialer after.dialer c.socket millis first sent had → begun ≡ first
    → ∥ OnlyLooks (c.dialing.contents begun) (c.dialing.contents sends) ∥₁ → went sent (c.dialing.contents sends) had (c.dialing.remaining receives) → LooksThere c before after went
there_so c before after went millis first begun receives sends sent had few reached is_begun looks over = record {
  millis = millis;
  few = few;
  over = record {
    receive = reached.receive;
    receives = receives;
    send = first;
    sends = sends;
    reached = reached.reached;
    over = (
      subst (λ it. ∥ OnlyLooks (c.dialing.contents it) (c.dialing.contents sends) ∥₁) is_begun looks,
      subst (λ it. went it (c.dialing.contents sends) (c.dialing.remaining reached.receive) (c.dialing.remaining receives)) reached.is_sent
          (subst (λ it. went sent (c.dialing.contents sends) it (c.dialing.remaining receives)) reached.is_had over),
    );
  };
}

-- the same, if they may have been looked at first
pub there_after : {D SR SW F : Type 0} (c : Course D SR SW F) (before after : Having D F) (went : Going) (millis : ℕ) (first begun : SW) (receives : SR) (sends : SW) (sent had begins left : Option (List ℕ))
    → millis ≤ ANSWER → IsReached c.dialing before.dialer after.dialer c.socket millis first sent had → begun ≡ first
    → ∥ OnlyLooks (c.dialing.contents begun) (c.dialing.contents sends) ∥₁ → (c.is_again ≡ false → (begins ≡ sent) × (left ≡ had))
    → went begins (c.dialing.contents sends) left (c.dialing.remaining receives) → LooksThere c before after (AfterLooks c.is_again went)
there_after c before after went millis first begun receives sends sent had begins left few reached is_begun looks same over =
    there_so c before after (AfterLooks c.is_again went) millis first begun receives sends sent had few reached is_begun looks
    (record { begun = begins; left = left; first = same; over = over })

-- nothing went over it yet
pub same_streams : {P SR SW : Type 0} (contents : SW → Option (List ℕ)) (remaining : SR → Option (List ℕ)) (sender : P → SW) (receiver : P → SR) (old new : P) → new ≡ old
    → (contents (sender new) ≡ contents (sender old)) × (remaining (receiver new) ≡ remaining (receiver old))
same_streams contents remaining sender receiver old new same = (ap (λ it. contents (sender it)) same, ap (λ it. remaining (receiver it)) same)

-- they were only looked at
pub looked_there : {D SR SW F : Type 0} (c : Course D SR SW F) (before after : Having D F) (millis : ℕ) (first begun : SW) (receives : SR) (sends : SW) (sent had : Option (List ℕ))
    → millis ≤ ANSWER → IsReached c.dialing before.dialer after.dialer c.socket millis first sent had → begun ≡ first
    → ∥ OnlyLooks (c.dialing.contents begun) (c.dialing.contents sends) ∥₁ → IsSilent before after → IsLookedThere c before after
looked_there c before after millis first begun receives sends sent had few reached is_begun looks silent =
    (silent, there_so c before after (λ sent sends had has. Unit {0}) millis first begun receives sends sent had few reached is_begun looks tt)

-- following them there failed, and that is told by a fault
pub there_in_vain : {D SR SW F : Type 0} (c : Course D SR SW F) (before : Having D F) (dialer : D) (notes noted : F) (held : Option (List ℕ)) (result : Result (Option Outcome) Fault) (fault : Fault) (error : AskError)
    → IsErrAnd result (λ it. it ≡ fault) → fault ≡ Ask error → noted ≡ notes → FailsThere c before (record { dialer = dialer; notes = notes; held = held }) error
    → FollowsThere c before (record { dialer = dialer; notes = noted; held = held }) result
there_in_vain c before dialer notes noted held (Ok went) fault error is same stays fails = absurd is
there_in_vain c before dialer notes noted held (Err other) fault error is same stays fails =
    inr (error, is ∙ same, inl (subst (λ it. FailsThere c before (record { dialer = dialer; notes = it; held = held }) error) (sym stays) fails))

-- ---- no connection

pub unreached_so : {D SR SW F : Type 0} (c : Course D SR SW F) (before after : Having D F) (fault : Fault) (result : Result (Option Outcome) Fault) → IsUnreached c before after fault
    → MatchResult result
    (λ it. MatchOption it ((c.is_again ≡ true) × IsAbsence fault) (λ went. (went ≡ Late) × (c.manner.is_timed ≡ true) × (fault ≡ Ask NoAnswer)))
    (λ it. it ≡ fault)
    → FollowsThere c before after result
unreached_so c before after fault (Ok None) unreached h = inr (h.0, inl (fault, h.1, unreached))
unreached_so c before after fault (Ok (Some went)) unreached h = inr (h.0, (h.1, inr (subst (IsUnreached c before after) h.2 unreached)))
unreached_so c before after fault (Err other) unreached h = inl (subst (IsUnreached c before after) (sym h) unreached)

-- ---- one connection after another

-- one more was tried
pub tried_more : {D SR SW F : Type 0} (d : Dialing D SR SW) (socket : List ℕ) (n : Writing F) (wanted : Follow) (until : Option Deadline) (count : ℕ) (before between after : Having D F) (following : Following)
    → following ≡ following_wanted wanted until (is_some_of count) → AreTried d socket n wanted until count before between
    → FollowsThere (course d socket n following wanted.is_patient) between after (Ok None) → AreTried d socket n wanted until (suc count) before after
tried_more d socket n wanted until count before between after following is tried last =
    (between, tried, subst (λ it. FollowsThere (course d socket n it wanted.is_patient) between after (Ok None)) is last)

-- the last one was tried
pub follows_on : {D SR SW F : Type 0} (d : Dialing D SR SW) (socket : List ℕ) (n : Writing F) (wanted : Follow) (until : Option Deadline) (count : ℕ) (before between after : Having D F) (following : Following)
    (last : Result (Option Outcome) Fault) → IsUntil wanted.timeout until → following ≡ following_wanted wanted until (is_some_of count) → AreTried d socket n wanted until count before between
    → FollowsThere (course d socket n following wanted.is_patient) between after last → FollowsOn d socket n wanted before after last
follows_on d socket n wanted until count before between after following last timed is tried ended = record {
  until = until;
  timed = timed;
  count = count;
  between = between;
  tried = tried;
  ended = subst (λ it. FollowsThere (course d socket n it wanted.is_patient) between after last) is ended;
}

-- a fault ends it
pub follows_in_vain : {D SR SW F : Type 0} (d : Dialing D SR SW) (socket : List ℕ) (n : Writing F) (wanted : Follow) (before after : Having D F) (result : Result Outcome Fault) (fault : Fault)
    → IsErrAnd result (λ it. it ≡ fault) → FollowsOn d socket n wanted before after (Err fault) → FollowsOn d socket n wanted before after (some_of result)
follows_in_vain d socket n wanted before after (Ok went) fault is h = absurd is
follows_in_vain d socket n wanted before after (Err other) fault is h = subst (λ it. FollowsOn d socket n wanted before after (Err it)) (sym is) h

pub told_in_vain : {D SR SW F : Type 0} (d : Dialing D SR SW) (socket : List ℕ) (n : Writing F) (before after : Having D F) (wanted : Follow) (untouched : Type 0) (result : Result ℕ Ending) (fault : Fault)
    → IsGoodFollow wanted → IsErrAnd result (λ it. it ≡ Failed fault) → FollowsOn d socket n wanted before after (Err fault)
    → FollowsAsTold d socket n before after wanted untouched result
told_in_vain d socket n before after wanted untouched (Ok status) fault good is h = absurd is
told_in_vain d socket n before after wanted untouched (Err ending) fault good is h =
    subst (λ it. FollowsAsTold d socket n before after wanted untouched (Err it)) (sym is) (inl (good, h))

-- ---- the duration

-- there is a limit if a duration is told
pub limit_told : {T : Type 0} (text : T → List ℕ) (timeout : Option T) (limit : Option ℕ) → IsLimit text timeout (Ok limit) → is_some limit ≡ is_some timeout
limit_told text None None h = refl
limit_told text None (Some millis) h = absurd (cc h)
limit_told text (Some duration) None h = absurd h
limit_told text (Some duration) (Some millis) h = refl

never_stops : {T : Type 0} (text : T → List ℕ) (timeout : Option T) (report : Report) → IsLimit text timeout (Err (Stopped report)) → ⊥
never_stops text None report h = cc h
never_stops text (Some duration) report h = h

never_unreached : {T : Type 0} (text : T → List ℕ) (timeout : Option T) (hub : hubs.Unreached) → IsLimit text timeout (Err (Unreached hub)) → ⊥
never_unreached text None hub h = cc h
never_unreached text (Some duration) hub h = h

-- its words are refused by their duration, or memory ran out
ends_by_limit : {D SR SW F : Type 0} (d : Dialing D SR SW) (socket : List ℕ) (n : Writing F) (before after : Having D F) (wanted : Follow) (untouched : Type 0) (ending : Ending)
    → follow_breaks (λ word. word.now) wanted.pattern wanted.names.items ≡ false → IsLimitOfFollow wanted (Err ending) → after ≡ before → untouched
    → FollowsAsTold d socket n before after wanted untouched (Err ending)
ends_by_limit d socket n before after wanted untouched (Refused bad) whole limit same still = (inr limit, same, still)
ends_by_limit d socket n before after wanted untouched (Stopped report) whole limit same still = absurd (never_stops (λ word. word.now) wanted.timeout report limit)
ends_by_limit d socket n before after wanted untouched (Unreached hub) whole limit same still = absurd (never_unreached (λ word. word.now) wanted.timeout hub limit)
ends_by_limit d socket n before after wanted untouched (Failed fault) whole limit same still = inr (whole, limit, same, still)

pub told_by_limit : {D SR SW F : Type 0} (d : Dialing D SR SW) (socket : List ℕ) (n : Writing F) (before after : Having D F) (wanted : Follow) (untouched : Type 0) (result : Result ℕ Ending) (ending : Ending)
    → follow_breaks (λ word. word.now) wanted.pattern wanted.names.items ≡ false → IsErrAnd result (λ it. it ≡ ending) → IsLimitOfFollow wanted (Err ending) → after ≡ before → untouched
    → FollowsAsTold d socket n before after wanted untouched result
told_by_limit d socket n before after wanted untouched (Ok status) ending whole is limit same still = absurd is
told_by_limit d socket n before after wanted untouched (Err other) ending whole is limit same still =
    subst (λ it. FollowsAsTold d socket n before after wanted untouched (Err it)) (sym is) (ends_by_limit d socket n before after wanted untouched ending whole limit same still)
