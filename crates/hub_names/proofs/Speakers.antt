-- A publisher that spoke.
use Rattle.std.proofs.Common.{◌≡◌, ◌≢◌, ℕ, List, true, Result, Ok, Err, IfOk, IfErr, OnOk, OnErr, Some, inl, refl, sym, subst, ap, ◌∙◌, arith}
use Rattle.hub_requests.specs.declared.reply.Reply.{Reply}
use Rattle.hub_requests.specs.declared.reply.Reply.TheVariants.{State}
use Rattle.hub_letters.specs.declared.state.State as state
use Rattle.hub_letters.specs.States.{is_at_end}
use Rattle.hub_record.specs.World.{letters}
use Rattle.hub_record.specs.declared.PubError.{PubError}
use Rattle.hub_record.specs.declared.Status.{Status}
use Rattle.hub_requests.specs.Refusals.{reply_to_publish}
use Rattle.hub_fifodir.specs.declared.fifodir.Fifodir.{Fifodir}
use Rattle.hub_fifodir.specs.declared.publisher.Publisher.{Publisher}
use Rattle.hub_fifodir.specs.declared.views.Sight.{Sight}
use Rattle.hub_fifodir.specs.Passes.{IsStatusOf, OnlyLooks, KnewOwnClose, HasPublished, IsRefusedAt, Remains, mine, seen_by, word_told, word_to_tell, publisher_number, publisher_sight, publisher_view, closed_mark}
use Rattle.hub_fifodir.specs.Rule.{IsNumbered}
use Rattle.hub_fifodir.specs.Steps.{mine_of}
use Rattle.hub_names.specs.declared.joined.Joined.{Joined}
use Rattle.hub_names.specs.Says.{says_published, says_status, says_told}
use Rattle.hub_names.specs.Speaking.{AsksAsPublisher, IsSpeaker, fifodir_of, publisher_of}

-- it was kept or is new, and is kept as it is after a call of its fifodir
pub spoke : (says : Publisher → Reply → Publisher → Type 0) (dir : Fifodir) (old new : Joined) (reply : Reply) (p q : Publisher) → IsSpeaker (fifodir_of old) (publisher_of old) p
    → new.found ≡ old.found → publisher_of new ≡ Some q → Remains dir (publisher_view p) (publisher_view q) → says p reply q → AsksAsPublisher says old reply new
spoke says dir old new reply p q speaker found kept remains said = inl (record {
  before = p;
  after = q;
  spoken = record { found = found; speaker = speaker; kept = kept; same = remains.number; seen = remains.seen };
  said = said;
})

-- one that only looked knew of its own close, as one that spoke does
knew : (p q : Publisher) → OnlyLooks (publisher_view p) (publisher_view q) → KnewOwnClose p q
knew p q looks e z =
    let number = publisher_number p in
    let numbered : IsNumbered number (publisher_view p).role = subst (IsNumbered number) (sym p.is_writer.role) refl in
    let closes : closed_mark q ≡ number = e ∙ looks.number in
    let positive = p.positive in
    let some : number ≢ 0 = λ w. absurd (omega (arith, w, positive)) in
    let alike = looks.own number numbered closes some in
    some (sym closes ∙ sym (ap (λ (s : Sight). s.closed) alike) ∙ z)

-- so it is told the status
pub told : (p q : Publisher) (status : Status) → OnlyLooks (publisher_view p) (publisher_view q) → IsStatusOf status (publisher_sight q) → says_status p (State status) q
told p q status looks is = (is, knew p q looks, ap mine_of looks.role)

-- ---- what is answered to a message, and to a state

pub says_so : (p q : Publisher) (letters : List ℕ) (r : Result ℕ PubError) → IfOk r (λ n. HasPublished p letters n q) → IfErr r (IsRefusedAt q letters) → OnErr r (mine q ≡ mine p)
    → KnewOwnClose p q → says_published letters p (reply_to_publish r) q
says_so p q letters (Ok n) ok refused still own = ok
says_so p q letters (Err error) ok refused still own = (error, refl, refused, still, own)

pub tells_so : (p q : Publisher) (state : state.State) (r : Result ℕ PubError) → IfOk r (λ n. HasPublished p (word_told state n q) n q) → OnOk r (is_at_end state (letters (seen_by q)) ≡ true)
    → IfErr r (IsRefusedAt q (word_to_tell state q)) → OnErr r (mine q ≡ mine p) → KnewOwnClose p q → says_told state p (reply_to_publish r) q
tells_so p q state (Ok n) ok there refused still own = (ok, there)
tells_so p q state (Err error) ok there refused still own = (error, refl, refused, still, own)
