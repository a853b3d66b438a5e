-- A publisher that tells a state as the last one to publish, again and again while there is no room; and the wills of a session in turn.
use Rattle.std.proofs.Common.{◌≡◌, ◌<◌, ◌≤◌, ◌+◌, ℕ, suc, List, [], ◌∷◌, ◌++◌, length, drop, slice_get, Option, Some, None, Bool, Result, Ok, Err, IfOk, OnOk, IfErr, OnErr, IfSome, IfNone, true, false, true≢false, refl, sym, ap, subst, ◌∙◌, arith}
use lib.Seq.{drop-cons}
use Rattle.std.proofs.lemmas.List.{append_assoc, drop_all}
use Rattle.std.proofs.lemmas.Option.{get_or_from_slice_get}
use Rattle.hub_letters.specs.declared.state.State.{State}
use Rattle.hub_letters.specs.States.{is_at_end}
use Rattle.hub_record.specs.World.{as_events, letters}
use Rattle.hub_record.specs.declared.Event.{Event}
use Rattle.hub_record.specs.declared.PubError.{PubError}
use Rattle.hub_record.specs.declared.PubError.TheVariants as post
use Rattle.hub_requests.specs.declared.will.Will.{Will}
use Rattle.hub_fifodir.specs.declared.fifodir.Fifodir.{Fifodir}
use Rattle.hub_fifodir.specs.declared.publisher.Publisher.{Publisher}
use Rattle.hub_fifodir.specs.Passes.{HasPublished, IsLast, IsRefusedAt, KnewOwnClose, Remains, WasLast, closed_mark, mine, publisher_number, publisher_sight, publisher_view, seen_by, word_told, word_to_tell}
use Rattle.hub_fifodir.proofs.Meeting.{grows_through}
use Rattle.hub_names.specs.declared.fifodirs.Fifodirs.{Fifodirs}
use Rattle.hub_names.specs.Wills.{AreCarriedOut, IsCarriedOut, counted, finds_no_room, says_as_last}

-- what a fifodir answers
pub says_last : (state : State) (p q : Publisher) (told : Option (Result ℕ PubError)) → IfSome told (λ told. IfOk told (λ n. WasLast n q)) → IfSome told (λ told. IfOk told (λ n. HasPublished p (word_told state n q) n q))
    → IfSome told (λ told. OnOk told (is_at_end state (letters (seen_by q)) ≡ true)) → IfSome told (λ told. OnErr told (IsLast q × (mine q ≡ mine p)))
    → IfSome told (λ told. IfErr told (IsRefusedAt q (word_to_tell state q))) → IfNone told ((IsLast q → ⊥) × (mine q ≡ mine p)) → KnewOwnClose p q → says_as_last state p told q
says_last state p q (Some (Ok n)) last ok there err refused none own = (last, ok, there)
says_last state p q (Some (Err error)) last ok there err refused none own = (err.0, refused, err.1, own)
says_last state p q None last ok there err refused none own = (none.0, none.1, own)

-- ---- told once more, by a publisher that had told nothing

pub remains_on : (f : Fifodir) (p q r : Publisher) → Remains f (publisher_view p) (publisher_view q) → Remains f (publisher_view q) (publisher_view r) → Remains f (publisher_view p) (publisher_view r)
remains_on f p q r a b = record {
  of = b.of;
  number = b.number ∙ a.number;
  sound = b.sound;
  seen = grows_through (publisher_sight p) (publisher_sight q) (publisher_sight r) a.seen b.seen;
}

published_on : (f : Fifodir) (p q r : Publisher) (message : List ℕ) (n : ℕ) → Remains f (publisher_view p) (publisher_view q) → mine q ≡ mine p → HasPublished q message n r → HasPublished p message n r
published_on f p q r message n a still (unclosed, ends, own, (others, seen)) =
    let before = a.seen.0 in (
      unclosed,
      ends,
      own ∙ ap (λ (m : List ℕ). m ++ message) still,
      (
        before.0 ++ others,
        seen ∙ ap (λ (l : List Event). (l ++ others) ++ as_events (publisher_number q) message) before.1
            ∙ ap (λ (l : List Event). l ++ as_events (publisher_number q) message) (append_assoc (seen_by p) before.0 others)
            ∙ ap (λ (number : ℕ). (seen_by p ++ (before.0 ++ others)) ++ as_events number message) a.number,
      ),
    )

-- who had seen it open, and knew of its own close since, closed nothing
open_before : (p q r : Publisher) → closed_mark q ≡ 0 → KnewOwnClose q r → KnewOwnClose p r
open_before p q r unclosed own = λ closes. absurd (own closes unclosed)

pub says_on : (f : Fifodir) (state : State) (p q r : Publisher) (told : Option (Result ℕ PubError)) → Remains f (publisher_view p) (publisher_view q) → (mine q ≡ mine p) × (closed_mark q ≡ 0) → says_as_last state q told r → says_as_last state p told r
says_on f state p q r (Some (Ok n)) a still (last, published, there) = (last, published_on f p q r (word_told state n r) n a still.0 published, there)
says_on f state p q r (Some (Err error)) a still (last, refused, same, own) = (last, refused, same ∙ still.0, open_before p q r still.1 own)
says_on f state p q r None a still (other, same, own) = (other, same ∙ still.0, open_before p q r still.1 own)

-- who finds no room has told nothing, and has seen the fifodir open
nothing_told : (state : State) (p q : Publisher) (told : Option (Result ℕ PubError)) → finds_no_room told ≡ true → says_as_last state p told q → (mine q ≡ mine p) × (closed_mark q ≡ 0)
nothing_told state p q (Some (Ok n)) full said = absurd (true≢false (sym full))
nothing_told state p q (Some (Err post.Full)) full said = (said.2, said.1.0)
nothing_told state p q (Some (Err post.Closed)) full said = absurd (true≢false (sym full))
nothing_told state p q (Some (Err (post.Unlawful i))) full said = absurd (true≢false (sym full))
nothing_told state p q (Some (Err post.Spent)) full said = absurd (true≢false (sym full))
nothing_told state p q None full said = absurd (true≢false (sym full))

pub says_again : (f : Fifodir) (state : State) (p q r : Publisher) (before told : Option (Result ℕ PubError)) → finds_no_room before ≡ true → says_as_last state p before q → Remains f (publisher_view p) (publisher_view q)
    → says_as_last state q told r → says_as_last state p told r
says_again f state p q r before told full said a again = says_on f state p q r told a (nothing_told state p q before full said) again

-- ---- one will after the other

pub counted_few : (b : Bool) → counted b ≤ 1
counted_few true = omega arith
counted_few false = omega arith

-- from this place of the list on, the wills that are left lead to what all of them lead to
abbrev pub Leads : Fifodirs → Fifodirs → List (List ℕ × Will) → ℕ → ℕ → Type 0
Leads old now wills place lost = (more : ℕ) (new : Fifodirs) → AreCarriedOut now (drop place wills) more new → AreCarriedOut old wills (lost + more) new

pub leads_on : (old now next : Fifodirs) (wills : List (List ℕ × Will)) (place lost : ℕ) (given : List ℕ × Will) (one : Bool) → place < length wills → slice_get wills place ≡ Some given
    → IsCarriedOut now given one next → Leads old now wills place lost → Leads old next wills (place + 1) (lost + counted one)
leads_on old now next wills place lost given one lt is carried leads = λ more new rest.
    let on : suc place ≡ place + 1 = omega arith in
    let cut : drop place wills ≡ given ∷ drop (place + 1) wills = drop-cons wills place given lt ∙ ap (λ (w : List ℕ × Will). w ∷ drop (suc place) wills) (get_or_from_slice_get wills place given given is)
    ∙ ap (λ (n : ℕ). given ∷ drop n wills) on in
    let here : AreCarriedOut now (given ∷ drop (place + 1) wills) (counted one + more) new = (next, one, more, carried, rest, refl) in
    let sum : lost + (counted one + more) ≡ (lost + counted one) + more = omega arith in
    subst (λ (n : ℕ). AreCarriedOut old wills n new) sum (leads (counted one + more) new (subst (λ (ws : List (List ℕ × Will)). AreCarriedOut now ws (counted one + more) new) (sym cut) here))

pub led : (old now : Fifodirs) (wills : List (List ℕ × Will)) (place lost : ℕ) → length wills ≤ place → Leads old now wills place lost → AreCarriedOut old wills lost now
led old now wills place lost past leads =
    let sum : lost + 0 ≡ lost = omega arith in
    subst (λ (n : ℕ). AreCarriedOut old wills n now) sum (leads 0 now (subst (λ (ws : List (List ℕ × Will)). AreCarriedOut now ws 0 now) (sym (drop_all place wills past)) (refl, refl)))
