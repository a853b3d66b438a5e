-- The wills of a session: one is given, and all are carried out.
use Rattle.std.proofs.Common.{◌≡◌, ◌≤◌, ◌<◌, ◌+◌, ℕ, suc, List, [], ◌∷◌, length, drop, slice_get, Option, Some, None, true, false, refl, sym, ap, subst, ◌∙◌, arith}
use lib.Seq.{drop-cons}
use Rattle.std.proofs.lemmas.List.{drop_all}
use Rattle.std.proofs.lemmas.Option.{get_or_from_slice_get}
use Rattle.std.specs.Map.{lookup, set_value}
use Rattle.std.specs.Str.{bytes_eq}
use Rattle.hub_letters.specs.declared.state.State.{State}
use Rattle.hub_record.specs.Kept.{Kept, Represents}
use Rattle.hub_record.specs.World.{World, after_publish}
use Rattle.hub_record.specs.declared.Kind.{Kind}
use Rattle.hub_record.specs.declared.Kind.TheVariants.{Plain, Service}
use Rattle.hub_requests.specs.Wills.{state_of, with_will}
use Rattle.hub_requests.specs.declared.will.Will.{Will}
use Rattle.hub_requests.specs.declared.request.Request.TheVariants.{Will as Leave}
use Rattle.hub_requests.specs.declared.reply.Reply.TheVariants.{Done, No}
use Rattle.hub_requests.specs.declared.reply.Refusal.TheVariants as no
use Rattle.hub_local.specs.DeskAnswers.{refusal_by_kind, refusal_to_tell, will_answer}
use Rattle.hub_local.specs.Desks.{Desk, Fifodir, with_world, world_of}
use Rattle.hub_local.specs.Ends.{after_one, after_wills, is_own_last, told_by_kind, told_in, told_last, word_in}
use Rattle.hub_local.specs.Replies.{publish_reply}
use Rattle.hub_local.specs.Representing.{Local, AreKept, RepresentsDesk, AsksWith}
use Rattle.hub_local.specs.declared.local_desk.LocalFifodir.{LocalFifodir}
use Rattle.hub_local.proofs.Asking.{by_carrying, by_refusing, by_lacking, represents_same, still_lacking}
use Rattle.hub_local.proofs.KeptFifodirs.{kept_set, none_kept, some_kept}

-- ---- a will is given

module _ (old new : Local) (name : List ℕ) (will : Will) where
  pub will_no_name : new ≡ old → None ≡ lookup (bytes_eq name) old.fifodirs → AsksWith false old (Leave name will) (No no.Name) new
  will_no_name same none = by_refusing old new true _ _ _ _ no.Name refl (λ (e : no.Name ≡ no.Memory). cc)
      (λ d st. ap refusal_to_tell (none_kept name old.fifodirs d.fifodirs st.fifodirs (sym none))) (λ d st. represents_same old new d same st)

  module _ (r : LocalFifodir) (there : Some r ≡ lookup (bytes_eq name) old.fifodirs) where
    by_its_kind : (d : Desk) → RepresentsDesk old d → refusal_to_tell (world_of d.fifodirs name) ≡ refusal_by_kind r.kept.kind
    by_its_kind d st = let t = some_kept name old.fifodirs d.fifodirs r st.fifodirs (sym there) in ap refusal_to_tell t.1 ∙ ap refusal_by_kind (sym t.2.kind)

    pub will_plain : new ≡ old → r.kept.kind ≡ Plain → AsksWith false old (Leave name will) (No no.Kind) new
    will_plain same plain = by_refusing old new true _ _ _ _ no.Kind refl (λ (e : no.Kind ≡ no.Memory). cc)
        (λ d st. by_its_kind d st ∙ ap refusal_by_kind plain) (λ d st. represents_same old new d same st)

    pub will_lacks : new ≡ old → r.kept.kind ≡ Service → AsksWith false old (Leave name will) (No no.Memory) new
    will_lacks same service = by_lacking old new true _ _ _ _ refl refl
        (λ d st. still_lacking new d (refusal_to_tell (world_of d.fifodirs name)) (by_its_kind d st ∙ ap refusal_by_kind service) (represents_same old new d same st))

    pub will_done : new.fifodirs ≡ old.fifodirs → new.holdings ≡ old.holdings → new.given ≡ old.given → new.wills ≡ with_will old.wills name will → r.kept.kind ≡ Service
        → AsksWith false old (Leave name will) Done new
    will_done fifodirs holdings given wills service = by_carrying old new true _ _ _ Done (λ (e : Done ≡ No no.Memory). cc) (λ d st. record {
      answer = will_answer d name will;
      unrefused = by_its_kind d st ∙ ap refusal_by_kind service;
      done_is = refl;
      said = refl;
      represents = record {
        fifodirs = subst (λ (es : List (List ℕ × LocalFifodir)). AreKept es d.fifodirs) (sym fifodirs) st.fifodirs;
        holdings = holdings ∙ st.holdings;
        given = given ∙ st.given;
        wills = wills ∙ ap (λ (ws : List (List ℕ × Will)). with_will ws name will) st.wills;
        is_desk = record { held = st.is_desk.held; apart = st.is_desk.apart; go_on = st.is_desk.go_on };
      };
    })

-- ---- one is carried out

pub told_there : (es : List (List ℕ × LocalFifodir)) (fs : List Fifodir) (name : List ℕ) (state : State) (r new : LocalFifodir) → AreKept es fs → lookup (bytes_eq name) es ≡ Some r
    → new.reports ≡ r.reports → ((w : World) → Represents r.kept w → Represents new.kept (told_last state w)) → AreKept (set_value (bytes_eq name) es new) (after_one fs name (Some state))
told_there es fs name state r new k was reports told =
    let t = some_kept name es fs r k was in
    subst (λ (o : Option World). AreKept (set_value (bytes_eq name) es new) (told_in fs name state o)) (sym t.1)
    (kept_set name es fs r new (told_last state t.0) k was reports (told t.0 t.2))

pub told_nowhere : (es : List (List ℕ × LocalFifodir)) (fs : List Fifodir) (name : List ℕ) (state : State) → AreKept es fs → lookup (bytes_eq name) es ≡ None → AreKept es (after_one fs name (Some state))
told_nowhere es fs name state k none = subst (λ (o : Option World). AreKept es (told_in fs name state o)) (sym (none_kept name es fs k none)) k

-- a plain fifodir is told nothing
pub told_plain : (state : State) (w : World) (kept : Kept) → Represents kept w → kept.kind ≡ Plain → told_last state w ≡ w
told_plain state w kept h plain = ap (λ (k : Kind). told_by_kind k state w) (sym h.kind ∙ plain)

-- nor is a service whose last event is another's
pub told_other : (state : State) (w : World) (kept : Kept) → Represents kept w → kept.kind ≡ Service → is_own_last w ≡ false → told_last state w ≡ w
told_other state w kept h service other = ap (λ (k : Kind). told_by_kind k state w) (sym h.kind ∙ service) ∙ simp other

pub told_own : (state : State) (w : World) (kept : Kept) → Represents kept w → kept.kind ≡ Service → is_own_last w ≡ true
    → told_last state w ≡ after_publish w 1 (word_in state w) (publish_reply w (word_in state w))
told_own state w kept h service own = ap (λ (k : Kind). told_by_kind k state w) (sym h.kind ∙ service) ∙ simp own

-- ---- all are carried out

-- what the fifodirs come to, from this place of the list on
abbrev pub Leads : List (List ℕ × LocalFifodir) → List Fifodir → List (List ℕ × Will) → ℕ → Type 0
Leads es fs wills place = (now : List Fifodir) × AreKept es now × (after_wills now (drop place wills) ≡ after_wills fs wills)

pub leads_on : (es more : List (List ℕ × LocalFifodir)) (fs : List Fifodir) (wills : List (List ℕ × Will)) (place : ℕ) (given : List ℕ × Will) → place < length wills → slice_get wills place ≡ Some given
    → ((model : List Fifodir) → AreKept es model → AreKept more (after_one model given.0 (state_of given.1))) → Leads es fs wills place → Leads more fs wills (place + 1)
leads_on es more fs wills place given lt is step t =
    let on : suc place ≡ place + 1 = omega arith in
    let next : drop place wills ≡ given ∷ drop (place + 1) wills = drop-cons wills place given lt ∙ ap (λ (w : List ℕ × Will). w ∷ drop (suc place) wills) (get_or_from_slice_get wills place given given is)
    ∙ ap (λ (n : ℕ). given ∷ drop n wills) on in
    (after_one t.0 given.0 (state_of given.1), step t.0 t.1, sym (ap (after_wills t.0) next) ∙ t.2)

pub led : (es : List (List ℕ × LocalFifodir)) (fs : List Fifodir) (wills : List (List ℕ × Will)) (place : ℕ) → length wills ≤ place → Leads es fs wills place → AreKept es (after_wills fs wills)
led es fs wills place past t = subst (AreKept es) (sym (ap (after_wills t.0) (drop_all place wills past)) ∙ t.2) t.1
