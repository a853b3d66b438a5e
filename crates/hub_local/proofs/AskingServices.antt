-- The request about several services at once.
use Rattle.std.proofs.Common.{◌≡◌, ◌≢◌, ℕ, ◌≤◌, Bool, true, List, [], ◌∷◌, ◌++◌, length, drop, map, take, Option, Some, None, is_some, Result, Ok, Err, refl, sym, ap, subst, ◌∙◌, inl, inr, append_assoc, append-nil, arith}
use Rattle.std.proofs.lemmas.Bool.{cases_Bool}
use Rattle.std.proofs.lemmas.List.{take_all, take-append-drop}
use Rattle.std.specs.List.{list_all}
use Rattle.std.specs.Prelude.{fold, ◌&&◌}
use Rattle.std.specs.Str.{bytes_eq}
use Rattle.hub_letters.specs.declared.want.Want.{Want}
use Rattle.hub_record.specs.declared.SubError.{SubError}
use Rattle.hub_record.specs.World.{World, new_subscription, after_subscribe}
use Rattle.hub_letters.specs.declared.span.Span.{Span}
use Rattle.hub_wait.specs.declared.tally.Verdict.{Verdict}
use Rattle.hub_wait.specs.declared.tally.Verdict.TheVariants as verdict
use Rattle.hub_wait.specs.Verdicts.{verdict as verdict_of}
use Rattle.hub_local.specs.DeskAnswers.{refusal_to_wait}
use Rattle.hub_local.specs.Desks.{Desk, Fifodir, world_of, reports_of, with_world, subscription_of}
use Rattle.hub_local.specs.Opening.{is_there, is_service, refusal_among, OpensAll}
use Rattle.hub_local.specs.Replies.{subscribe_reply}
use Rattle.hub_local.specs.Representing.{Local, AreKept, RepresentsDesk, CarriesOut}
use Rattle.hub_local.specs.Waits.{Opening, watch_over, so_far, opening_refused, opened_by, opened_in, with_post, opening_of, without_subscription, without_posts, left_by, shown_by, verdict_shown, wait_shown, wait_answer, LeftByWait}
use Rattle.hub_local.specs.declared.local_desk.Holding.{Holding}
use Rattle.hub_local.specs.declared.local_desk.LocalFifodir.{LocalFifodir}
use Rattle.hub_local.specs.declared.local_desk.waits.LocalPost.{LocalPost}
use Rattle.hub_requests.specs.declared.reply.Reply.{Reply}
use Rattle.hub_requests.specs.declared.reply.Reply.TheVariants.{No}
use Rattle.hub_requests.specs.declared.reply.Refusal.{Refusal}
use Rattle.hub_requests.specs.declared.reply.Refusal.TheVariants as no
use Rattle.hub_local.proofs.Asking.{by_carrying, by_refusing, by_lacking, is_memory}
use Rattle.hub_local.proofs.Holdings.{held_still, held_in_changed, held_beside_cancelled, unheld_id}
use Rattle.hub_local.proofs.KeptFifodirs.{is_some-world_of}
use Rattle.hub_local.proofs.Posts.{without_posts-none}
use Rattle.hub_local.proofs.RecordReplies.{given_is}
use Rattle.hub_local.proofs.Worlds.{found-push}

-- ---- by name

list_all_same : (f g : List ℕ → Bool) → ((name : List ℕ) → f name ≡ g name) → (names : List (List ℕ)) → list_all f names ≡ list_all g names
list_all_same f g same [] = refl
list_all_same f g same (name ∷ names) = λ i. same name i && list_all_same f g same names i

is_service_is : (name : List ℕ) (es : List (List ℕ × LocalFifodir)) (fs : List Fifodir) → AreKept es fs → is_service es name ≡ is_some (reports_of fs name)
is_service_is name [] [] h = refl
is_service_is name [] (f ∷ fs) h = absurd h
is_service_is name (e ∷ es) [] h = absurd h
is_service_is name (e ∷ es) (f ∷ fs) h =
    let same = ap (bytes_eq name) h.0.name in
    let ih = is_service_is name es fs h.1 in
    elim (cases_Bool (bytes_eq name f.name)) [ inl t ↦ simp (same, t) (ap is_some h.0.reports) | inr t ↦ simp (same, t) ih ]

refusal_among_is : (local : Local) (d : Desk) (names : List (List ℕ)) → RepresentsDesk local d → refusal_among local.fifodirs names ≡ refusal_to_wait d names
refusal_among_is local d names st =
    let there = list_all_same (is_there local.fifodirs) (λ name. is_some (world_of d.fifodirs name)) (λ name. is_some-world_of name local.fifodirs d.fifodirs st.fifodirs) names in
    let serves = list_all_same (is_service local.fifodirs) (λ name. is_some (reports_of d.fifodirs name)) (λ name. is_service_is name local.fifodirs d.fifodirs st.fifodirs) names in
    simp (there, serves)

real_among : (es : List (List ℕ × LocalFifodir)) (names : List (List ℕ)) (refusal : Refusal) → refusal_among es names ≡ Some refusal → refusal ≢ no.Memory
real_among es names refusal e is =
    elim (cases_Bool (list_all (is_there es) names)) [
      | inl t ↦ elim (cases_Bool (list_all (is_service es) names)) [ inl s ↦ (let k = simp (t, s) at e in cc) | inr s ↦ (let k = simp (t, s) at e in cc) ]
      | inr t ↦ (let k = simp t at e in cc)
    ]

-- ---- what a desk holds besides the posts

-- none of the posts is for the subscription of this handle
abbrev AreBeside : List (List ℕ) → List LocalPost → Holding → Type 0
AreBeside [] posts g = Unit {0}
AreBeside (name ∷ names) [] g = Unit {0}
AreBeside (name ∷ names) (post ∷ posts) g = (name ≡ g.name → post.id ≡ g.id → ⊥) × AreBeside names posts g

none_beside : (names : List (List ℕ)) (g : Holding) → AreBeside names [] g
none_beside [] g = tt
none_beside (name ∷ names) g = tt

-- the subscription of a handle stays current when the posts are ended
still_held : (fs : List Fifodir) (names : List (List ℕ)) (posts : List LocalPost) (g : Holding) → AreBeside names posts g → is_some (subscription_of fs g) ≡ true
    → is_some (subscription_of (without_posts fs names posts) g) ≡ true
still_held fs [] posts g beside s = s
still_held fs (name ∷ names) [] g beside s = s
still_held fs (name ∷ names) (post ∷ posts) g beside s =
    still_held (without_subscription fs name post.id) names posts g beside.1 (held_beside_cancelled fs (record { name = name; id = post.id; hearing = None }) g beside.0 s)

-- the subscription of a handle is current beside the posts that were opened
pub record RepresentsBeside (now : List Fifodir) (names : List (List ℕ)) (before posts : List LocalPost) (g : Holding) : Type 0 where
  pub more : List LocalPost
  pub are : posts ≡ before ++ more
  pub beside : AreBeside names more g
  pub represents : is_some (subscription_of now g) ≡ true

stays_stopped : (want : Want) (names : List (List ℕ)) (fs now : List Fifodir) (before posts : List LocalPost) (refusal : Refusal) → fold (with_post want) (opening_refused fs before refusal) names ≡ so_far now posts → ⊥
stays_stopped want [] fs now before posts refusal e = let k : Some refusal ≡ None = ap (λ (o : Opening). o.refusal) e in cc
stays_stopped want (name ∷ names) fs now before posts refusal e = stays_stopped want names fs now before posts refusal e

module _ (want : Want) (name : List ℕ) (names rest : List (List ℕ)) (fs now : List Fifodir) (before posts : List LocalPost) (g : Holding) (s : is_some (subscription_of fs g) ≡ true)
    (later : (mid : List Fifodir) (so_many : List LocalPost) → is_some (subscription_of mid g) ≡ true → fold (with_post want) (so_far mid so_many) names ≡ so_far now posts → RepresentsBeside now (names ++ rest) so_many posts g) where
  beside_one : (w : World) → world_of fs name ≡ Some w → (r : Result (ℕ × ℕ) SubError) → subscribe_reply w ≡ r → fold (with_post want) (opened_by want (so_far fs before) name w r) names ≡ so_far now posts
      → RepresentsBeside now (name ∷ (names ++ rest)) before posts g
  beside_one w is (Err error) said e = absurd (stays_stopped want names fs now before posts _ e)
  beside_one w is (Ok given) said e =
      let held = held_in_changed fs name w (after_subscribe w (Ok given)) is g (λ same h. found-push 1 w.subscriptions (new_subscription w) g.id h) s in
      let post : LocalPost = record { id = given.0; watch = watch_over want (reports_of fs name) w } in
      let l = later (with_world fs name (after_subscribe w (Ok given))) (before ++ post ∷ []) held e in record {
        more = post ∷ l.more;
        are = l.are ∙ append_assoc before (post ∷ []) l.more;
        beside = (λ same id. unheld_id fs name w (after_subscribe w (Ok given)) is g s (sym same) (sym id ∙ given_is w given said), l.beside);
        represents = l.represents;
      }

  beside_next : (o : Option World) → world_of fs name ≡ o → fold (with_post want) (opened_in want (so_far fs before) name o) names ≡ so_far now posts → RepresentsBeside now (name ∷ (names ++ rest)) before posts g
  beside_next None is e = absurd (stays_stopped want names fs now before posts _ e)
  beside_next (Some w) is e = beside_one w is (subscribe_reply w) refl e

beside_opened : (want : Want) (names rest : List (List ℕ)) (fs now : List Fifodir) (before posts : List LocalPost) (g : Holding) → is_some (subscription_of fs g) ≡ true
    → fold (with_post want) (so_far fs before) names ≡ so_far now posts → RepresentsBeside now (names ++ rest) before posts g
beside_opened want [] rest fs now before posts g s e = record {
  more = [];
  are = ap (λ (o : Opening). o.posts) (sym e) ∙ sym (append-nil before);
  beside = none_beside rest g;
  represents = subst (λ (z : List Fifodir). is_some (subscription_of z g) ≡ true) (ap (λ (o : Opening). o.fifodirs) e) s;
}
beside_opened want (name ∷ names) rest fs now before posts g s e =
    beside_next want name names rest fs now before posts g s (λ mid so_many held k. beside_opened want names rest mid now so_many posts g held k) (world_of fs name) refl e

-- ---- wait

verdict_real : (posts : List LocalPost) (answer : Option Verdict) → shown_by posts answer ≢ No no.Memory
verdict_real posts (Some verdict.Yes) = λ e. cc
verdict_real posts (Some verdict.Never) = λ e. cc
verdict_real posts (Some verdict.Late) = λ e. cc
verdict_real posts None = λ e. cc

abbrev pub Waits : Local → Local → Span → Want → List (List ℕ) → Reply → Type 0
Waits old new span want names reply =
    CarriesOut old true (λ d. refusal_to_wait d names) (λ d. wait_answer d span want names) (λ d left. LeftByWait d want names left) reply new

pub waits_for : (old new : Local) (span : Span) (want : Want) (names same : List (List ℕ)) (reply : Reply) → names ≡ same → Waits old new span want names reply → Waits old new span want same reply
waits_for old new span want names same reply e = subst (λ (ns : List (List ℕ)). Waits old new span want ns reply) e

module _ (old new : Local) (span : Span) (want : Want) (names : List (List ℕ)) where
  pub wait_refused : (refusal : Refusal) → new ≡ old → refusal_among old.fifodirs names ≡ Some refusal → Waits old new span want names (No refusal)
  wait_refused refusal same is = by_refusing old new true _ _ _ _ refusal refl (real_among old.fifodirs names refusal is)
      (λ d st. sym (refusal_among_is old d names st) ∙ is) (λ d st. subst (λ (z : Local). RepresentsDesk z d) (sym same) st)

  module _ (allowed : refusal_among old.fifodirs names ≡ None) where
    may_wait : (d : Desk) → RepresentsDesk old d → refusal_to_wait d names ≡ None
    may_wait d st = sym (refusal_among_is old d names st) ∙ allowed

    -- before any post is opened
    pub wait_lacks : new ≡ old → Waits old new span want names (No no.Memory)
    wait_lacks same = by_lacking old new true _ _ _ _ refl refl (λ d st. record {
      unrefused = may_wait d st;
      desk = d;
      is_left = record { count = 0; unrefused = refl; left = ap (λ (fs : List Fifodir). record d { fifodirs = fs }) (sym (without_posts-none d.fifodirs names)) };
      represents = subst (λ (z : Local). RepresentsDesk z d) (sym same) st;
    })

    -- `mid` has the posts, and in `new` they are ended
    module _ (mid : List (List ℕ × LocalFifodir)) (posts : List LocalPost) (holdings : new.holdings ≡ old.holdings) (given : new.given ≡ old.given) (wills : new.wills ≡ old.wills)
        (back : (fs : List Fifodir) → AreKept mid fs → AreKept new.fifodirs (without_posts fs names posts)) where
      represents_left : (d : Desk) → RepresentsDesk old d → (now : List Fifodir) → AreKept mid now → (count : ℕ) → opening_of want d.fifodirs (take count names) ≡ so_far now posts
          → RepresentsDesk new (record d { fifodirs = without_posts now names posts })
      represents_left d st now kept count e = record {
        fifodirs = back now kept;
        holdings = holdings ∙ st.holdings;
        given = given ∙ st.given;
        wills = wills ∙ st.wills;
        is_desk = record {
          held = held_still d.fifodirs (without_posts now names posts) (λ g s.
              let b = beside_opened want (take count names) (drop count names) d.fifodirs now [] posts g s e in
              still_held now names posts g (subst (λ (ns : List (List ℕ)). AreBeside ns posts g) (take-append-drop count names) (subst (λ (ps : List LocalPost). AreBeside (take count names ++ drop count names) ps g) (sym b.are) b.beside)) b.represents) _ st.is_desk.held;
          apart = st.is_desk.apart;
          go_on = st.is_desk.go_on;
        };
      }

      pub wait_done : ((fs : List Fifodir) → AreKept old.fifodirs fs → OpensAll want names fs (Ok tt) mid posts) → (reply : Reply) → reply ≡ verdict_shown span posts → Waits old new span want names reply
      wait_done opens reply is = by_carrying old new true _ _ _ reply (λ e. verdict_real posts (verdict_of span (map (λ post. post.watch) posts)) (sym is ∙ e)) (λ d st.
          let t = opens d.fifodirs st.fifodirs in record {
            answer = record { reply = verdict_shown span posts; desk = record d { fifodirs = without_posts t.0 names posts } };
            unrefused = may_wait d st;
            done_is = ap (λ (o : Opening). record { reply = wait_shown span o.posts o.refusal; desk = record d { fifodirs = left_by o names } }) t.2;
            said = is;
            represents = represents_left d st t.0 t.1 (length names) (ap (opening_of want d.fifodirs) (take_all (length names) names (let same : length names ≤ length names = omega arith in same)) ∙ t.2);
          })

      pub wait_stopped : (refusal : Refusal) → ((fs : List Fifodir) → AreKept old.fifodirs fs → OpensAll want names fs (Err refusal) mid posts) → Waits old new span want names (No refusal)
      wait_stopped refusal opens = elim (is_memory refusal) [
        | inl e ↦ by_lacking old new true _ _ _ _ (ap (λ (r : Refusal). No r) e) refl (λ d st.
            let t = opens d.fifodirs st.fifodirs in record {
              unrefused = may_wait d st;
              desk = record d { fifodirs = without_posts t.0 names posts };
              is_left = record {
                count = t.2.count;
                unrefused = ap (λ (o : Opening). o.refusal) t.2.opened;
                left = ap (λ (o : Opening). record d { fifodirs = left_by o names }) (sym t.2.opened);
              };
              represents = represents_left d st t.0 t.1 t.2.count t.2.opened;
            })
        | inr ne ↦ by_carrying old new true _ _ _ _ (λ e. ne (let k : refusal ≡ no.Memory = cc in k)) (λ d st.
            let t = opens d.fifodirs st.fifodirs in record {
              answer = record { reply = No refusal; desk = record d { fifodirs = without_posts t.0 names posts } };
              unrefused = may_wait d st;
              done_is = ap (λ (o : Opening). record { reply = wait_shown span o.posts o.refusal; desk = record d { fifodirs = left_by o names } }) (t.3 ne);
              said = refl;
              represents = represents_left d st t.0 t.1 t.2.count t.2.opened;
            })
      ]
