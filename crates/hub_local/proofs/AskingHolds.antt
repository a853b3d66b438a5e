-- The requests that begin a subscription or a listener: one more handle.
use Rattle.std.proofs.Common.{◌≡◌, ℕ, ◌+◌, Bool, true, false, List, [], ◌∷◌, ◌++◌, length, nat_eq, Option, Some, None, is_some, Result, Ok, Err, refl, sym, ap, subst, ◌∙◌, inl, inr, true≢false, arith}
use Rattle.std.proofs.lemmas.Slice.Eq.{bytes_eq-Decides}
use Rattle.std.proofs.lemmas.List.{length_push}
use Rattle.std.specs.Map.{lookup, set_value}
use Rattle.std.specs.Str.{bytes_eq}
use Rattle.hub_listen.specs.Listening.{Listening, new_listening}
use Rattle.hub_letters.specs.declared.mode.Mode.{Mode}
use Rattle.hub_letters.specs.declared.mode.Mode.TheVariants.{Repeat}
use Rattle.hub_record.specs.declared.SubError.{SubError}
use Rattle.hub_record.specs.declared.SubError.TheVariants as sub
use Rattle.hub_record.specs.Kept.{Kept, Represents}
use Rattle.hub_record.specs.World.{World, new_subscription, SubscribeReply, after_subscribe}
use Rattle.hub_local.specs.Opening.{Begins, is_there}
use Rattle.hub_local.specs.DeskAnswers.{in_world, refusal_to_hold, refusal_to_listen, subscribe_answer}
use Rattle.hub_local.specs.Desks.{Fifodir, Desk, active, world_of, with_world, subscription_of, AreHeld, AreApart, GoesOn, AllGoOn, refusal_answer}
use Rattle.hub_local.specs.Replies.{subscribe_reply}
use Rattle.hub_requests.specs.Refusals.{refusal_of_sub}
use Rattle.hub_requests.specs.Room.{refusal_of_handle}
use Rattle.hub_local.specs.Representing.{Local, AreKept, RepresentsDesk, CarriesOut, AsksWith, Unchanged}
use Rattle.hub_local.specs.declared.local_desk.LocalListener.{LocalListener}
use Rattle.hub_local.specs.declared.local_desk.Holding.{Holding}
use Rattle.hub_local.specs.declared.local_desk.LocalFifodir.{LocalFifodir}
use Rattle.hub_requests.specs.declared.request.Request.TheVariants.{Listen}
use Rattle.hub_requests.specs.declared.reply.Reply.{Reply}
use Rattle.hub_requests.specs.declared.reply.Reply.TheVariants.{Number, No}
use Rattle.hub_requests.specs.declared.reply.Refusal.{Refusal}
use Rattle.hub_requests.specs.declared.reply.Refusal.TheVariants as no
use Rattle.hub_local.proofs.Asking.{answers_like, by_carrying, by_lacking, is_memory, still_lacking}
use Rattle.hub_local.proofs.Holdings.{held_in_changed, held_still, none_above, active-push, held_push, apart_push, go_on_push, unheld_id}
use Rattle.hub_local.proofs.KeptFifodirs.{is_some-world_of, some_kept, kept_set, kept_still, world_of-with_world}
use Rattle.hub_local.proofs.RecordReplies.{given_is, subscribe_reply_is}
use Rattle.hub_local.proofs.Worlds.{found-push, found_new}

same_name : (name : List ℕ) → bytes_eq name name ≡ true
same_name name = (bytes_eq-Decides name name).1 refl

-- ---- the desk's own refusal

module _ (local : Local) (name : List ℕ) (d : Desk) (st : RepresentsDesk local d) where
  known : (b : Bool) → is_some (lookup (bytes_eq name) local.fifodirs) ≡ b → is_some (world_of d.fifodirs name) ≡ b
  known b e = sym (is_some-world_of name local.fifodirs d.fifodirs st.fifodirs) ∙ e

  pub hold_unnamed : is_some (lookup (bytes_eq name) local.fifodirs) ≡ false → Some no.Name ≡ refusal_to_hold d name
  hold_unnamed absent = let k = known false absent in simp k

  pub hold_there : is_some (lookup (bytes_eq name) local.fifodirs) ≡ true → refusal_of_handle (length local.holdings) local.given ≡ refusal_to_hold d name
  hold_there there = let k = known true there in let n = ap length st.holdings in let g = st.given in simp (k, n, g)

-- if it doesn't refuse
some_none : {X : Type 0} (x : X) → Some x ≡ None → ⊥
some_none x e = cc

pub unrefused_world : (d : Desk) (name : List ℕ) → refusal_to_hold d name ≡ None → (w : World) × (world_of d.fifodirs name ≡ Some w)
unrefused_world d name may = by (world_of d.fifodirs name) refl
  where
    by : (o : Option World) → world_of d.fifodirs name ≡ o → (w : World) × (world_of d.fifodirs name ≡ Some w)
    by None e = absurd (some_none no.Name (simp e at may))
    by (Some w) e = (w, e)

pub named_there : (local : Local) (name : List ℕ) (d : Desk) → RepresentsDesk local d → refusal_to_hold d name ≡ None → is_there local.fifodirs name ≡ true
named_there local name d st may = is_some-world_of name local.fifodirs d.fifodirs st.fifodirs ∙ ap is_some (unrefused_world d name may).1

pub none_there : (name : List ℕ) (es : List (List ℕ × LocalFifodir)) → is_there es name ≡ true → None ≡ lookup (bytes_eq name) es → ⊥
none_there name es there none = true≢false (sym there ∙ ap is_some (sym none))

-- with another expression for the desk
pub unrefused_at : {before old : Local} (name : List ℕ) → before ≡ old → ((d : Desk) → RepresentsDesk old d → refusal_to_hold d name ≡ None) → (d : Desk) → RepresentsDesk before d → refusal_to_hold d name ≡ None
unrefused_at {before} {old} name same may = subst (λ (z : Local). (d : Desk) → RepresentsDesk z d → refusal_to_hold d name ≡ None) (sym same) may

-- the next number isn't that of a current handle
pub fresh_number : (local : Local) (d : Desk) → RepresentsDesk local d → lookup (nat_eq (local.given + 1)) local.holdings ≡ None
fresh_number local d st = let g = st.given in ap (lookup (nat_eq (local.given + 1))) st.holdings ∙ none_above 1 d.handles (local.given + 1) (omega arith)

-- ---- one more handle

module _ (name : List ℕ) (es : List (List ℕ × LocalFifodir)) (r : LocalFifodir) (kept : Kept) (was : lookup (bytes_eq name) es ≡ Some r) (fs : List Fifodir) (w : World) (h : AreKept es fs) (is : world_of fs name ≡ Some w) where
  -- the record represents the world
  represents_there : Represents r.kept w
  represents_there = let t = some_kept name es fs r h was in let same : t.0 ≡ w = (let k = sym t.1 ∙ is in cc) in subst (Represents r.kept) same t.2

  pub begins_one : (begun : List ℕ × ℕ) (mark : ℕ) → ((v : World) → Represents r.kept v → SubscribeReply v (Ok (begun.1, mark))) → ((v : World) → Represents r.kept v → Represents kept (after_subscribe v (Ok (begun.1, mark))))
      → Begins name w fs (Ok begun) (set_value (bytes_eq name) es (record { kept = kept; reports = r.reports }))
  begins_one begun mark replies after =
      let said : subscribe_reply w ≡ Ok (begun.1, mark) = sym (subscribe_reply_is w (Ok (begun.1, mark)) (replies w represents_there) (λ e. cc)) in
      let marked : mark ≡ length w.events = ap (λ (g : ℕ × ℕ). g.1) (replies w represents_there).1 in record {
        said = said ∙ ap (λ (n : ℕ). Ok (begun.1, n)) marked;
        kept = subst (λ (v : World). AreKept (set_value (bytes_eq name) es (record { kept = kept; reports = r.reports })) (with_world fs name v)) (ap (after_subscribe w) (sym said))
            (kept_set name es fs r (record { kept = kept; reports = r.reports }) (after_subscribe w (Ok (begun.1, mark))) h was refl (after w represents_there));
      }

  pub begins_refused : (error : SubError) (refusal : Refusal) → ((v : World) → Represents r.kept v → SubscribeReply v (Err error)) → kept ≡ r.kept → refusal ≡ refusal_of_sub error
      → Begins name w fs (Err refusal) (set_value (bytes_eq name) es (record { kept = kept; reports = r.reports }))
  begins_refused error refusal replies still named = (
    kept_still name es fs r (record { kept = kept; reports = r.reports }) w h was is refl (subst (λ (k : Kept). Represents k w) (sym still) represents_there),
    λ real. record {
      error = error;
      said = sym (subscribe_reply_is w (Err error) (replies w represents_there) (λ e. real (let k : error ≡ sub.Memory = cc in named ∙ ap refusal_of_sub k)));
      named = named;
    },
  )

module _ (old new : Local) (name : List ℕ) (hearing : Option LocalListener) (may : (d : Desk) → RepresentsDesk old d → refusal_to_hold d name ≡ None) where
  abbrev Holds : Reply → Local → Type 0
  Holds reply now = CarriesOut old true (λ d. refusal_to_hold d name) (λ d. in_world d (λ w. subscribe_answer d name hearing w (subscribe_reply w)) (world_of d.fifodirs name)) Unchanged reply now

  abbrev Begun : Result (List ℕ × ℕ) Refusal → Type 0
  Begun begun = (model : List Fifodir) (w : World) → AreKept old.fifodirs model → world_of model name ≡ Some w → Begins name w model begun new.fifodirs

  pub hold_done : GoesOn hearing → (begun : List ℕ × ℕ) → Begun (Ok begun)
      → new.holdings ≡ old.holdings ++ (old.given + 1, record { name = name; id = begun.1; hearing = hearing }) ∷ [] → new.given ≡ old.given + 1 → new.wills ≡ old.wills
      → Holds (Number (old.given + 1)) new
  hold_done goes_on begun begins holdings number wills = by_carrying old new true _ _ _ _ (λ e. cc) (λ d st.
      let t = unrefused_world d name (may d st) in
      let w = t.0 in
      let b = begins d.fifodirs w st.fifodirs t.1 in
      let reply : Result (ℕ × ℕ) SubError = Ok (begun.1, length w.events) in
      let next = after_subscribe w reply in
      let h : Holding = record { name = name; id = begun.1; hearing = hearing } in
      let fs = with_world d.fifodirs name next in
      let id : begun.1 ≡ length w.subscriptions + 1 = given_is w (begun.1, length w.events) b.said in
      let same : old.given + 1 ≡ length d.handles + 1 = ap (λ (n : ℕ). n + 1) st.given in
      let was_active = active-push 1 d.handles (record { holding = h; current = true }) (old.given + 1) refl (omega arith) in
      let still = held_still d.fifodirs fs (λ g. held_in_changed d.fifodirs name w next t.1 g (λ _. found-push 1 w.subscriptions (new_subscription w) g.id)) _ st.is_desk.held in
      let there_now : is_some (subscription_of (with_world d.fifodirs name next) h) ≡ true =
      simp (world_of-with_world name d.fifodirs w next name t.1, same_name name) (found_new 1 w.subscriptions (new_subscription w) begun.1 refl (omega arith)) in record {
        answer = subscribe_answer d name hearing w reply;
        unrefused = may d st;
        done_is = ap (in_world d (λ v. subscribe_answer d name hearing v (subscribe_reply v))) t.1 ∙ ap (subscribe_answer d name hearing w) b.said;
        said = ap (λ (n : ℕ). Number n) same;
        represents = record {
          fifodirs = subst (λ (r : Result (ℕ × ℕ) SubError). AreKept new.fifodirs (with_world d.fifodirs name (after_subscribe w r))) b.said b.kept;
          holdings = holdings ∙ ap (λ (es : List (ℕ × Holding)). es ++ (old.given + 1, h) ∷ []) st.holdings ∙ sym was_active;
          given = number ∙ same ∙ sym (length_push d.handles _);
          wills = wills ∙ st.wills;
          is_desk = record {
            held = subst (AreHeld fs) (sym was_active) (held_push fs (active d) (old.given + 1, h) still there_now);
            apart = subst AreApart (sym was_active) (apart_push d.fifodirs (active d) (old.given + 1, h) st.is_desk.apart st.is_desk.held
                (λ g s name_is id_is. unheld_id d.fifodirs name w next t.1 g s name_is (id_is ∙ id)));
            go_on = subst AllGoOn (sym was_active) (go_on_push (active d) (old.given + 1, h) st.is_desk.go_on goes_on);
          };
        };
      })

  module _ (refusal : Refusal) (begins : Begun (Err refusal)) (holdings : new.holdings ≡ old.holdings) (given : new.given ≡ old.given) (wills : new.wills ≡ old.wills) where
    represents_after : (d : Desk) → RepresentsDesk old d → RepresentsDesk new d
    represents_after d st = (let t = unrefused_world d name (may d st) in record {
      fifodirs = (begins d.fifodirs t.0 st.fifodirs t.1).0;
      holdings = holdings ∙ st.holdings;
      given = given ∙ st.given;
      wills = wills ∙ st.wills;
      is_desk = st.is_desk;
    })

    refused : Holds (No refusal) new
    refused = elim (is_memory refusal) [
      | inl e ↦ by_lacking old new true _ _ _ _ (ap (λ (r : Refusal). No r) e) refl (λ d st. still_lacking new d (refusal_to_hold d name) (may d st) (represents_after d st))
      | inr real ↦ by_carrying old new true _ _ _ _ (λ e. real (let k : refusal ≡ no.Memory = cc in k)) (λ d st.
          let t = unrefused_world d name (may d st) in
          let b = (begins d.fifodirs t.0 st.fifodirs t.1).1 real in record {
            answer = refusal_answer d refusal;
            unrefused = may d st;
            done_is = ap (in_world d (λ v. subscribe_answer d name hearing v (subscribe_reply v))) t.1 ∙ ap (subscribe_answer d name hearing t.0) b.said
                ∙ ap (refusal_answer d) (sym b.named);
            said = refl;
            represents = represents_after d st;
          })
    ]

    -- with another expression for the desk after it
    pub hold_refused : (now : Local) → now ≡ new → Holds (No refusal) now
    hold_refused now same = subst (Holds (No refusal)) (sym same) refused

-- ---- a listener whose text is a pattern

pub listen_held : (old new : Local) (name pattern : List ℕ) (mode : Mode) (l : Listening) (reply : Reply) → ((d : Desk) → RepresentsDesk old d → None ≡ refusal_to_hold d name) → l ≡ new_listening pattern Repeat
    → CarriesOut old true (λ d. refusal_to_hold d name) (λ d. in_world d (λ w. subscribe_answer d name (Some (record { listener = l; mode = mode; held = None })) w (subscribe_reply w)) (world_of d.fifodirs name)) Unchanged reply new
    → AsksWith true old (Listen name mode pattern) reply new
listen_held old new name pattern mode l reply may is a = answers_like
    (λ d st. ap (refusal_to_listen true) (sym (may d st)) ∙ may d st)
    (λ d. ap (λ (z : Listening). in_world d (λ w. subscribe_answer d name (Some (record { listener = z; mode = mode; held = None })) w (subscribe_reply w)) (world_of d.fifodirs name)) (sym is)) a
