-- The posts of a wait.
use Rattle.std.proofs.Common.{◌≡◌, ℕ, ◌+◌, ◌<◌, ◌≤◌, false, List, [], ◌∷◌, ◌++◌, length, drop, take, get_or, map, Some, None, Ok, Err, refl, sym, ap, subst, ◌∙◌, inl, inr}
use Rattle.std.proofs.lemmas.Bool.{cases_Bool}
use Rattle.std.proofs.lemmas.List.{drop_all, map-append, take_more}
use Rattle.std.proofs.lemmas.List.Folds.{fold_stuck}
use Rattle.std.specs.Prelude.{unwrap_or}
use Rattle.std.specs.Map.{lookup, set_value}
use Rattle.std.specs.Str.{bytes_eq}
use Rattle.hub_letters.specs.declared.want.Want.{Want}
use Rattle.hub_record.specs.declared.Status.{Status}
use Rattle.hub_record.specs.declared.SubError.{SubError}
use Rattle.hub_record.specs.declared.SubError.TheVariants as sub
use Rattle.hub_record.specs.Kept.{Kept, Represents}
use Rattle.hub_record.specs.World.{World, SubscribeReply, after_subscribe}
use Rattle.hub_letters.specs.declared.span.Span.{Span}
use Rattle.hub_wait.specs.Verdicts.{Tallied, tally_of}
use Rattle.hub_wait.specs.Watching.{Watching, new_watching}
use Rattle.hub_local.specs.Desks.{Fifodir, reports_of, with_world}
use Rattle.hub_local.specs.Opening.{OpensPost, OpensAll}
use Rattle.hub_local.specs.Replies.{subscribe_reply}
use Rattle.hub_requests.specs.Refusals.{refusal_of_sub}
use Rattle.hub_local.specs.Representing.{AreKept}
use Rattle.hub_local.specs.Waits.{status_of, watch_over, Opening, so_far, opening_refused, opened_by, opened_in, with_post, opening_of, without_posts}
use Rattle.hub_local.specs.declared.local_desk.LocalFifodir.{LocalFifodir}
use Rattle.hub_local.specs.declared.local_desk.waits.LocalPost.{LocalPost}
use Rattle.hub_requests.specs.declared.reply.Refusal.{Refusal}
use Rattle.hub_requests.specs.declared.reply.Refusal.TheVariants as no
use Rattle.hub_local.proofs.KeptFifodirs.{none_kept, some_kept, kept_set, kept_still}
use Rattle.hub_local.proofs.RecordReplies.{subscribe_reply_is}

-- ---- all are ended

pub without_posts-none : (fs : List Fifodir) (names : List (List ℕ)) → without_posts fs names [] ≡ fs
without_posts-none fs [] = refl
without_posts-none fs (name ∷ names) = refl

pub given_back : (es : List (List ℕ × LocalFifodir)) (fs : List Fifodir) (names : List (List ℕ)) (posts : List LocalPost) (i : ℕ) → length posts ≤ i
    → (now : List Fifodir) × AreKept es now × (without_posts now (drop i names) (drop i posts) ≡ without_posts fs names posts) → AreKept es (without_posts fs names posts)
given_back es fs names posts i past t =
    let none : drop i posts ≡ [] = drop_all i posts past in
    subst (AreKept es) (sym (without_posts-none t.0 (drop i names)) ∙ ap (without_posts t.0 (drop i names)) (sym none) ∙ t.2) t.1

-- ---- one is opened

pub some_reports : (es : List (List ℕ × LocalFifodir)) (fs : List Fifodir) (name : List ℕ) (r : LocalFifodir) → AreKept es fs → lookup (bytes_eq name) es ≡ Some r → reports_of fs name ≡ r.reports
some_reports [] [] name r h e = absurd (let k : ⊥ = cc in k)
some_reports [] (f ∷ fs) name r h e = absurd h
some_reports (x ∷ es) [] name r h e = absurd h
some_reports (x ∷ es) (f ∷ fs) name r h e =
    let same = ap (bytes_eq name) h.0.name in
    elim (cases_Bool (bytes_eq name f.name)) [
      | inl t ↦ (let k = simp (same, t) at e in let is : x.1 ≡ r = cc in simp t (sym h.0.reports ∙ ap (λ (z : LocalFifodir). z.reports) is))
      | inr t ↦ simp t (some_reports es fs name r h.1 (simp (same, t) at e))
    ]

module _ (want : Want) (name : List ℕ) (es : List (List ℕ × LocalFifodir)) (fs : List Fifodir) (h : AreKept es fs) where
  pub opens_nowhere : lookup (bytes_eq name) es ≡ None → OpensPost want name fs (Err no.Name) es
  opens_nowhere none = (h, λ real posts. ap (opened_in want (so_far fs posts) name) (none_kept name es fs h none))

  module _ (r : LocalFifodir) (kept : Kept) (was : lookup (bytes_eq name) es ≡ Some r) where
    pub opens_one : (given : ℕ × ℕ) (status : Status) (watch : Watching) → ((w : World) → Represents r.kept w → SubscribeReply w (Ok given)) → ((w : World) → Represents r.kept w → Represents kept (after_subscribe w (Ok given)))
        → status.number ≡ kept.end → status.flags ≡ kept.flags → status.closed ≡ kept.closed → watch ≡ new_watching want (unwrap_or r.reports false) status
        → OpensPost want name fs (Ok (record { id = given.0; watch = watch })) (set_value (bytes_eq name) es (record { kept = kept; reports = r.reports }))
    opens_one given status watch replies after number flags is_closed watches =
        let t = some_kept name es fs r h was in
        let w = t.0 in
        let s = after w t.2 in
        let said : subscribe_reply w ≡ Ok given = sym (subscribe_reply_is w (Ok given) (replies w t.2) (λ e. cc)) in
        let ends = sym s.end ∙ sym number in let flies = sym s.flags ∙ sym flags in let closes = sym s.closed ∙ sym is_closed in
        let shows : status_of w ≡ status = (λ i. record { number = ends i; flags = flies i; closed = closes i }) in
        let reports = some_reports es fs name r h was in
        let same : watch_over want (reports_of fs name) w ≡ watch = (λ i. new_watching want (unwrap_or (reports i) false) (shows i)) ∙ sym watches in
        let now = with_world fs name (after_subscribe w (Ok given)) in (
          now,
          kept_set name es fs r (record { kept = kept; reports = r.reports }) (after_subscribe w (Ok given)) h was refl s,
          λ posts. ap (opened_in want (so_far fs posts) name) t.1 ∙ ap (opened_by want (so_far fs posts) name w) said
              ∙ ap (λ (z : Watching). so_far now (posts ++ record { id = given.0; watch = z } ∷ [])) same,
        )

    pub opens_refused : (error : SubError) (refusal : Refusal) → ((w : World) → Represents r.kept w → SubscribeReply w (Err error)) → kept ≡ r.kept → refusal ≡ refusal_of_sub error
        → OpensPost want name fs (Err refusal) (set_value (bytes_eq name) es (record { kept = kept; reports = r.reports }))
    opens_refused error refusal replies still is =
        let t = some_kept name es fs r h was in (
          kept_still name es fs r (record { kept = kept; reports = r.reports }) t.0 h was t.1 refl (subst (λ (k : Kept). Represents k t.0) (sym still) t.2),
          λ real posts. ap (opened_in want (so_far fs posts) name) t.1
              ∙ ap (opened_by want (so_far fs posts) name t.0) (sym (subscribe_reply_is t.0 (Err error) (replies t.0 t.2) (λ e. real (let k : error ≡ sub.Memory = cc in is ∙ ap refusal_of_sub k))))
              ∙ ap (opening_refused fs posts) (sym is),
        )

-- ---- one after another

-- if one is refused, none is opened after it
pub opens_no_more : (want : Want) (names : List (List ℕ)) (i : ℕ) (d : List ℕ) (fs now : List Fifodir) (posts : List LocalPost) (refusal : Refusal) → i < length names → opening_of want fs (take i names) ≡ so_far now posts
    → with_post want (so_far now posts) (get_or names i d) ≡ opening_refused now posts refusal → opening_of want fs names ≡ opening_refused now posts refusal
opens_no_more want names i d fs now posts refusal below e ends =
    sym (fold_stuck (with_post want) (opening_refused now posts refusal) (λ name. refl) (so_far fs []) names i d below (ap (λ (o : Opening). with_post want o (get_or names i d)) e ∙ ends))

-- what the names come to if one isn't opened
pub opens_until : (want : Want) (names : List (List ℕ)) (i : ℕ) (d : List ℕ) (model : List Fifodir) (entries new : List (List ℕ × LocalFifodir)) (posts : List LocalPost) (refusal : Refusal) → i < length names
    → (now : List Fifodir) × AreKept entries now × (opening_of want model (take i names) ≡ so_far now posts)
    → ((now : List Fifodir) → AreKept entries now → OpensPost want (get_or names i d) now (Err refusal) new) → OpensAll want names model (Err refusal) new posts
opens_until want names i d model entries new posts refusal below t ends =
    let e = ends t.0 t.1 in
    (t.0, e.0, record { count = i; opened = t.2 }, λ real. opens_no_more want names i d model t.0 posts refusal below t.2 (e.1 real posts))

-- ---- what is shown

pub map_more : {X Y : Type 0} (f : X → Y) (xs : List X) (i : ℕ) (x : X) → i < length xs → x ≡ get_or xs i x → map f (take (i + 1) xs) ≡ map f (take i xs) ++ f x ∷ []
map_more f xs i x below is = ap (map f) (take_more xs i x below) ∙ map-append f (take i xs) (get_or xs i x ∷ []) ∙ ap (λ z. map f (take i xs) ++ f z ∷ []) (sym is)

pub tallied_more : (span : Span) (posts : List LocalPost) (i : ℕ) (post : LocalPost) (tally : Tallied) → i < length posts → post ≡ get_or posts i post
    → tally ≡ tally_of span (map (λ p. p.watch) (take i posts) ++ post.watch ∷ []) → tally ≡ tally_of span (map (λ p. p.watch) (take (i + 1) posts))
tallied_more span posts i post tally below is e = e ∙ ap (tally_of span) (sym (map_more (λ (p : LocalPost). p.watch) posts i post below is))
