-- What a wait leaves: only ids are used.
use Rattle.std.proofs.Common.{◌≡◌, ℕ, ◌+◌, ◌<◌, ◌≤◌, true, false, if◌then◌else◌, List, [], ◌∷◌, ◌++◌, length, nat_eq, Option, Some, None, is_some, Result, Ok, Err, refl, sym, ap, subst, ◌∙◌, ◌⊎◌, inl, inr, true≢false, append_assoc, append-nil, length-append, arith}
use Rattle.std.proofs.lemmas.Bool.{cases_Bool, eqb-true, eqb-false, ne_eqb, eq-eqb}
use Rattle.std.proofs.lemmas.List.Folds.{fold_stays}
use Rattle.std.proofs.lemmas.Slice.Eq.{bytes_eq-Decides}
use Rattle.std.specs.List.{list_any}
use Rattle.std.specs.Prelude.{fold}
use Rattle.std.specs.Str.{bytes_eq}
use Rattle.hub_letters.specs.declared.want.Want.{Want}
use Rattle.hub_record.specs.declared.SubError.{SubError}
use Rattle.hub_record.specs.World.{World, Subscription, subscription_in, found_from, changed_from, as_cancelled as stopped_one, new_subscription, after_subscribe, after_cancel, after_cancel_for}
use Rattle.hub_local.specs.Desks.{Fifodir, world_of, reports_of, with_world, end_in}
use Rattle.hub_local.specs.Replies.{subscribe_reply}
use Rattle.hub_requests.specs.Refusals.{refusal_of_sub}
use Rattle.hub_local.specs.Waits.{Opening, watch_over, so_far, opening_refused, opened_by, opened_in, with_post, opening_of, without_subscription, without_posts, HasUsedIdsThere, WaitsUseIds}
use Rattle.hub_local.specs.declared.local_desk.Holding.{Holding}
use Rattle.hub_local.specs.declared.local_desk.waits.LocalPost.{LocalPost}
use Rattle.hub_requests.specs.declared.reply.Refusal.{Refusal}
use Rattle.hub_requests.specs.declared.reply.Refusal.TheVariants as no
use Rattle.hub_local.proofs.RecordReplies.{given_is}
use Rattle.hub_local.proofs.KeptFifodirs.{world_of-with_world}
use Rattle.hub_local.proofs.Worlds.{found_below}

-- ---- the subscriptions of one world

changed_from-append : (f : Subscription → Subscription) (from : ℕ) (xs ys : List Subscription) (id : ℕ) → from + length xs ≤ id
    → changed_from f from (xs ++ ys) id ≡ xs ++ changed_from f (from + length xs) ys id
changed_from-append f from [] ys id above = let e : from ≡ from + 0 = omega arith in ap (λ (n : ℕ). changed_from f n ys id) e
changed_from-append f from (x ∷ xs) ys id above =
    let other : nat_eq id from ≡ false = ne_eqb id from (λ (same : id ≡ from). omega arith) in
    let next : from + length (x ∷ xs) ≡ from + 1 + length xs = omega arith in
    let ih = changed_from-append f (from + 1) xs ys id (omega arith) in
    simp other (ap (λ (z : List Subscription). x ∷ z) (ih ∙ ap (λ (n : ℕ). xs ++ changed_from f n ys id) (sym next)))

-- a subscription that is current after one is stopped was current before, and isn't that one
found_stopped : (from : ℕ) (subs : List Subscription) (id other : ℕ) → is_some (found_from from (changed_from stopped_one from subs id) other) ≡ true
    → (is_some (found_from from subs other) ≡ true) × (other ≡ id → ⊥)
found_stopped from [] id other h = absurd (true≢false (sym h))
found_stopped from (x ∷ rest) id other h =
    elim (cases_Bool (nat_eq id from)) [
      | inl e ↦ elim (cases_Bool (nat_eq other from)) [
        | inl o ↦ (let k = simp (e, o) at h in absurd (true≢false (sym k)))
        | inr o ↦ (let k = simp (e, o) at h in
            (simp o k, λ same. true≢false (sym (ap (λ (n : ℕ). nat_eq n from) same ∙ e) ∙ o)))
      ]
      | inr e ↦ elim (cases_Bool (nat_eq other from)) [
        | inl o ↦ (let k = simp (e, o) at h in
            (simp o k, λ same. true≢false (sym o ∙ ap (λ (n : ℕ). nat_eq n from) same ∙ e)))
        | inr o ↦ (let ih = found_stopped (from + 1) rest id other (simp (e, o) at h) in (simp o ih.0, ih.1))
      ]
    ]

found_cancelled : (w : World) (id other : ℕ) → is_some (subscription_in (after_cancel w id) other) ≡ true → (is_some (subscription_in w other) ≡ true) × (other ≡ id → ⊥)
found_cancelled w id other = by (subscription_in w id) refl
  where
    by : (o : Option Subscription) → subscription_in w id ≡ o → is_some (subscription_in (after_cancel_for w id o) other) ≡ true → (is_some (subscription_in w other) ≡ true) × (other ≡ id → ⊥)
    by None e h = (h, λ same. true≢false (sym h ∙ ap (λ (n : ℕ). is_some (subscription_in w n)) same ∙ ap is_some e))
    by (Some s) e h = found_stopped 1 w.subscriptions id other h

-- an id that is found isn't below the first
found_above : (first : ℕ) (subs : List Subscription) (id : ℕ) → is_some (found_from first subs id) ≡ true → first ≤ id
found_above first [] id h = absurd (true≢false (sym h))
found_above first (s ∷ subs) id h =
    elim (cases_Bool (nat_eq id first)) [
      | inl e ↦ (let is : id ≡ first = eqb-true id first e in omega arith)
      | inr e ↦ (let ih = found_above (first + 1) subs id (simp e at h) in omega arith)
    ]

-- if none of the later ids is found, none of them is current
none_found : (from : ℕ) (more : List Subscription) → ((id : ℕ) → is_some (found_from from more id) ≡ true → ⊥) → list_any (λ s. s.current) more ≡ false
none_found from [] none = refl
none_found from (x ∷ rest) none =
    elim (cases_Bool x.current) [
      | inl st ↦ absurd (none from (let e : nat_eq from from ≡ true = eq-eqb from from refl in simp (e, st)))
      | inr st ↦ simp st (none_found (from + 1) rest (λ id h. none id (
          let below = found_above (from + 1) rest id h in
          let e : nat_eq id from ≡ false = ne_eqb id from (λ (same : id ≡ from). omega arith) in simp e h)))
    ]

found_from-append : (from : ℕ) (xs ys : List Subscription) (id : ℕ) → from + length xs ≤ id → found_from from (xs ++ ys) id ≡ found_from (from + length xs) ys id
found_from-append from [] ys id above = let e : from ≡ from + 0 = omega arith in ap (λ (n : ℕ). found_from n ys id) e
found_from-append from (x ∷ xs) ys id above =
    let other : nat_eq id from ≡ false = ne_eqb id from (λ (same : id ≡ from). omega arith) in
    let next : from + length (x ∷ xs) ≡ from + 1 + length xs = omega arith in
    simp other (found_from-append (from + 1) xs ys id (omega arith) ∙ ap (λ (n : ℕ). found_from n ys id) (sym next))

-- to stop a later one leaves the earlier ones
stopped_above : (w v : World) (more : List Subscription) (id : ℕ) → v ≡ record w { subscriptions = w.subscriptions ++ more } → length w.subscriptions < id
    → (left : List Subscription) × (after_cancel v id ≡ record w { subscriptions = w.subscriptions ++ left })
stopped_above w v more id same above = by (subscription_in v id)
  where
    by : (o : Option Subscription) → (left : List Subscription) × (after_cancel_for v id o ≡ record w { subscriptions = w.subscriptions ++ left })
    by None = (more, same)
    by (Some s) = (
      changed_from stopped_one (1 + length w.subscriptions) more id,
      ap (λ (z : World). record z { subscriptions = changed_from stopped_one 1 z.subscriptions id }) same
          ∙ ap (λ (subs : List Subscription). record w { subscriptions = subs }) (changed_from-append stopped_one 1 w.subscriptions more id (omega arith)),
    )

-- ---- the posts of one fifodir

-- a post of this id at the fifodir of this name is among those of the names
abbrev IsOwed : List (List ℕ) → List LocalPost → List ℕ → ℕ → Type 0
IsOwed [] posts name id = ⊥
IsOwed (n ∷ names) [] name id = ⊥
IsOwed (n ∷ names) (post ∷ posts) name id = ((n ≡ name) × (post.id ≡ id)) ⊎ IsOwed names posts name id

none_owed : (names : List (List ℕ)) (name : List ℕ) (id : ℕ) → IsOwed names [] name id → ⊥
none_owed [] name id h = h
none_owed (n ∷ names) name id h = h

-- more ids were given, those of the posts among them, and of these ids only those of the posts may be current
pub record HasPosts (names : List (List ℕ)) (posts : List LocalPost) (name : List ℕ) (old new : World) : Type 0 where
  pub more : List Subscription
  pub same : new ≡ record old { subscriptions = old.subscriptions ++ more }
  pub above : (id : ℕ) → IsOwed names posts name id → length old.subscriptions < id
  pub owed : (id : ℕ) → length old.subscriptions < id → is_some (subscription_in new id) ≡ true → IsOwed names posts name id

abbrev HasPostsThere : List (List ℕ) → List LocalPost → List ℕ → Option World → Option World → Type 0
HasPostsThere names posts name None None = Unit {0}
HasPostsThere names posts name None (Some new) = ⊥
HasPostsThere names posts name (Some old) None = ⊥
HasPostsThere names posts name (Some old) (Some new) = HasPosts names posts name old new

no_posts : (names : List (List ℕ)) (name : List ℕ) (o : Option World) → HasPostsThere names [] name o o
no_posts names name None = tt
no_posts names name (Some w) = record {
  more = [];
  same = ap (λ (subs : List Subscription). record w { subscriptions = subs }) (sym (append-nil w.subscriptions));
  above = λ id h. absurd (none_owed names name id h);
  owed = λ id above h. (let below = found_below 1 w.subscriptions id h in absurd (let no : ⊥ = omega arith in no));
}

-- other posts that have the same ids there
same_owed : (names others : List (List ℕ)) (posts other_posts : List LocalPost) (name : List ℕ) → ((id : ℕ) → IsOwed names posts name id → IsOwed others other_posts name id)
    → ((id : ℕ) → IsOwed others other_posts name id → IsOwed names posts name id) → (o p : Option World) → HasPostsThere names posts name o p → HasPostsThere others other_posts name o p
same_owed names others posts other_posts name to from None None h = tt
same_owed names others posts other_posts name to from (Some old) (Some new) h =
    record { more = h.more; same = h.same; above = λ id k. h.above id (from id k); owed = λ id above f. to id (h.owed id above f) }
same_owed names others posts other_posts name to from _ _ h = absurd h

-- if none is left
all_given_back : (names : List (List ℕ)) (posts : List LocalPost) (name : List ℕ) (o p : Option World) → ((id : ℕ) → IsOwed names posts name id → ⊥) → HasPostsThere names posts name o p → HasUsedIdsThere o p
all_given_back names posts name None None none h = tt
all_given_back names posts name None (Some new) none h = absurd h
all_given_back names posts name (Some old) None none h = absurd h
all_given_back names posts name (Some old) (Some new) none h = record {
  used = h.more;
  none_active = none_found (1 + length old.subscriptions) h.more (λ id f.
      let above = found_above (1 + length old.subscriptions) h.more id f in
      none id (h.owed id (omega arith) (ap is_some (ap (λ (v : World). subscription_in v id) h.same ∙ found_from-append 1 old.subscriptions h.more id above) ∙ f)));
  same = h.same;
}

-- ---- a post is opened

module _ (name : List ℕ) (rest : List (List ℕ)) (post : LocalPost) (posts : List LocalPost) (q : List ℕ) where
  opened_here : (w : World) (o : Option World) → name ≡ q → post.id ≡ length w.subscriptions + 1
      → HasPostsThere rest posts q (Some (record w { subscriptions = w.subscriptions ++ new_subscription w ∷ [] })) o → HasPostsThere (name ∷ rest) (post ∷ posts) q (Some w) o
  opened_here w None same is h = absurd h
  opened_here w (Some v) same is h =
      let one = length-append w.subscriptions (new_subscription w ∷ []) in record {
        more = new_subscription w ∷ h.more;
        same = h.same ∙ ap (λ (subs : List Subscription). record w { subscriptions = subs }) (append_assoc w.subscriptions (new_subscription w ∷ []) h.more);
        above = λ id k. elim k [ inl e ↦ (let s : post.id ≡ id = e.1 in omega arith) | inr l ↦ (let a = h.above id l in omega arith) ];
        owed = λ id above f. elim (cases_Bool (nat_eq id (length w.subscriptions + 1))) [
          | inl e ↦ inl (same, is ∙ sym (eqb-true id (length w.subscriptions + 1) e))
          | inr e ↦ inr (h.owed id (let ne = eqb-false id (length w.subscriptions + 1) e in later id above ne) f)
        ];
      }
    where
      later : (id : ℕ) → length w.subscriptions < id → (id ≡ length w.subscriptions + 1 → ⊥) → length (w.subscriptions ++ new_subscription w ∷ []) < id
      later id above ne = let one = length-append w.subscriptions (new_subscription w ∷ []) in omega arith

  owed_elsewhere : (name ≡ q → ⊥) → (id : ℕ) → IsOwed (name ∷ rest) (post ∷ posts) q id → IsOwed rest posts q id
  owed_elsewhere other id k = elim k [ inl e ↦ absurd (other e.0) | inr l ↦ l ]

  opened_elsewhere : (o p : Option World) → (name ≡ q → ⊥) → HasPostsThere rest posts q o p → HasPostsThere (name ∷ rest) (post ∷ posts) q o p
  opened_elsewhere o p other = same_owed rest (name ∷ rest) posts (post ∷ posts) q (λ id l. inr l) (owed_elsewhere other) o p

  back_elsewhere : (o p : Option World) → (name ≡ q → ⊥) → HasPostsThere (name ∷ rest) (post ∷ posts) q o p → HasPostsThere rest posts q o p
  back_elsewhere o p other = same_owed (name ∷ rest) rest (post ∷ posts) posts q (owed_elsewhere other) (λ id l. inr l) o p

  back_nowhere : (o : Option World) → HasPostsThere (name ∷ rest) (post ∷ posts) q o None → HasPostsThere rest posts q o None
  back_nowhere None h = tt
  back_nowhere (Some w) h = absurd h

  back_here : (o : Option World) (v : World) → name ≡ q → HasPostsThere (name ∷ rest) (post ∷ posts) q o (Some v) → HasPostsThere rest posts q o (Some (after_cancel v post.id))
  back_here None v same h = absurd h
  back_here (Some w) v same h =
      let t = stopped_above w v h.more post.id h.same (h.above post.id (inl (same, refl))) in record {
        more = t.0;
        same = t.1;
        above = λ id l. h.above id (inr l);
        owed = λ id above f. (let g = found_cancelled v post.id id f in elim (h.owed id above g.0) [ inl e ↦ absurd (g.1 (sym e.1)) | inr l ↦ l ]);
      }

-- what the opened posts have changed
pub record HasOpened (names : List (List ℕ)) (fs : List Fifodir) (before : List LocalPost) (o : Opening) : Type 0 where
  pub more : List LocalPost
  pub are : o.posts ≡ before ++ more
  pub each : (q : List ℕ) → HasPostsThere names more q (world_of fs q) (world_of o.fifodirs q)

none_opened : (names : List (List ℕ)) (fs : List Fifodir) (before : List LocalPost) (o : Option Refusal) → HasOpened names fs before (record { fifodirs = fs; posts = before; refusal = o })
none_opened names fs before o = record { more = []; are = sym (append-nil before); each = λ q. no_posts names q (world_of fs q) }

same_name : (q name : List ℕ) → bytes_eq q name ≡ true → name ≡ q
same_name q name e = sym ((bytes_eq-Decides q name).0 e)

other_name : (q name : List ℕ) → bytes_eq q name ≡ false → name ≡ q → ⊥
other_name q name e same = true≢false (sym ((bytes_eq-Decides q name).1 (sym same)) ∙ e)

module _ (want : Want) (name : List ℕ) (rest : List (List ℕ)) (fs : List Fifodir) (before : List LocalPost)
    (later : (mid : List Fifodir) (posts : List LocalPost) → HasOpened rest mid posts (fold (with_post want) (so_far mid posts) rest)) where
  stops : (refusal : Refusal) → HasOpened (name ∷ rest) fs before (fold (with_post want) (opening_refused fs before refusal) rest)
  stops refusal = subst (HasOpened (name ∷ rest) fs before) (sym (fold_stays (with_post want) (opening_refused fs before refusal) (λ n. refl) rest)) (none_opened (name ∷ rest) fs before (Some refusal))

  after_one : (w : World) → world_of fs name ≡ Some w → (given : ℕ × ℕ) → subscribe_reply w ≡ Ok given → (more : List LocalPost) (q : List ℕ) (o : Option World)
      → HasPostsThere rest more q (world_of (with_world fs name (after_subscribe w (Ok given))) q) o
      → HasPostsThere (name ∷ rest) (record { id = given.0; watch = watch_over want (reports_of fs name) w } ∷ more) q (world_of fs q) o
  after_one w is given said more q o h =
      let next = after_subscribe w (Ok given) in
      let looked = world_of-with_world name fs w (after_subscribe w (Ok given)) q is in
      elim (cases_Bool (bytes_eq q name)) [
        | inl e ↦ (let here : (if bytes_eq q name then Some next else world_of fs q) ≡ Some next = simp e in
            let same = same_name q name e in
            subst (λ (z : Option World). HasPostsThere (name ∷ rest) (record { id = given.0; watch = watch_over want (reports_of fs name) w } ∷ more) q z o) (sym is ∙ ap (world_of fs) same)
            (opened_here name rest _ more q w o same (given_is w given said) (subst (λ (z : Option World). HasPostsThere rest more q z o) (looked ∙ here) h)))
        | inr e ↦ (let there : (if bytes_eq q name then Some next else world_of fs q) ≡ world_of fs q = simp e in
            opened_elsewhere name rest _ more q (world_of fs q) o (other_name q name e) (subst (λ (z : Option World). HasPostsThere rest more q z o) (looked ∙ there) h))
      ]

  opens_by : (w : World) → world_of fs name ≡ Some w → (r : Result (ℕ × ℕ) SubError) → subscribe_reply w ≡ r
      → HasOpened (name ∷ rest) fs before (fold (with_post want) (opened_by want (so_far fs before) name w r) rest)
  opens_by w is (Err error) said = stops (refusal_of_sub error)
  opens_by w is (Ok given) said =
      let mid = with_world fs name (after_subscribe w (Ok given)) in
      let post : LocalPost = record { id = given.0; watch = watch_over want (reports_of fs name) w } in
      let l = later mid (before ++ post ∷ []) in
      let o = fold (with_post want) (so_far mid (before ++ post ∷ [])) rest in record {
        more = post ∷ l.more;
        are = l.are ∙ append_assoc before (post ∷ []) l.more;
        each = λ q. after_one w is given said (l.more) q (world_of o.fifodirs q) (l.each q);
      }

  opens_in : (o : Option World) → world_of fs name ≡ o → HasOpened (name ∷ rest) fs before (fold (with_post want) (opened_in want (so_far fs before) name o) rest)
  opens_in None is = stops no.Name
  opens_in (Some w) is = opens_by w is (subscribe_reply w) refl

has_opened : (want : Want) (names : List (List ℕ)) (fs : List Fifodir) (before : List LocalPost) → HasOpened names fs before (fold (with_post want) (so_far fs before) names)
has_opened want [] fs before = none_opened [] fs before None
has_opened want (name ∷ rest) fs before = opens_in want name rest fs before (has_opened want rest) (world_of fs name) refl

-- ---- and ended

back_one : (name : List ℕ) (rest : List (List ℕ)) (post : LocalPost) (posts : List LocalPost) (fs now : List Fifodir)
    → ((q : List ℕ) → HasPostsThere (name ∷ rest) (post ∷ posts) q (world_of fs q) (world_of now q))
    → (q : List ℕ) → HasPostsThere rest posts q (world_of fs q) (world_of (without_subscription now name post.id) q)
back_one name rest post posts fs now each q = by (world_of now name) refl
  where
    h : Holding
    h = record { name = name; id = post.id; hearing = None }

    by : (o : Option World) → world_of now name ≡ o → HasPostsThere rest posts q (world_of fs q) (world_of (end_in now h o) q)
    by None is =
        elim (cases_Bool (bytes_eq q name)) [
          | inl e ↦ (let none : world_of now q ≡ None = ap (world_of now) (sym (same_name q name e)) ∙ is in
              subst (HasPostsThere rest posts q (world_of fs q)) (sym none)
              (back_nowhere name rest post posts q (world_of fs q) (subst (HasPostsThere (name ∷ rest) (post ∷ posts) q (world_of fs q)) none (each q))))
          | inr e ↦ back_elsewhere name rest post posts q (world_of fs q) (world_of now q) (other_name q name e) (each q)
        ]
    by (Some v) is =
        let looked = world_of-with_world name now v (after_cancel v post.id) q is in
        elim (cases_Bool (bytes_eq q name)) [
          | inl e ↦ (let there : world_of now q ≡ Some v = ap (world_of now) (sym (same_name q name e)) ∙ is in
              subst (HasPostsThere rest posts q (world_of fs q)) (sym (looked ∙ (let here : (if bytes_eq q name then Some (after_cancel v post.id) else world_of now q) ≡ Some (after_cancel v post.id) = simp e in here)))
              (back_here name rest post posts q (world_of fs q) v (same_name q name e) (subst (HasPostsThere (name ∷ rest) (post ∷ posts) q (world_of fs q)) there (each q))))
          | inr e ↦ subst (HasPostsThere rest posts q (world_of fs q)) (sym (looked ∙ (let there : (if bytes_eq q name then Some (after_cancel v post.id) else world_of now q) ≡ world_of now q = simp e in there)))
              (back_elsewhere name rest post posts q (world_of fs q) (world_of now q) (other_name q name e) (each q))
        ]

back_all : (names : List (List ℕ)) (posts : List LocalPost) (fs now : List Fifodir) → ((q : List ℕ) → HasPostsThere names posts q (world_of fs q) (world_of now q))
    → (q : List ℕ) → HasUsedIdsThere (world_of fs q) (world_of (without_posts now names posts) q)
back_all [] posts fs now each q = all_given_back [] posts q (world_of fs q) (world_of now q) (λ id h. h) (each q)
back_all (name ∷ names) [] fs now each q = all_given_back (name ∷ names) [] q (world_of fs q) (world_of now q) (λ id h. h) (each q)
back_all (name ∷ names) (post ∷ posts) fs now each q = back_all names posts fs (without_subscription now name post.id) (back_one name names post posts fs now each) q

pub waits_use_ids : WaitsUseIds
waits_use_ids d span want names q =
    let t = has_opened want names d.fifodirs [] in
    let o = opening_of want d.fifodirs names in
    back_all names o.posts d.fifodirs o.fifodirs (λ (n : List ℕ). subst (λ (ps : List LocalPost). HasPostsThere names ps n (world_of d.fifodirs n) (world_of o.fifodirs n)) (sym t.are) (t.each n)) q
