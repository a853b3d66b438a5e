-- What a listener hears: letter by letter, and after the first n letters, none with a hit.
use Rattle.std.proofs.Common.{◌≡◌, ℕ, zero, suc, ◌+◌, ◌-◌, ◌<◌, ◌≤◌, Bool, true, false, List, [], ◌∷◌, ◌++◌, length, take, drop, slice_get, slice_range, Option, Some, None, is_some, option_to_list, Ok, refl, sym, ap, subst, ◌∙◌, inl, inr, length-append, arith, Err}
use Rattle.std.proofs.lemmas.List.{length-drop, length-take-le, take-append-drop}
use Rattle.std.proofs.Math.Seq.{take-length}
use Rattle.hub_letters.specs.declared.mode.TheConstants.{MOST_GATHERED}
use Rattle.hub_listen.specs.Hit.{HasNoHit}
use Rattle.hub_listen.specs.Listening.{Listening, Feeds, is_spent, after_quiet, fitting}
use Rattle.hub_listen.specs.declared.feed.Feed.TheVariants as fed
use Rattle.hub_listen.proofs.Prefixes.{HasNoHit-append}
use Rattle.hub_listen.proofs.Singly.{nothing_is_quiet, one_more, one_more_hit}
use Rattle.hub_record.specs.Kept.{Kept, Represents}
use Rattle.hub_record.specs.World.{World, Subscription, subscription_in, count_to_take, moved_on, after_take}
use Rattle.hub_record.proofs.Policies.{count_none}
use Rattle.hub_local.specs.Polls.{is_out, to_hear, taken_from}
use Rattle.hub_local.specs.Hearings.{behind, IsAt, HearsOne, Hears, TakesOne}
use Rattle.hub_local.specs.Representing.{HasSubscription}
use Rattle.hub_local.specs.declared.local_desk.LocalListener.{LocalListener}
use Rattle.hub_local.specs.declared.local_desk.listeners.Heard.{Heard}
use Rattle.hub_local.specs.declared.local_desk.listeners.Heard.TheVariants.{Hit, Nothing, End, Evicted, Lacking}
use Rattle.hub_local.proofs.Takings.{take_none, take_more_then, found_then, behind_then, out_then, closed_then, up_if_behind}

-- the held letter is the first to be heard
abbrev pub held_after : LocalListener → ℕ → Option ℕ
held_after g zero = g.held
held_after g (suc n) = None

pub record HeardPrefix (g : LocalListener) (w : World) (id : ℕ) (n : ℕ) (new : LocalListener) (kept : Kept) : Type 0 where
  pub within : n ≤ length (to_hear g w id)
  pub quiet : Feeds g.listener (take n (to_hear g w id)) (Ok fed.Quiet) new.listener
  pub mode_is : new.mode ≡ g.mode
  pub held_is : new.held ≡ held_after g n
  pub represents : Represents kept (taken_from g w id n)

-- the subscription, if there is one
pub has_found : (o : Option Subscription) → is_some o ≡ true → (s : Subscription) × (o ≡ Some s)
has_found None e = absurd (let no : ⊥ = cc in no)
has_found (Some s) e = (s, refl)

few_held : (o : Option ℕ) → length (option_to_list o) ≤ 1
few_held None = omega arith
few_held (Some x) = omega arith

module _ (g : LocalListener) (w : World) (id : ℕ) (s : Subscription) (is : subscription_in w id ≡ Some s) where
  letters_count : length (to_hear g w id) ≡ length (option_to_list g.held) + length (behind w id)
  letters_count = length-append (option_to_list g.held) (behind w id)

  -- at the beginning
  pub prefix_none : (kept : Kept) → is_spent g.listener ≡ false → length g.listener.gathered ≤ MOST_GATHERED → Represents kept w → HeardPrefix g w id 0 g kept
  prefix_none kept unspent short represents = record {
    within = omega arith;
    quiet = nothing_is_quiet g.listener unspent short;
    mode_is = refl;
    held_is = refl;
    represents = (let t : count_to_take w s (0 - length (option_to_list g.held)) ≡ 0 = count_none w s _ (omega arith) in subst (Represents kept) (sym (take_none w id s is (0 - length (option_to_list g.held)) t)) represents);
  }

  pub found_left : (n : ℕ) → subscription_in (taken_from g w id n) id ≡ Some (moved_on w (n - length (option_to_list g.held)) s)
  found_left n = found_then w id s is (n - length (option_to_list g.held))

  drop_held : (o : Option ℕ) (xs : List ℕ) (m : ℕ) → drop (suc m - length (option_to_list o)) xs ≡ drop (suc m) (option_to_list o ++ xs)
  drop_held None xs m = let e : suc m - 0 ≡ suc m = omega arith in ap (λ (k : ℕ). drop k xs) e
  drop_held (Some x) xs m = let e : suc m - 1 ≡ m = omega arith in ap (λ (k : ℕ). drop k xs) e

  letters_left : (n : ℕ) (new : LocalListener) → new.held ≡ held_after g n → to_hear new (taken_from g w id n) id ≡ drop n (to_hear g w id)
  letters_left zero new held =
      let t : count_to_take w s (0 - length (option_to_list g.held)) ≡ 0 = count_none w s _ (omega arith) in
      let same : taken_from g w id 0 ≡ w = take_none w id s is (0 - length (option_to_list g.held)) t in
      λ i. option_to_list (held i) ++ behind (same i) id
  letters_left (suc m) new held =
      ap (λ (o : Option ℕ). option_to_list o ++ behind (taken_from g w id (suc m)) id) held
      ∙ behind_then w id s is (suc m - length (option_to_list g.held)) ∙ drop_held g.held (behind w id) m

  -- one more letter is taken
  taken_one_more : (n : ℕ) (new : LocalListener) → new.held ≡ held_after g n → n < length (to_hear g w id) → taken_from new (taken_from g w id n) id 1 ≡ taken_from g w id (n + 1)
  taken_one_more zero new held inside =
      let t : count_to_take w s (0 - length (option_to_list g.held)) ≡ 0 = count_none w s _ (omega arith) in
      let same : taken_from g w id 0 ≡ w = take_none w id s is (0 - length (option_to_list g.held)) t in
      let e : 1 ≡ 0 + 1 = omega arith in
      (λ i. after_take (same i) id (1 - length (option_to_list (held i)))) ∙ ap (taken_from g w id) e
  taken_one_more (suc m) new held inside =
      let few = few_held g.held in
      let count = letters_count in
      let up = up_if_behind w id s is (omega arith) in
      let pending = up.1 in
      let next : (suc m - length (option_to_list g.held)) + 1 ≡ (suc m + 1) - length (option_to_list g.held) = omega arith in
      ap (λ (o : Option ℕ). after_take (taken_from g w id (suc m)) id (1 - length (option_to_list o))) held
      ∙ take_more_then w id s is (suc m - length (option_to_list g.held)) up.0 (omega arith) ∙ ap (after_take w id) next

  none_more : (n : ℕ) (new : LocalListener) → taken_from new (taken_from g w id n) id 0 ≡ taken_from g w id n
  none_more n new =
      let v = taken_from g w id n in
      let x = moved_on w (n - length (option_to_list g.held)) s in
      let t : count_to_take v x (0 - length (option_to_list new.held)) ≡ 0 = count_none v x _ (omega arith) in
      take_none v id x (found_left n) (0 - length (option_to_list new.held)) t

  module _ (n : ℕ) (new : LocalListener) (kept : Kept) (prefix : HeardPrefix g w id n new kept) where
    abbrev letters : List ℕ
    letters = to_hear g w id

    -- what the next feed needs
    pub prefix_represents : HasSubscription kept id
    prefix_represents = record { world = taken_from g w id n; represents = prefix.represents; subscribed = ap is_some (found_left n) }

    pub prefix_unspent : is_spent new.listener ≡ false
    prefix_unspent = ap is_spent prefix.quiet.3 ∙ prefix.quiet.0

    pub prefix_gathered : length new.listener.gathered ≡ length g.listener.gathered + n
    prefix_gathered = ap (λ (l : Listening). length l.gathered) prefix.quiet.3 ∙ length-append g.listener.gathered (take n letters)
        ∙ ap (λ (k : ℕ). length g.listener.gathered + k) (length-take-le n letters prefix.within)

    -- the next letter
    module _ (x : ℕ) (rest : List ℕ) (first : to_hear new (taken_from g w id n) id ≡ x ∷ rest) where
      next_at : drop n letters ≡ x ∷ rest
      next_at = sym (letters_left n new prefix.held_is) ∙ first

      inside : n < length letters
      inside = let a = length-drop n letters in let b = ap length next_at in omega arith

      piece : x ∷ [] ≡ slice_range letters n (n + 1)
      piece = let one : (n + 1) - n ≡ 1 = omega arith in sym (ap (λ (k : ℕ). take k (drop n letters)) one ∙ ap (take 1) next_at)

      at_next : slice_get letters n ≡ Some x
      at_next = by letters n next_at
        where
          by : (xs : List ℕ) (m : ℕ) → drop m xs ≡ x ∷ rest → slice_get xs m ≡ Some x
          by [] zero e = absurd (let no : ⊥ = cc in no)
          by [] (suc m) e = absurd (let no : ⊥ = cc in no)
          by (y ∷ ys) zero e = let k : y ≡ x = cc in ap (λ (z : ℕ). Some z) k
          by (y ∷ ys) (suc m) e = by ys m e

      none_after : held_after g (n + 1) ≡ None
      none_after = let e : n + 1 ≡ suc n = omega arith in ap (held_after g) e

      pub prefix_more : (new' : LocalListener) (kept' : Kept) → Feeds new.listener (x ∷ []) (Ok fed.Quiet) new'.listener → new'.mode ≡ new.mode → new'.held ≡ None → Represents kept' (taken_from new (taken_from g w id n) id 1)
          → HeardPrefix g w id (n + 1) new' kept'
      prefix_more new' kept' hears mode held represents = record {
        within = (let l = inside in omega arith);
        quiet = one_more g.listener new.listener new'.listener letters n inside (Ok fed.Quiet) prefix.quiet (subst (λ (p : List ℕ). Feeds new.listener p (Ok fed.Quiet) new'.listener) piece hears);
        mode_is = mode ∙ prefix.mode_is;
        held_is = held ∙ sym none_after;
        represents = subst (Represents kept') (taken_one_more n new prefix.held_is inside) represents;
      }

      pub prefix_hit : (k : ℕ) (new' : LocalListener) (kept' : Kept) → Feeds new.listener (x ∷ []) (Ok (fed.Hit k)) new'.listener → new'.mode ≡ new.mode → new'.held ≡ None → Represents kept' (taken_from new (taken_from g w id n) id 1)
          → Hears g w id Hit new' kept'
      prefix_hit k new' kept' hears mode held represents =
          let hit = one_more_hit g.listener new.listener new'.listener letters n k inside prefix.quiet (subst (λ (p : List ℕ). Feeds new.listener p (Ok (fed.Hit k)) new'.listener) piece hears) in
          (n + 1, hit.0, record { listener_is = hit.1; mode_is = mode ∙ prefix.mode_is; held_is = held; represents = subst (Represents kept') (taken_one_more n new prefix.held_is inside) represents })

      pub prefix_lacks : length g.listener.gathered + n < MOST_GATHERED → (new' : LocalListener) (kept' : Kept) → IsAt new (taken_from g w id n) id 1 new.listener (Some x) new' kept' → Hears g w id Lacking new' kept'
      prefix_lacks room new' kept' at = (
        n,
        (let l = inside in omega arith),
        prefix.quiet.1,
        record {
          listener_is = at.listener_is ∙ prefix.quiet.3;
          mode_is = at.mode_is ∙ prefix.mode_is;
          held_is = at.held_is ∙ sym at_next;
          represents = subst (Represents kept') (taken_one_more n new prefix.held_is inside) at.represents;
        },
      )

    -- all letters that there was room for
    pub prefix_is : (new' : LocalListener) (kept' : Kept) → n ≡ fitting g.listener letters → new'.listener ≡ new.listener → new'.mode ≡ new.mode → new'.held ≡ None → Represents kept' (taken_from g w id n)
        → IsAt g w id (fitting g.listener letters) (after_quiet g.listener (take (fitting g.listener letters) letters)) None new' kept'
    prefix_is new' kept' all listener mode held represents = subst (λ (k : ℕ). IsAt g w id k (after_quiet g.listener (take k letters)) None new' kept') all
        (record { listener_is = listener ∙ prefix.quiet.3; mode_is = mode ∙ prefix.mode_is; held_is = held; represents = represents })

    module _ (none : to_hear new (taken_from g w id n) id ≡ []) (room : length g.listener.gathered + n < MOST_GATHERED) where
      all_heard : n ≡ length letters
      all_heard = let a = length-drop n letters in let b = ap length (sym (letters_left n new prefix.held_is) ∙ none) in let c = prefix.within in omega arith

      all_fit : n ≡ fitting g.listener letters
      all_fit = let a = all_heard in omega arith

      no_hit : HasNoHit g.listener.pattern g.listener.gathered letters
      no_hit = subst (HasNoHit g.listener.pattern g.listener.gathered) (ap (λ (k : ℕ). take k letters) all_heard ∙ take-length letters) prefix.quiet.1

      module _ (new' : LocalListener) (kept' : Kept) (at : IsAt new (taken_from g w id n) id 0 new.listener None new' kept') where
        at_end : IsAt g w id (fitting g.listener letters) (after_quiet g.listener (take (fitting g.listener letters) letters)) None new' kept'
        at_end = prefix_is new' kept' all_fit at.listener_is at.mode_is at.held_is (subst (Represents kept') (none_more n new) at.represents)

        out_before : (out : Bool) → is_out (taken_from g w id n) id ≡ out → is_out w id ≡ out
        out_before out e = sym (out_then w id s is (n - length (option_to_list g.held))) ∙ e

        closed_before : (closed : Bool) → (taken_from g w id n).closed ≡ closed → w.closed ≡ closed
        closed_before closed e = sym (closed_then w id s is (n - length (option_to_list g.held))) ∙ e

        pub prefix_nothing : (taken_from g w id n).closed ≡ false → is_out (taken_from g w id n) id ≡ false → Hears g w id Nothing new' kept'
        prefix_nothing is_open up = (no_hit, inr (closed_before false is_open, out_before false up), at_end)

        pub prefix_end : (taken_from g w id n).closed ≡ true → is_out (taken_from g w id n) id ≡ false → Hears g w id End new' kept'
        prefix_end closed up = (no_hit, (let a = all_heard in omega arith), closed_before true closed, at_end, out_before false up)

        pub prefix_evicted : is_out (taken_from g w id n) id ≡ true → Hears g w id Evicted new' kept'
        prefix_evicted out = (no_hit, (let a = all_heard in omega arith), out_before true out, at_end)

    -- if there is no more room
    pub prefix_full : length g.listener.gathered + n ≡ MOST_GATHERED → length g.listener.gathered < MOST_GATHERED → Hears g w id Nothing new kept
    prefix_full full room =
        let within = prefix.within in
        let fits : n ≡ fitting g.listener letters = omega arith in
        let count = length-take-le n letters within in (
          subst (HasNoHit g.listener.pattern g.listener.gathered) (take-append-drop n letters)
              (HasNoHit-append g.listener.pattern g.listener.gathered (take n letters) (drop n letters) prefix.quiet.1 (omega arith)),
          inl (omega arith),
          prefix_is new kept fits refl refl (prefix.held_is ∙ none_held n (omega arith)) prefix.represents,
        )
      where
        none_held : (m : ℕ) → 1 ≤ m → held_after g m ≡ None
        none_held zero le = absurd (let no : ⊥ = omega arith in no)
        none_held (suc m) le = refl

    -- ---- what the next letter comes to, or that there is none

    pub prefix_then : length g.listener.gathered + n < MOST_GATHERED → (heard : Heard) (new' : LocalListener) (kept' : Kept) → HearsOne new (taken_from g w id n) id (Some heard) new' kept' → Hears g w id heard new' kept'
    prefix_then room Hit new' kept' h = prefix_hit h.0 h.1 h.3 h.2 new' kept' h.4 h.5.mode_is h.5.held_is h.5.represents
    prefix_then room Nothing new' kept' h = prefix_nothing h.0 room new' kept' h.2 h.1 h.3
    prefix_then room End new' kept' h = prefix_end h.0 room new' kept' h.2 h.1 h.3
    prefix_then room Evicted new' kept' h = prefix_evicted h.0 room new' kept' h.2 h.1
    prefix_then room Lacking new' kept' h = prefix_lacks h.0 h.1 h.2 room new' kept' h.3

-- ---- the next letter

pub record HasNext (g : LocalListener) (w : World) (id : ℕ) (x : ℕ) (kept : Kept) : Type 0 where
  pub rest : List ℕ
  pub first : to_hear g w id ≡ x ∷ rest
  pub represents : Represents kept (taken_from g w id 1)

module _ (g : LocalListener) (w : World) (id : ℕ) (s : Subscription) (is : subscription_in w id ≡ Some s) where
  pub none_used : (kept : Kept) → Represents kept w → (n : ℕ) → n ≡ length (option_to_list g.held) → Represents kept (taken_from g w id n)
  none_used kept represents n same =
      let t : count_to_take w s (n - length (option_to_list g.held)) ≡ 0 = count_none w s _ (omega arith) in
      subst (Represents kept) (sym (take_none w id s is (n - length (option_to_list g.held)) t)) represents

  pub held_next : (x y : ℕ) → g.held ≡ Some y → x ≡ y → (kept old : Kept) → Represents old w → kept ≡ old → HasNext g w id x kept
  held_next x y held same kept old represents still = record {
    rest = behind w id;
    first = ap (λ (o : Option ℕ). option_to_list o ++ behind w id) held ∙ ap (λ (z : ℕ). z ∷ behind w id) (sym same);
    represents = none_used kept (subst (λ (k : Kept). Represents k w) (sym still) represents) 1 (sym (ap (λ (o : Option ℕ). length (option_to_list o)) held));
  }

  pub taken_next : (x y : ℕ) → g.held ≡ None → x ≡ y → (kept new : Kept) → TakesOne w id (Ok y) new → kept ≡ new → HasNext g w id x kept
  taken_next x y held same kept new takes still = record {
    rest = takes.0;
    first = ap (λ (o : Option ℕ). option_to_list o ++ behind w id) held ∙ takes.1 ∙ ap (λ (z : ℕ). z ∷ takes.0) (sym same);
    represents = subst (λ (k : Kept). Represents k (taken_from g w id 1)) (sym still)
        (subst (λ (o : Option ℕ). Represents new (after_take w id (1 - length (option_to_list o)))) (sym held) takes.2);
  }

  pub nothing_next : g.held ≡ None → behind w id ≡ [] → to_hear g w id ≡ []
  nothing_next held none = ap (λ (o : Option ℕ). option_to_list o ++ behind w id) held ∙ none

  pub none_next : g.held ≡ None → (heard : Heard) (kept : Kept) → TakesOne w id (Err heard) kept → HearsOne g w id (Some heard) g kept
  none_next held Nothing kept t = (nothing_next held t.0, t.1, record { listener_is = refl; mode_is = refl; held_is = held; represents = none_used kept t.2 0 (sym (ap (λ (o : Option ℕ). length (option_to_list o)) held)) }, t.3)
  none_next held End kept t = (nothing_next held t.0, t.1, record { listener_is = refl; mode_is = refl; held_is = held; represents = none_used kept t.2 0 (sym (ap (λ (o : Option ℕ). length (option_to_list o)) held)) }, t.3)
  none_next held Evicted kept t = (nothing_next held t.0, t.1, record { listener_is = refl; mode_is = refl; held_is = held; represents = none_used kept t.2 0 (sym (ap (λ (o : Option ℕ). length (option_to_list o)) held)) })
  none_next held Hit kept t = absurd t
  none_next held Lacking kept t = absurd t
