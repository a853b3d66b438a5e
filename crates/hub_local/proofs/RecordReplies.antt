-- A record's replies are those that the functions give.
use Rattle.std.proofs.Common.{◌≡◌, ◌≢◌, ℕ, zero, ◌+◌, ◌<◌, true, false, List, [], ◌∷◌, ◌++◌, length, map, take, Option, Some, None, is_some, Result, Ok, Err, nat_eq, nat_lt, nat_le, refl, sym, ap, subst, ◌∙◌, inl, inr, suc, true≢false, append_assoc, append-nil, arith}
use Rattle.std.proofs.lemmas.Bool.{cases_Bool, le-leb, lt-leb, lt-ltb, le-ltb, ne_eqb, leb-true, leb-false, ltb-true, ltb-false, eqb-true, eqb-false}
use Rattle.std.proofs.lemmas.List.{nil_from_length}
use Rattle.std.specs.Option.{option_map}
use Rattle.hub_letters.specs.Marks.{Mark, mark}
use Rattle.hub_letters.specs.Lawful.{IsLawful, IsFirstUnlawful}
use Rattle.hub_letters.specs.Stages.{stage_of, follow_by, stage_by_code}
use Rattle.hub_letters.specs.declared.stage.Stage.{Stage}
use Rattle.hub_letters.specs.declared.stage.Stage.TheVariants.{Off}
use Rattle.hub_letters.proofs.Lawful.{follow_none, follow-append, followed_from_lawful, lawful_from_followed}
use Rattle.hub_record.specs.declared.limits.TheConstants.{MOST_PASSES}
use Rattle.hub_record.specs.declared.Kind.{Kind}
use Rattle.hub_record.specs.declared.Kind.TheVariants.{Plain, Service}
use Rattle.hub_record.specs.declared.SubError.{SubError}
use Rattle.hub_record.specs.declared.SubError.TheVariants as sub
use Rattle.hub_record.specs.declared.PubError.{PubError}
use Rattle.hub_record.specs.declared.PubError.TheVariants as post
use Rattle.hub_record.specs.World.{World, current, active, letters, needed, IsLawfulIn, IsUnlawfulIn, SubscribeReply, HasRoom, IsFull, PublishReply}
use Rattle.hub_local.specs.Replies.{SubscribeIsOf, PublishIsOf, subscribe_reply, is_lawful_in, first_unlawful, is_full, lawful_reply, open_reply, publish_reply}

pub subscribe_reply_is : (w : World) (r : Result (ℕ × ℕ) SubError) → SubscribeReply w r → r ≢ Err sub.Memory → r ≡ subscribe_reply w
subscribe_reply_is w (Ok given) h real = simp (h.0.is_open, lt-leb MOST_PASSES _ h.0.few, lt-leb w.limits.ids _ h.0.left) (ap (λ (z : ℕ × ℕ). Ok z) h.1)
subscribe_reply_is w (Err sub.Closed) h real = simp h
subscribe_reply_is w (Err sub.Many) h real = simp (h.0, le-leb MOST_PASSES _ h.1)
subscribe_reply_is w (Err sub.Spent) h real = simp (h.0, lt-leb MOST_PASSES _ h.1, le-leb w.limits.ids _ h.2)
subscribe_reply_is w (Err sub.Memory) h real = absurd (real refl)

-- ---- lawful words

some_stage : (o : Option Stage) → is_some o ≡ true → (q : Stage) × (o ≡ Some q)
some_stage None h = absurd (true≢false (sym h))
some_stage (Some q) h = (q, refl)

pub lawful_test : (kind : Kind) (word : List ℕ) → IsLawfulIn kind word → is_lawful_in kind word ≡ true
lawful_test Plain word h = refl
lawful_test Service word h = ap is_some (followed_from_lawful (map mark word) h)

pub test_lawful : (kind : Kind) (word : List ℕ) → is_lawful_in kind word ≡ true → IsLawfulIn kind word
test_lawful Plain word h = tt
test_lawful Service word h = let s = some_stage (stage_by_code Off word) h in (lawful_from_followed (map mark word) s.0 s.1).0

map_mark-append : (a b : List ℕ) → map mark (a ++ b) ≡ map mark a ++ map mark b
map_mark-append [] b = refl
map_mark-append (x ∷ a) b = ap (λ (z : List Mark). mark x ∷ z) (map_mark-append a b)

-- a prefix of a lawful word is lawful
pub lawful_prefix : (kind : Kind) (a b : List ℕ) → IsLawfulIn kind (a ++ b) → is_lawful_in kind a ≡ true
lawful_prefix Plain a b h = refl
lawful_prefix Service a b h = by (stage_by_code Off a) refl
  where
    whole : follow_by (stage_by_code Off a) (map mark b) ≡ Some (stage_of (a ++ b))
    whole = sym (ap (follow_by (Some Off)) (map_mark-append a b) ∙ follow-append (Some Off) (map mark a) (map mark b)) ∙ followed_from_lawful (map mark (a ++ b)) h

    by : (o : Option Stage) → stage_by_code Off a ≡ o → is_some o ≡ true
    by (Some q) e = refl
    by None e = let k : follow_by None (map mark b) ≡ Some (stage_of (a ++ b)) = sym (ap (λ (z : Option Stage). follow_by z (map mark b)) e) ∙ whole in
        let n = follow_none (map mark b) in absurd (let no : ⊥ = cc in no)

-- ---- the first unlawful place

pub first_unlawful_none : (kind : Kind) (word message : List ℕ) → IsLawfulIn kind (word ++ message) → first_unlawful kind word message ≡ None
first_unlawful_none kind word [] h = refl
first_unlawful_none kind word (letter ∷ rest) h =
    let same : word ++ (letter ∷ rest) ≡ (word ++ letter ∷ []) ++ rest = sym (append_assoc word (letter ∷ []) rest) in
    let whole : IsLawfulIn kind ((word ++ letter ∷ []) ++ rest) = subst (IsLawfulIn kind) same h in
    simp (lawful_prefix kind (word ++ letter ∷ []) rest whole, first_unlawful_none kind (word ++ letter ∷ []) rest whole)

take-next : (n letter : ℕ) (rest : List ℕ) → take (suc n + 1) (letter ∷ rest) ≡ letter ∷ take (n + 1) rest
take-next n letter rest = let e : suc n + 1 ≡ suc (n + 1) = omega arith in ap (λ (k : ℕ). take k (letter ∷ rest)) e

first_in : (word message : List ℕ) (i : ℕ) → IsFirstUnlawful word message i → first_unlawful Service word message ≡ Some i
first_in word [] i h = let l = h.inside in absurd (let no : ⊥ = omega arith in no)
first_in word (letter ∷ rest) zero h =
    elim (cases_Bool (is_lawful_in Service (word ++ letter ∷ []))) [
      | inl t ↦ absurd (h.broken (test_lawful Service (word ++ letter ∷ []) t))
      | inr t ↦ simp t
    ]
first_in word (letter ∷ rest) (suc i) h =
    let one = lawful_test Service (word ++ letter ∷ []) (h.before 0 (omega arith)) in
    let l = h.inside in
    let ih = first_in (word ++ letter ∷ []) rest i (record {
      inside = omega arith;
      before = λ j below. subst IsLawful (ap (λ (z : List ℕ). word ++ z) (take-next j letter rest) ∙ sym (append_assoc word (letter ∷ []) (take (j + 1) rest))) (h.before (suc j) (omega arith));
      broken = λ lawful. h.broken (subst IsLawful (append_assoc word (letter ∷ []) (take (i + 1) rest) ∙ ap (λ (z : List ℕ). word ++ z) (sym (take-next i letter rest))) lawful);
    }) in
    simp (one, ih) (let n : i + 1 ≡ suc i = omega arith in ap (λ (k : ℕ). Some k) n)

pub first_unlawful_some : (kind : Kind) (word message : List ℕ) (i : ℕ) → IsUnlawfulIn kind word message i → first_unlawful kind word message ≡ Some i
first_unlawful_some Plain word message i h = absurd h
first_unlawful_some Service word message i h = first_in word message i h

-- ---- publish

no_room : (w : World) (n : ℕ) → IsFull w n → is_full w n ≡ true
no_room w n h =
    elim (cases_Bool (nat_eq (length (active w)) 0)) [
      | inl e ↦ absurd (h.0 (nil_from_length (active w) (eqb-true _ 0 e)))
      | inr e ↦ simp (e, lt-ltb w.limits.waiting _ h.1)
    ]

room : (w : World) (n : ℕ) → HasRoom w n → is_full w n ≡ false
room w n (inl none) = simp none
room w n (inr fits) =
    let t = le-ltb w.limits.waiting (needed w n) fits in
    elim (cases_Bool (nat_eq (length (active w)) 0)) [ inl e ↦ simp e | inr e ↦ simp (e, t) ]

pub publish_reply_is : (w : World) (message : List ℕ) (r : Result ℕ PubError) → PublishReply w message r → r ≡ publish_reply w message
publish_reply_is w message (Ok first) h =
    simp (h.0.is_open, first_unlawful_none w.kind (letters w.events) message h.0.lawful, le-ltb w.limits.total _ h.0.within, room w (length message) h.0.room)
    (ap (λ (z : ℕ). Ok z) h.1)
publish_reply_is w message (Err post.Closed) h = simp h
publish_reply_is w message (Err (post.Unlawful i)) h = simp (h.0, first_unlawful_some w.kind (letters w.events) message i h.1)
publish_reply_is w message (Err post.Spent) h = simp (h.0, first_unlawful_none w.kind (letters w.events) message h.1, lt-ltb w.limits.total _ h.2)
publish_reply_is w message (Err post.Full) h =
    simp (h.0, first_unlawful_none w.kind (letters w.events) message h.1, le-ltb w.limits.total _ h.2, no_room w (length message) h.3)

-- ---- the functions' replies are the record's

subscribe_holds : (w : World) → SubscribeReply w (subscribe_reply w)
subscribe_holds w =
    elim (cases_Bool w.closed) [
      | inl c ↦ (let e : subscribe_reply w ≡ Err sub.Closed = simp c in subst (SubscribeReply w) (sym e) c)
      | inr c ↦ elim (cases_Bool (nat_le MOST_PASSES (length (current w)))) [
        | inl m ↦ (let e : subscribe_reply w ≡ Err sub.Many = simp (c, m) in subst (SubscribeReply w) (sym e) (c, leb-true MOST_PASSES _ m))
        | inr m ↦ elim (cases_Bool (nat_le w.limits.ids (length w.subscriptions))) [
          | inl s ↦ (let e : subscribe_reply w ≡ Err sub.Spent = simp (c, m, s) in subst (SubscribeReply w) (sym e) (c, leb-false MOST_PASSES _ m, leb-true w.limits.ids _ s))
          | inr s ↦ (let e : subscribe_reply w ≡ Ok (length w.subscriptions + 1, length w.events) = simp (c, m, s) in
              subst (SubscribeReply w) (sym e) (record { is_open = c; few = leb-false MOST_PASSES _ m; left = leb-false w.limits.ids _ s }, refl))
        ]
      ]
    ]

pub subscribe_is_of : SubscribeIsOf
subscribe_is_of w = (subscribe_holds w, subscribe_reply_is w)

pub given_is : (w : World) (given : ℕ × ℕ) → subscribe_reply w ≡ Ok given → given.0 ≡ length w.subscriptions + 1
given_is w given said = let replies = subst (SubscribeReply w) said (subscribe_is_of w).0 in ap (λ (g : ℕ × ℕ). g.0) replies.1

none_lawful : (kind : Kind) (word message : List ℕ) → IsLawfulIn kind word → first_unlawful kind word message ≡ None → IsLawfulIn kind (word ++ message)
none_lawful kind word [] lawful e = subst (IsLawfulIn kind) (sym (append-nil word)) lawful
none_lawful kind word (letter ∷ rest) lawful e =
    elim (cases_Bool (is_lawful_in kind (word ++ letter ∷ []))) [
      | inl t ↦ subst (IsLawfulIn kind) (append_assoc word (letter ∷ []) rest)
          (none_lawful kind (word ++ letter ∷ []) rest (test_lawful kind _ t) (none_before (first_unlawful kind (word ++ letter ∷ []) rest) (simp t at e)))
      | inr t ↦ (let k = simp t at e in absurd (let no : ⊥ = cc in no))
    ]
  where
    none_before : (o : Option ℕ) → option_map (λ place. place + 1) o ≡ None → o ≡ None
    none_before None h = refl
    none_before (Some i) h = absurd (let no : ⊥ = cc in no)

some_before : (o : Option ℕ) (i : ℕ) → option_map (λ place. place + 1) o ≡ Some i → (j : ℕ) × (o ≡ Some j) × (i ≡ j + 1)
some_before None i h = absurd (let no : ⊥ = cc in no)
some_before (Some j) i h = (j, refl, cc)

some_unlawful : (word message : List ℕ) (i : ℕ) → first_unlawful Service word message ≡ Some i → IsFirstUnlawful word message i
some_unlawful word [] i e = absurd (let no : ⊥ = cc in no)
some_unlawful word (letter ∷ rest) i e =
    elim (cases_Bool (is_lawful_in Service (word ++ letter ∷ []))) [
      | inl t ↦ (let b = some_before (first_unlawful Service (word ++ letter ∷ []) rest) i (simp t at e) in
          let ih = some_unlawful (word ++ letter ∷ []) rest b.0 b.1 in
          later b.0 i b.2 t ih)
      | inr t ↦ (let k = simp t at e in
          let zero_is : 0 ≡ i = cc in
          subst (λ (n : ℕ). IsFirstUnlawful word (letter ∷ rest) n) zero_is (first t))
    ]
  where
    first : is_lawful_in Service (word ++ letter ∷ []) ≡ false → IsFirstUnlawful word (letter ∷ rest) 0
    first t = record {
      inside = omega arith;
      before = λ j below. absurd (let no : ⊥ = omega arith in no);
      broken = λ lawful. true≢false (sym (lawful_test Service (word ++ letter ∷ []) lawful) ∙ t);
    }

    later : (j n : ℕ) → n ≡ j + 1 → is_lawful_in Service (word ++ letter ∷ []) ≡ true → IsFirstUnlawful (word ++ letter ∷ []) rest j → IsFirstUnlawful word (letter ∷ rest) n
    later j n is t h = let l = h.inside in record {
      inside = omega arith;
      before = before_at;
      broken = λ lawful. h.broken (subst IsLawful (ap (λ (k : ℕ). word ++ take (k + 1) (letter ∷ rest)) (let e : n ≡ suc j = omega arith in e)
          ∙ ap (λ (z : List ℕ). word ++ z) (take-next j letter rest) ∙ sym (append_assoc word (letter ∷ []) (take (j + 1) rest))) lawful);
    }
      where
        before_at : (k : ℕ) → k < n → IsLawful (word ++ take (k + 1) (letter ∷ rest))
        before_at zero below = test_lawful Service (word ++ letter ∷ []) t
        before_at (suc k) below = subst IsLawful (append_assoc word (letter ∷ []) (take (k + 1) rest) ∙ ap (λ (z : List ℕ). word ++ z) (sym (take-next k letter rest))) (h.before k (omega arith))

some_unlawful_in : (kind : Kind) (word message : List ℕ) (i : ℕ) → first_unlawful kind word message ≡ Some i → IsUnlawfulIn kind word message i
some_unlawful_in Service word message i e = some_unlawful word message i e
some_unlawful_in Plain word message i e = let n = first_unlawful_none Plain word message tt in let no : ⊥ = cc in no

full_holds : (w : World) (n : ℕ) → is_full w n ≡ true → IsFull w n
full_holds w n e =
    elim (cases_Bool (nat_eq (length (active w)) 0)) [
      | inl z ↦ (let k = simp z at e in absurd (true≢false (sym k)))
      | inr z ↦ (λ none. eqb-false _ 0 z (ap length none), ltb-true w.limits.waiting _ (simp z at e))
    ]

room_holds : (w : World) (n : ℕ) → is_full w n ≡ false → HasRoom w n
room_holds w n e = by (active w) refl
  where
    by : (xs : List (ℕ × ℕ)) → active w ≡ xs → HasRoom w n
    by [] is = inl is
    by (x ∷ xs) is = inr (ltb-false w.limits.waiting (needed w n) (let z : nat_eq (length (active w)) 0 ≡ false = ap (λ (ys : List (ℕ × ℕ)). nat_eq (length ys) 0) is ∙ ne_eqb (length (x ∷ xs)) 0 (λ (same : length (x ∷ xs) ≡ 0). omega arith) in simp z at e))

module _ (w : World) (message : List ℕ) (lawful : IsLawfulIn w.kind (letters w.events)) where
  lawful_holds : w.closed ≡ false → first_unlawful w.kind (letters w.events) message ≡ None → PublishReply w message (lawful_reply w (length message))
  lawful_holds c none =
      let whole = none_lawful w.kind (letters w.events) message lawful none in
      elim (cases_Bool (nat_lt w.limits.total (length w.events + length message))) [
        | inl s ↦ (let e : lawful_reply w (length message) ≡ Err post.Spent = simp s in subst (PublishReply w message) (sym e) (c, whole, ltb-true w.limits.total _ s))
        | inr s ↦ elim (cases_Bool (is_full w (length message))) [
          | inl f ↦ (let e : lawful_reply w (length message) ≡ Err post.Full = simp (s, f) in
              subst (PublishReply w message) (sym e) (c, whole, ltb-false w.limits.total _ s, full_holds w (length message) f))
          | inr f ↦ (let e : lawful_reply w (length message) ≡ Ok (length w.events) = simp (s, f) in
              subst (PublishReply w message) (sym e) (record { is_open = c; lawful = whole; within = ltb-false w.limits.total _ s; room = room_holds w (length message) f }, refl))
        ]
      ]

  open_holds : w.closed ≡ false → (o : Option ℕ) → first_unlawful w.kind (letters w.events) message ≡ o → PublishReply w message (open_reply w (length message) o)
  open_holds c (Some i) e = (c, some_unlawful_in w.kind (letters w.events) message i e)
  open_holds c None e = lawful_holds c e

  publish_holds : PublishReply w message (publish_reply w message)
  publish_holds =
      elim (cases_Bool w.closed) [
        | inl c ↦ (let e : publish_reply w message ≡ Err post.Closed = simp c in subst (PublishReply w message) (sym e) c)
        | inr c ↦ (let e : publish_reply w message ≡ open_reply w (length message) (first_unlawful w.kind (letters w.events) message) = simp c in
            subst (PublishReply w message) (sym e) (open_holds c _ refl))
      ]

pub publish_is_of : PublishIsOf
publish_is_of w message lawful = (publish_holds w message lawful, publish_reply_is w message)
