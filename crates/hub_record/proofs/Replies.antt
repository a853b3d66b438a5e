-- A call has one reply in a world.
use Rattle.std.proofs.Common.{ℕ, ◌≡◌, ◌+◌, List, [], ◌∷◌, ◌++◌, length, map, take, drop, Option, Some, None, Result, Ok, Err, refl, sym, ap, subst, ◌∙◌, inl, inr, append_assoc, arith}
use Rattle.std.proofs.lemmas.Bool.{cases_order}
use Rattle.std.proofs.lemmas.List.{map-append, take-append-drop}
use Rattle.hub_letters.specs.declared.stage.Stage.{Stage}
use Rattle.hub_letters.specs.declared.stage.Stage.TheVariants.{Off}
use Rattle.hub_letters.specs.Marks.{Mark, mark}
use Rattle.hub_letters.specs.Lawful.{IsLawfulRow}
use Rattle.hub_letters.specs.Stages.{follow_by}
use Rattle.hub_letters.proofs.Lawful.{lawful_from_followed, followed_from_lawful, follow-append, follow_none}
use Rattle.hub_record.specs.declared.Kind.{Kind}
use Rattle.hub_record.specs.declared.Kind.TheVariants.{Plain, Service}
use Rattle.hub_record.specs.declared.SubError.{SubError}
use Rattle.hub_record.specs.declared.SubError.TheVariants as sub
use Rattle.hub_record.specs.declared.PubError.{PubError}
use Rattle.hub_record.specs.declared.PubError.TheVariants as post
use Rattle.hub_record.specs.declared.runs.Call.{Call}
use Rattle.hub_record.specs.declared.runs.Call.TheVariants.{Subscribe, Publish, Take, Cancel, Close}
use Rattle.hub_record.specs.declared.runs.Said.{Said}
use Rattle.hub_record.specs.declared.runs.Said.TheVariants.{Subscribed, Published, Took, Cancelled, Shut}
use Rattle.hub_record.specs.World.{World, IsLawfulIn, IsUnlawfulIn, HasRoom, IsFull, letters}
use Rattle.hub_record.specs.Runs.{SaidTo, after_call, IsRun}

-- ---- lawful words

lawful_before : (a b : List Mark) → IsLawfulRow (a ++ b) → IsLawfulRow a
lawful_before a b l = by (follow_by (Some Off) a) refl
  where
    whole : follow_by (follow_by (Some Off) a) b ≡ follow_by (Some Off) (a ++ b)
    whole = sym (follow-append (Some Off) a b)

    by : (o : Option Stage) → follow_by (Some Off) a ≡ o → IsLawfulRow a
    by (Some s) is = (lawful_from_followed a s is).0
    by None is =
        let e = followed_from_lawful (a ++ b) l in
        let n = sym (follow_none b) ∙ ap (λ o. follow_by o b) (sym is) ∙ whole in
        cc

-- a word with an unlawful prefix is unlawful
unlawful_whole : (kind : Kind) (word message : List ℕ) (i : ℕ) → IsUnlawfulIn kind word message i → IsLawfulIn kind (word ++ message) → ⊥
unlawful_whole Plain word message i u l = u
unlawful_whole Service word message i u l =
    let parts : (word ++ take (i + 1) message) ++ drop (i + 1) message ≡ word ++ message = append_assoc word (take (i + 1) message) (drop (i + 1) message) ∙ ap (λ z. word ++ z) (take-append-drop (i + 1) message) in
    u.broken (lawful_before (map mark (word ++ take (i + 1) message)) (map mark (drop (i + 1) message))
    (subst IsLawfulRow (ap (map mark) (sym parts) ∙ map-append mark (word ++ take (i + 1) message) (drop (i + 1) message)) l))

unlawful_once : (kind : Kind) (word message : List ℕ) (i j : ℕ) → IsUnlawfulIn kind word message i → IsUnlawfulIn kind word message j → i ≡ j
unlawful_once Plain word message i j u v = absurd u
unlawful_once Service word message i j u v = elim (cases_order i j) [
  | inl same ↦ same
  | inr apart ↦ elim apart [
    | inl less ↦ absurd (u.broken (v.before i less))
    | inr more ↦ absurd (v.broken (u.before j more))
  ]
]

full_once : (w : World) (n : ℕ) → HasRoom w n → IsFull w n → ⊥
full_once w n (inl none) f = f.0 none
full_once w n (inr room) f = let more = f.1 in omega arith

-- ---- the replies to one call

same_subscribed : (w : World) (a b : Result (ℕ × ℕ) SubError) → SaidTo w Subscribe (Subscribed a) → SaidTo w Subscribe (Subscribed b) → a ≡ b
same_subscribed w (Ok x) (Ok y) h k = ap Ok (h.1 ∙ sym k.1)
same_subscribed w (Ok x) (Err sub.Closed) h k = let p = h.0.is_open in let q = k in cc
same_subscribed w (Ok x) (Err sub.Many) h k = let p0 = h.0.few in let p1 = h.0.left in let p2 = k.1 in absurd (omega arith)
same_subscribed w (Ok x) (Err sub.Spent) h k = let p0 = h.0.few in let p1 = h.0.left in let p2 = k.1 in let p3 = k.2 in absurd (omega arith)
same_subscribed w (Err sub.Closed) (Ok y) h k = let p = h in let q = k.0.is_open in cc
same_subscribed w (Err sub.Closed) (Err sub.Closed) h k = refl
same_subscribed w (Err sub.Closed) (Err sub.Many) h k = let p = h in let q = k.0 in cc
same_subscribed w (Err sub.Closed) (Err sub.Spent) h k = let p = h in let q = k.0 in cc
same_subscribed w (Err sub.Many) (Ok y) h k = let p0 = h.1 in let p1 = k.0.few in let p2 = k.0.left in absurd (omega arith)
same_subscribed w (Err sub.Many) (Err sub.Closed) h k = let p = h.0 in let q = k in cc
same_subscribed w (Err sub.Many) (Err sub.Many) h k = refl
same_subscribed w (Err sub.Many) (Err sub.Spent) h k = let p0 = h.1 in let p1 = k.1 in let p2 = k.2 in absurd (omega arith)
same_subscribed w (Err sub.Spent) (Ok y) h k = let p0 = h.1 in let p1 = h.2 in let p2 = k.0.few in let p3 = k.0.left in absurd (omega arith)
same_subscribed w (Err sub.Spent) (Err sub.Closed) h k = let p = h.0 in let q = k in cc
same_subscribed w (Err sub.Spent) (Err sub.Many) h k = let p0 = h.1 in let p1 = h.2 in let p2 = k.1 in absurd (omega arith)
same_subscribed w (Err sub.Spent) (Err sub.Spent) h k = refl
same_subscribed w a (Err sub.Memory) h k = absurd k
same_subscribed w (Err sub.Memory) b h k = absurd h

same_published : (w : World) (who : ℕ) (message : List ℕ) (a b : Result ℕ PubError) → SaidTo w (Publish who message) (Published a) → SaidTo w (Publish who message) (Published b) → a ≡ b
same_published w who message (Ok x) (Ok y) h k = ap Ok (h.1 ∙ sym k.1)
same_published w who message (Ok x) (Err post.Closed) h k = let p = h.0.is_open in let q = k in cc
same_published w who message (Ok x) (Err (post.Unlawful y)) h k = absurd (unlawful_whole w.kind (letters w.events) message y k.1 h.0.lawful)
same_published w who message (Ok x) (Err post.Spent) h k = let p = h.0.within in let q = k.2 in absurd (omega arith)
same_published w who message (Ok x) (Err post.Full) h k = absurd (full_once w (length message) h.0.room k.3)
same_published w who message (Err post.Closed) (Ok y) h k = let p = h in let q = k.0.is_open in cc
same_published w who message (Err post.Closed) (Err post.Closed) h k = refl
same_published w who message (Err post.Closed) (Err (post.Unlawful y)) h k = let p = h in let q = k.0 in cc
same_published w who message (Err post.Closed) (Err post.Spent) h k = let p = h in let q = k.0 in cc
same_published w who message (Err post.Closed) (Err post.Full) h k = let p = h in let q = k.0 in cc
same_published w who message (Err (post.Unlawful x)) (Ok y) h k = absurd (unlawful_whole w.kind (letters w.events) message x h.1 k.0.lawful)
same_published w who message (Err (post.Unlawful x)) (Err post.Closed) h k = let p = h.0 in let q = k in cc
same_published w who message (Err (post.Unlawful x)) (Err (post.Unlawful y)) h k = ap (λ i. Err (post.Unlawful i)) (unlawful_once w.kind (letters w.events) message x y h.1 k.1)
same_published w who message (Err (post.Unlawful x)) (Err post.Spent) h k = absurd (unlawful_whole w.kind (letters w.events) message x h.1 k.1)
same_published w who message (Err (post.Unlawful x)) (Err post.Full) h k = absurd (unlawful_whole w.kind (letters w.events) message x h.1 k.1)
same_published w who message (Err post.Spent) (Ok y) h k = let p = h.2 in let q = k.0.within in absurd (omega arith)
same_published w who message (Err post.Spent) (Err post.Closed) h k = let p = h.0 in let q = k in cc
same_published w who message (Err post.Spent) (Err (post.Unlawful y)) h k = absurd (unlawful_whole w.kind (letters w.events) message y k.1 h.1)
same_published w who message (Err post.Spent) (Err post.Spent) h k = refl
same_published w who message (Err post.Spent) (Err post.Full) h k = let p = h.2 in let q = k.2 in absurd (omega arith)
same_published w who message (Err post.Full) (Ok y) h k = absurd (full_once w (length message) k.0.room h.3)
same_published w who message (Err post.Full) (Err post.Closed) h k = let p = h.0 in let q = k in cc
same_published w who message (Err post.Full) (Err (post.Unlawful y)) h k = absurd (unlawful_whole w.kind (letters w.events) message y k.1 h.1)
same_published w who message (Err post.Full) (Err post.Spent) h k = let p = h.2 in let q = k.2 in absurd (omega arith)
same_published w who message (Err post.Full) (Err post.Full) h k = refl

pub same_reply : (w : World) (call : Call) (one other : Said) → SaidTo w call one → SaidTo w call other → one ≡ other
same_reply w Subscribe (Subscribed a) (Subscribed b) h k = ap Subscribed (same_subscribed w a b h k)
same_reply w (Publish who message) (Published a) (Published b) h k = ap Published (same_published w who message a b h k)
same_reply w (Take id max) (Took a) (Took b) h k = ap Took (h ∙ sym k)
same_reply w (Cancel id) (Cancelled a) (Cancelled b) h k = ap Cancelled (h ∙ sym k)
same_reply w Close (Shut a) (Shut b) h k = ap Shut (h ∙ sym k)
same_reply w Subscribe (Subscribed a) other h k = absurd k
same_reply w (Publish who message) (Published a) other h k = absurd k
same_reply w (Take id max) (Took a) other h k = absurd k
same_reply w (Cancel id) (Cancelled a) other h k = absurd k
same_reply w Close (Shut a) other h k = absurd k
same_reply w call one other h k = absurd h

pub same_world : (w : World) (call : Call) (one other : Said) → SaidTo w call one → SaidTo w call other → after_call w call one ≡ after_call w call other
same_world w call one other h k = ap (after_call w call) (same_reply w call one other h k)

pub same_run : (w : World) (calls : List Call) (one other : List Said) → IsRun w calls one → IsRun w calls other → one ≡ other
same_run w [] [] [] h k = refl
same_run w [] [] (y ∷ ys) h k = absurd k
same_run w [] (x ∷ xs) other h k = absurd h
same_run w (call ∷ calls) [] other h k = absurd h
same_run w (call ∷ calls) (x ∷ xs) [] h k = absurd k
same_run w (call ∷ calls) (x ∷ xs) (y ∷ ys) h k =
    let same = same_reply w call x y h.0 k.0 in
    (λ i. same i ∷ same_run (after_call w call x) calls xs ys h.1 (subst (λ s. IsRun (after_call w call s) calls ys) (sym same) k.1) i)
