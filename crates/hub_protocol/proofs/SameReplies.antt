-- Replies with the same pieces are one.
use Rattle.std.proofs.Common.{◌≡◌, ℕ, List, [], ◌∷◌, Bool, true, false, refl, sym, ap, ◌∙◌, arith}
use Rattle.std.proofs.lemmas.List.{append_cancel_right}
use Rattle.std.specs.Fmt.{decimal}
use Rattle.hub_letters.specs.declared.flags.Flags.{Flags}
use Rattle.hub_letters.specs.Flags.{code_of, digit}
use Rattle.hub_record.specs.declared.Kind as kinds
use Rattle.hub_record.specs.declared.Kind.TheVariants as kind
use Rattle.hub_record.specs.declared.Status.{Status}
use Rattle.hub_record.specs.declared.limits.Policy.{Policy}
use Rattle.hub_record.specs.declared.limits.Policy.TheVariants.{Hold, Evict}
use Rattle.hub_requests.specs.declared.about.About as abouts
use Rattle.hub_requests.specs.Texts.{line_of, openness, pieces_about, text_of, text_of_flag, word_of_kind, word_of_policy}
use Rattle.hub_requests.specs.declared.reply.Reply.{Reply}
use Rattle.hub_requests.specs.declared.reply.Reply.TheVariants.{Done, Number, State, About, Got, Hit, Nothing, End, Evicted, Yes, Never, Late, Listed, No}
use Rattle.hub_requests.specs.declared.reply.Refusal.{Refusal}
use Rattle.hub_requests.specs.declared.reply.Refusal.TheVariants as no
use Rattle.hub_requests.specs.declared.reply.Refusal.TheVariants.{Unlawful}
use Rattle.hub_protocol.specs.Spelling.{fields_of}
use Rattle.hub_protocol.specs.Replies.{IsSoundAbout, IsSoundRefusal, IsSoundReply}
use Rattle.hub_protocol.specs.ReplyLines.{behind_of, head_of, words_of}
use Rattle.hub_protocol.proofs.Counts.{same_count, same_counts}
use Rattle.hub_protocol.proofs.ReplyTexts.{pieces-line, small_code, small_digit}
use Rattle.hub_protocol.proofs.SameWords.{apart}

-- ---- a status

same_digit : (a b : Bool) → digit a ≡ digit b → a ≡ b
same_digit true true e = refl
same_digit false false e = refl
same_digit true false e = absurd (omega (arith, e))
same_digit false true e = absurd (omega (arith, e))

abbrev flags_with : (up settled supervised failed : Bool) → Flags
flags_with up settled supervised failed = record { up = up; settled = settled; supervised = supervised; failed = failed }

pub same_flags : (f g : Flags) → code_of f ≡ code_of g → f ≡ g
same_flags f g e =
    let a = small_digit f.up in let b = small_digit f.settled in let c = small_digit f.supervised in let d = small_digit f.failed in
    let a' = small_digit g.up in let b' = small_digit g.settled in let c' = small_digit g.supervised in let d' = small_digit g.failed in
    let up : f.up ≡ g.up = same_digit f.up g.up (omega (arith, e, a, b, c, d, a', b', c', d')) in
    let settled : f.settled ≡ g.settled = same_digit f.settled g.settled (omega (arith, e, a, b, c, d, a', b', c', d')) in
    let supervised : f.supervised ≡ g.supervised = same_digit f.supervised g.supervised (omega (arith, e, a, b, c, d, a', b', c', d')) in
    let failed : f.failed ≡ g.failed = same_digit f.failed g.failed (omega (arith, e, a, b, c, d, a', b', c', d')) in
    ap (λ x. flags_with x f.settled f.supervised f.failed) up ∙ ap (λ x. flags_with g.up x f.supervised f.failed) settled
    ∙ ap (λ x. flags_with g.up g.settled x f.failed) supervised ∙ ap (λ x. flags_with g.up g.settled g.supervised x) failed

pub same_openness : (a b : Bool) → openness a ≡ openness b → a ≡ b
same_openness true true e = refl
same_openness false false e = refl
same_openness a b e = absurd (apart (openness a) (openness b) refl e)

abbrev status_with : ℕ → Flags → Bool → Status
status_with number flags closed = record { number = number; flags = flags; closed = closed }

same_status : (s t : Status) → s.number ≡ t.number → s.flags ≡ t.flags → s.closed ≡ t.closed → s ≡ t
same_status s t a b c =
    ap (λ x. status_with x s.flags s.closed) a ∙ ap (λ x. status_with t.number x s.closed) b ∙ ap (λ x. status_with t.number t.flags x) c

-- ---- what is told about a fifodir

same_kind : (a b : kinds.Kind) → word_of_kind a ≡ word_of_kind b → a ≡ b
same_kind kind.Plain kind.Plain e = refl
same_kind kind.Service kind.Service e = refl
same_kind a b e = absurd (apart (word_of_kind a) (word_of_kind b) refl e)

same_flag : (a b : Bool) → text_of_flag a ≡ text_of_flag b → a ≡ b
same_flag true true e = refl
same_flag false false e = refl
same_flag a b e = absurd (apart (text_of_flag a) (text_of_flag b) refl e)

same_policy : (a b : Policy) → word_of_policy a ≡ word_of_policy b → a ≡ b
same_policy Hold Hold e = refl
same_policy Evict Evict e = refl
same_policy a b e = absurd (apart (word_of_policy a) (word_of_policy b) refl e)

abbrev about_with : kinds.Kind → Bool → ℕ → ℕ → Policy → ℕ → ℕ → ℕ → abouts.About
about_with kind notifies waiting total policy subscriptions publishers pending = record {
  kind = kind;
  notifies = notifies;
  waiting = waiting;
  total = total;
  policy = policy;
  subscriptions = subscriptions;
  publishers = publishers;
  pending = pending;
}

same_about : (a b : abouts.About) → IsSoundAbout a → IsSoundAbout b → pieces_about a ≡ pieces_about b → a ≡ b
same_about a b h k e =
    let kinds : word_of_kind a.kind ≡ word_of_kind b.kind = cc in
    let flags : text_of_flag a.notifies ≡ text_of_flag b.notifies = cc in
    let waits : decimal a.waiting ≡ decimal b.waiting = cc in
    let totals : decimal a.total ≡ decimal b.total = cc in
    let policies : word_of_policy a.policy ≡ word_of_policy b.policy = cc in
    let subs : decimal a.subscriptions ≡ decimal b.subscriptions = cc in
    let pubs : decimal a.publishers ≡ decimal b.publishers = cc in
    let loads : decimal a.pending ≡ decimal b.pending = cc in
    let kind = same_kind a.kind b.kind kinds in
    let notifies = same_flag a.notifies b.notifies flags in
    let waiting = same_count a.waiting b.waiting h.waiting k.waiting waits in
    let total = same_count a.total b.total h.total k.total totals in
    let policy = same_policy a.policy b.policy policies in
    let subscriptions = same_count a.subscriptions b.subscriptions h.subscriptions k.subscriptions subs in
    let publishers = same_count a.publishers b.publishers h.publishers k.publishers pubs in
    let pending = same_count a.pending b.pending h.pending k.pending loads in
    ap (λ x. about_with x a.notifies a.waiting a.total a.policy a.subscriptions a.publishers a.pending) kind
    ∙ ap (λ x. about_with b.kind x a.waiting a.total a.policy a.subscriptions a.publishers a.pending) notifies
    ∙ ap (λ x. about_with b.kind b.notifies x a.total a.policy a.subscriptions a.publishers a.pending) waiting
    ∙ ap (λ x. about_with b.kind b.notifies b.waiting x a.policy a.subscriptions a.publishers a.pending) total
    ∙ ap (λ x. about_with b.kind b.notifies b.waiting b.total x a.subscriptions a.publishers a.pending) policy
    ∙ ap (λ x. about_with b.kind b.notifies b.waiting b.total b.policy x a.publishers a.pending) subscriptions
    ∙ ap (λ x. about_with b.kind b.notifies b.waiting b.total b.policy b.subscriptions x a.pending) publishers
    ∙ ap (λ x. about_with b.kind b.notifies b.waiting b.total b.policy b.subscriptions b.publishers x) pending

-- ---- a refusal

abbrev first_in : List (List ℕ) → List ℕ
first_in [] = []
first_in (piece ∷ pieces) = piece

abbrev head_of_refusal : Refusal → List ℕ
head_of_refusal refusal = first_in (words_of refusal)

pub same_refusal : (a b : Refusal) → IsSoundRefusal a → IsSoundRefusal b → words_of a ≡ words_of b → a ≡ b
same_refusal (Unlawful i) (Unlawful j) h k e = let digits : decimal i ≡ decimal j = cc in ap Unlawful (same_count i j h k digits)
same_refusal no.Long no.Long h k e = refl
same_refusal no.Text no.Text h k e = refl
same_refusal no.Word no.Word h k e = refl
same_refusal no.Form no.Form h k e = refl
same_refusal no.Range no.Range h k e = refl
same_refusal no.Right no.Right h k e = refl
same_refusal no.Name no.Name h k e = refl
same_refusal no.Exists no.Exists h k e = refl
same_refusal no.Kind no.Kind h k e = refl
same_refusal no.Id no.Id h k e = refl
same_refusal no.Many no.Many h k e = refl
same_refusal no.Spent no.Spent h k e = refl
same_refusal no.Closed no.Closed h k e = refl
same_refusal no.Full no.Full h k e = refl
same_refusal no.Pattern no.Pattern h k e = refl
same_refusal no.Overlong no.Overlong h k e = refl
same_refusal no.Memory no.Memory h k e = refl
same_refusal a b h k e = absurd (apart (head_of_refusal a) (head_of_refusal b) refl (ap first_in e))

-- ---- a reply

same_number : (m n : ℕ) → IsSoundReply (Number m) → IsSoundReply (Number n) → behind_of (Number m) ≡ behind_of (Number n) → Number m ≡ Number n
same_number m n h k e = let digits : decimal m ≡ decimal n = cc in ap Number (same_count m n h k digits)

same_state : (s t : Status) → IsSoundReply (State s) → IsSoundReply (State t) → behind_of (State s) ≡ behind_of (State t) → State s ≡ State t
same_state s t h k e =
    let digits : decimal s.number ≡ decimal t.number = cc in
    let more : decimal (code_of s.flags) ≡ decimal (code_of t.flags) = cc in
    let words : openness s.closed ≡ openness t.closed = cc in
    let flags = same_flags s.flags t.flags (same_count (code_of s.flags) (code_of t.flags) (small_code s.flags) (small_code t.flags) more) in
    ap State (same_status s t (same_count s.number t.number h k digits) flags (same_openness s.closed t.closed words))

pub same_reply : (a b : Reply) → IsSoundReply a → IsSoundReply b → head_of a ≡ head_of b → behind_of a ≡ behind_of b → a ≡ b
same_reply Done Done h k w e = refl
same_reply Done (Number n) h k w e = cc
same_reply Done (State t) h k w e = cc
same_reply Done (About b) h k w e = cc
same_reply (Number m) Done h k w e = cc
same_reply (Number m) (Number n) h k w e = same_number m n h k e
same_reply (Number m) (State t) h k w e = cc
same_reply (Number m) (About b) h k w e = cc
same_reply (State s) Done h k w e = cc
same_reply (State s) (Number n) h k w e = cc
same_reply (State s) (State t) h k w e = same_state s t h k e
same_reply (State s) (About b) h k w e = cc
same_reply (About a) Done h k w e = cc
same_reply (About a) (Number n) h k w e = cc
same_reply (About a) (State t) h k w e = cc
same_reply (About a) (About b) h k w e = ap About (same_about a b h k e)
same_reply (Got a) (Got b) h k w e = let same : a ≡ b = cc in ap Got same
same_reply (Hit a) (Hit b) h k w e = let same : a ≡ b = cc in ap Hit same
same_reply Nothing Nothing h k w e = refl
same_reply End End h k w e = refl
same_reply Evicted Evicted h k w e = refl
same_reply (Yes a) (Yes b) h k w e = ap Yes (same_counts a b h.each k.each e)
same_reply Never Never h k w e = refl
same_reply Late Late h k w e = refl
same_reply (Listed a) (Listed b) h k w e = ap Listed e
same_reply (No a) (No b) h k w e = ap No (same_refusal a b h k e)
same_reply a b h k w e = absurd (apart (head_of a) (head_of b) refl w)

-- two replies with one text are one
pub same_text : (a b : Reply) → IsSoundReply a → IsSoundReply b → text_of a ≡ text_of b → a ≡ b
same_text a b h k e =
    let lines : line_of a ≡ line_of b = append_cancel_right (line_of a) (line_of b) (10 ∷ []) e in
    let pieces : head_of a ∷ behind_of a ≡ head_of b ∷ behind_of b = sym (pieces-line a h) ∙ ap fields_of lines ∙ pieces-line b k in
    let heads : head_of a ≡ head_of b = cc in
    let behinds : behind_of a ≡ behind_of b = cc in
    same_reply a b h k heads behinds
