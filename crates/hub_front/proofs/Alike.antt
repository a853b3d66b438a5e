-- Two runs over the same lines, by desks that are alike.
use Rattle.std.proofs.Common.{◌≡◌, ◌≢◌, ℕ, List, [], ◌∷◌, ◌++◌, length, flat_map, Option, None, Some, Result, Ok, Err, refl, sym, ap, ◌∙◌, subst, append-nil}
use Rattle.std.specs.Io.KnownBytes.{Appends, Consumes, IsAtEnd}
use Rattle.std.proofs.lemmas.List.Elements.{All-head, All-tail}
use Rattle.hub_requests.specs.declared.request.Request.{Request}
use Rattle.hub_requests.specs.declared.reply.Reply.{Reply}
use Rattle.hub_requests.specs.declared.reply.Reply.TheVariants.{No}
use Rattle.hub_requests.specs.declared.reply.Refusal.{Refusal}
use Rattle.hub_requests.specs.declared.reply.Refusal.TheVariants.{Memory}
use Rattle.hub_requests.specs.Texts.{text_of}
use Rattle.hub_front.specs.Serving.{Asking, AnswersLine, AnswersRead, Run, Finished}
use Rattle.hub_io.specs.Lines.{lines_of}
use Rattle.hub_front.specs.Places.{NoneIsMemory, IsFunction}
use Rattle.hub_protocol.proofs.OneReading.{one_reading}

abbrev IsGiven : Reply → Type 0
IsGiven reply = reply ≢ No Memory

-- from desks that are alike a request has one reply, and leaves desks that are alike
abbrev pub StayAlike : {D : Type 0} → Asking D → (D → D → Type 0) → Type 0
StayAlike {D} asks alike = (old old' new new' : D) (request : Request) (reply reply' : Reply) → alike old old' → reply ≢ No Memory → reply' ≢ No Memory
    → asks old request reply new → asks old' request reply' new' → (reply ≡ reply') × alike new new'

pub alike_of_function : {D : Type 0} (asks : Asking D) → IsFunction asks → StayAlike asks (λ d e. d ≡ e)
alike_of_function asks function old old' new new' request reply reply' same given given' asked asked' =
    function old' new new' request reply reply' given given' (subst (λ d. asks d request reply new) same asked) asked'

-- a line whose reply isn't `no memory` was read whole
read_whole : {D : Type 0} (asks : Asking D) (old new : D) (read : Result Request Refusal) (reply : Reply) → AnswersRead asks old read reply new → reply ≢ No Memory → read ≢ Err Memory
read_whole asks old new (Ok request) reply answered given = λ e. cc
read_whole asks old new (Err why) reply answered given = λ e. given (answered.0 ∙ (let same : why ≡ Memory = cc in ap No same))

same_answer : {D : Type 0} (asks : Asking D) (alike : D → D → Type 0) → StayAlike asks alike → (old old' new new' : D) (read : Result Request Refusal) (reply reply' : Reply)
    → alike old old' → reply ≢ No Memory → reply' ≢ No Memory → AnswersRead asks old read reply new → AnswersRead asks old' read reply' new' → (reply ≡ reply') × alike new new'
same_answer asks alike stay old old' new new' (Ok request) reply reply' a given given' answered answered' = stay old old' new new' request reply reply' a given given' answered answered'
same_answer asks alike stay old old' new new' (Err why) reply reply' a given given' answered answered' =
    (answered.0 ∙ sym answered'.0, subst (λ d. alike d new') (sym answered.1) (subst (λ d. alike old d) (sym answered'.1) a))

same_line : {D : Type 0} (asks : Asking D) (alike : D → D → Type 0) → StayAlike asks alike → (old old' new new' : D) (line : List ℕ) (reply reply' : Reply)
    → alike old old' → reply ≢ No Memory → reply' ≢ No Memory → AnswersLine asks old line reply new → AnswersLine asks old' line reply' new' → (reply ≡ reply') × alike new new'
same_line asks alike stay old old' new new' line reply reply' a given given' p q =
    let read : p.read ≡ q.read = one_reading line p.read q.read (read_whole asks old new p.read reply p.answered given) (read_whole asks old' new' q.read reply' q.answered given') p.reading q.reading in
    same_answer asks alike stay old old' new new' q.read reply reply' a given given' (subst (λ r. AnswersRead asks old r reply new) read p.answered) q.answered

-- the replies are the same, and the desks stay alike
pub same_run : {D : Type 0} (asks : Asking D) (alike : D → D → Type 0) → StayAlike asks alike → (old old' new new' : D) (lines : List (List ℕ)) (replies replies' : List Reply)
    → alike old old' → NoneIsMemory replies → NoneIsMemory replies' → Run asks old lines replies new → Run asks old' lines replies' new' → (replies ≡ replies') × alike new new'
same_run asks alike stay old old' new new' [] [] [] a none none' p q = (refl, subst (λ d. alike d new') (sym p) (subst (λ d. alike old d) (sym q) a))
same_run asks alike stay old old' new new' [] (r ∷ rs) ss a none none' p q = absurd p
same_run asks alike stay old old' new new' [] [] (s ∷ ss) a none none' p q = absurd q
same_run asks alike stay old old' new new' (l ∷ ls) [] ss a none none' p q = absurd p
same_run asks alike stay old old' new new' (l ∷ ls) (r ∷ rs) [] a none none' p q = absurd q
same_run asks alike stay old old' new new' (l ∷ ls) (r ∷ rs) (s ∷ ss) a none none' (mid, answered, p) (mid', answered', q) =
    let first = same_line asks alike stay old old' mid mid' l r s a (All-head IsGiven r rs none) (All-head IsGiven s ss none') answered answered' in
    let rest = same_run asks alike stay mid mid' new new' ls rs ss first.1 (All-tail IsGiven r rs none) (All-tail IsGiven s ss none') p q in
    (ap (λ x. x ∷ rs) first.0 ∙ ap (λ xs. s ∷ xs) rest.0, rest.1)

-- a session that reached the end of known bytes read all of them
all_read : (bytes input : List ℕ) (has : Option (List ℕ)) → Consumes (Some bytes) has input → IsAtEnd has → input ≡ bytes
all_read bytes input None consumed end = absurd consumed
all_read bytes input (Some rest) consumed end = sym (consumed ∙ ap (λ l. input ++ l) end ∙ append-nil input)

pub same_lines : {D : Type 0} {asks : Asking D} {ends : D → D → Type 0} {old new new' : D} {bytes : List ℕ} {held holds holds' has has' : Option (List ℕ)} {n n' : ℕ}
    → (one : Finished asks ends old new held holds (Some bytes) has n) → (other : Finished asks ends old new' held holds' (Some bytes) has' n') → lines_of one.input ≡ lines_of other.input
same_lines {bytes = bytes} {has = has} {has'} one other =
    ap lines_of (all_read bytes one.input has one.consumed one.whole ∙ sym (all_read bytes other.input has' other.consumed other.whole))

same_texts : (held holds holds' : List ℕ) (replies replies' : List Reply) → replies ≡ replies' → Appends (Some held) (Some holds) (flat_map text_of replies) → Appends (Some held) (Some holds') (flat_map text_of replies')
    → holds ≡ holds'
same_texts held holds holds' replies replies' e a b = a ∙ ap (λ rs. held ++ flat_map text_of rs) e ∙ sym b

pub same_output : {D : Type 0} (asks : Asking D) (ends : D → D → Type 0) (alike : D → D → Type 0) → StayAlike asks alike → (old new new' : D) (bytes held holds holds' : List ℕ) (has has' : Option (List ℕ)) (n n' : ℕ)
    → alike old old → (one : Finished asks ends old new (Some held) (Some holds) (Some bytes) has n) (other : Finished asks ends old new' (Some held) (Some holds') (Some bytes) has' n')
    → NoneIsMemory one.served.replies → NoneIsMemory other.served.replies → (holds ≡ holds') × (n ≡ n')
same_output asks ends alike stay old new new' bytes held holds holds' has has' n n' a one other none none' =
    let lines : lines_of one.input ≡ lines_of other.input = same_lines one other in
    let run : Run asks old (lines_of other.input) one.served.replies one.mid = subst (λ ls. Run asks old ls one.served.replies one.mid) lines one.served.run in
    let same = same_run asks alike stay old old one.mid other.mid (lines_of other.input) one.served.replies other.served.replies a none none' run other.served.run in (
      same_texts held holds holds' one.served.replies other.served.replies same.0 one.served.written other.served.written,
      one.counted ∙ ap length lines ∙ sym other.counted,
    )
