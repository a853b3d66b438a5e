-- How many fifodirs a session makes.
use Rattle.std.proofs.Common.{◌≡◌, ℕ, ◌+◌, zero, suc, List, [], ◌∷◌, ◌++◌, refl, ap, ◌∙◌, inl, inr, arith}
use Rattle.hub_requests.specs.declared.request.Request.{Request}
use Rattle.hub_requests.specs.declared.request.Request.TheVariants.{Dir, Svc, Sub, Pub, Tell, Will, Take, Cancel, Close, Status, About, Listen, Poll, Await, Next, Wait, Names}
use Rattle.hub_requests.specs.declared.reply.Reply.{Reply}
use Rattle.hub_requests.specs.declared.reply.Reply.TheVariants as said
use Rattle.hub_requests.specs.declared.reply.Reply.TheVariants.{Done, No}
use Rattle.hub_rights.specs.Asked.{Asking, Asked, Run}
use Rattle.hub_rights.proofs.Looks.{run_on}
use Rattle.hub_rights.specs.Limits.{refusal_of_more, IsOverTheShare, left_after, Makes, StaysWithin, one_if_done, made_by, made, MakesItsShare}

refused_more : (about : Reply) → one_if_done (refusal_of_more about) ≡ 0
refused_more (said.About about) = refl
refused_more (No refusal) = refl
refused_more Done = refl
refused_more (said.Number n) = refl
refused_more (said.State s) = refl
refused_more (said.Got letters) = refl
refused_more (said.Hit letters) = refl
refused_more said.Nothing = refl
refused_more said.End = refl
refused_more said.Evicted = refl
refused_more (said.Yes numbers) = refl
refused_more said.Never = refl
refused_more said.Late = refl
refused_more (said.Listed names) = refl

module _ {D : Type 0} (asks : Asking D) where
  none_over : (old new : D) (name : List ℕ) (reply : Reply) → IsOverTheShare asks old name reply new → one_if_done reply ≡ 0
  none_over old new name reply (inl (about, h, e)) = ap one_if_done e ∙ refused_more about
  none_over old new name reply (inr (e, same)) = ap one_if_done e

  one_less : (n : ℕ) (reply : Reply) → one_if_done reply + left_after (suc n) reply ≡ suc n
  one_less n Done = omega arith
  one_less n (said.About about) = omega arith
  one_less n (No refusal) = omega arith
  one_less n (said.Number m) = omega arith
  one_less n (said.State s) = omega arith
  one_less n (said.Got letters) = omega arith
  one_less n (said.Hit letters) = omega arith
  one_less n said.Nothing = omega arith
  one_less n said.End = omega arith
  one_less n said.Evicted = omega arith
  one_less n (said.Yes numbers) = omega arith
  one_less n said.Never = omega arith
  one_less n said.Late = omega arith
  one_less n (said.Listed names) = omega arith

  counts : (may left : ℕ) (old new : D) (name : List ℕ) (request : Request) (reply : Reply) → Makes asks may old name request reply left new → one_if_done reply + left ≡ may
  counts zero left old new name request reply h = let none = none_over old new name reply h.0 in let is : left ≡ 0 = h.1 in omega arith
  counts (suc n) left old new name request reply h = ap (λ k. one_if_done reply + k) h.1 ∙ one_less n reply

  counted : (may left : ℕ) (old new : D) (request : Request) (reply : Reply) → StaysWithin asks may old request reply left new → made_by request reply + left ≡ may
  counted may left old new (Dir name waiting total evict) reply h = counts may left old new name (Dir name waiting total evict) reply h
  counted may left old new (Svc name waiting total notifies evict) reply h = counts may left old new name (Svc name waiting total notifies evict) reply h
  counted may left old new (Sub name) reply h = let is : left ≡ may = h.1 in omega arith
  counted may left old new (Pub name letters) reply h = let is : left ≡ may = h.1 in omega arith
  counted may left old new (Tell name state) reply h = let is : left ≡ may = h.1 in omega arith
  counted may left old new (Will name will) reply h = let is : left ≡ may = h.1 in omega arith
  counted may left old new (Take id max) reply h = let is : left ≡ may = h.1 in omega arith
  counted may left old new (Cancel id) reply h = let is : left ≡ may = h.1 in omega arith
  counted may left old new (Close name) reply h = let is : left ≡ may = h.1 in omega arith
  counted may left old new (Status name) reply h = let is : left ≡ may = h.1 in omega arith
  counted may left old new (About name) reply h = let is : left ≡ may = h.1 in omega arith
  counted may left old new (Listen name mode pattern) reply h = let is : left ≡ may = h.1 in omega arith
  counted may left old new (Poll id) reply h = let is : left ≡ may = h.1 in omega arith
  counted may left old new (Await id turns) reply h = let is : left ≡ may = h.1 in omega arith
  counted may left old new (Next id turns) reply h = let is : left ≡ may = h.1 in omega arith
  counted may left old new (Wait span want turns names) reply h = let is : left ≡ may = h.1 in omega arith
  counted may left old new (Names from) reply h = let is : left ≡ may = h.1 in omega arith

  -- what the desk below was asked for one request, by which it made as many fifodirs as the session was told
  abbrev Below : ℕ → D → Request → Reply → ℕ → D → Type 0
  Below may old request reply left new = (below : List Asked) × Run asks old below new × (made below + left ≡ may) × (made_by request reply ≡ made below)

  asked_it : (may left : ℕ) (old new : D) (request : Request) (reply : Reply) → asks old request reply new → made_by request reply + left ≡ may → Below may old request reply left new
  asked_it may left old new request reply h e = (record { request = request; reply = reply } ∷ [], (new, h, refl), omega arith, omega arith)

  asked_over : (left : ℕ) (old new : D) (name : List ℕ) (request : Request) (reply : Reply) → made_by request reply ≡ 0 → left ≡ 0
      → IsOverTheShare asks old name reply new → Below 0 old request reply left new
  asked_over left old new name request reply none is (inl (about, h, e)) = (record { request = About name; reply = about } ∷ [], (new, h, refl), omega arith, omega arith)
  asked_over left old new name request reply none is (inr (e, same)) = ([], same, omega arith, none)

  asked_to_make : (may left : ℕ) (old new : D) (name : List ℕ) (request : Request) (reply : Reply) → made_by request reply ≡ one_if_done reply
      → Makes asks may old name request reply left new → Below may old request reply left new
  asked_to_make zero left old new name request reply counted h = asked_over left old new name request reply (counted ∙ none_over old new name reply h.0) h.1 h.0
  asked_to_make (suc n) left old new name request reply counted h =
      let told = counts (suc n) left old new name request reply h in asked_it (suc n) left old new request reply h.0 (omega arith)

  asked_below : (may left : ℕ) (old new : D) (request : Request) (reply : Reply) → StaysWithin asks may old request reply left new → Below may old request reply left new
  asked_below may left old new (Dir name waiting total evict) reply h = asked_to_make may left old new name (Dir name waiting total evict) reply refl h
  asked_below may left old new (Svc name waiting total notifies evict) reply h = asked_to_make may left old new name (Svc name waiting total notifies evict) reply refl h
  asked_below may left old new (Sub name) reply h = asked_it may left old new (Sub name) reply h.0 (counted may left old new (Sub name) reply h)
  asked_below may left old new (Pub name letters) reply h = asked_it may left old new (Pub name letters) reply h.0 (counted may left old new (Pub name letters) reply h)
  asked_below may left old new (Tell name state) reply h = asked_it may left old new (Tell name state) reply h.0 (counted may left old new (Tell name state) reply h)
  asked_below may left old new (Will name will) reply h = asked_it may left old new (Will name will) reply h.0 (counted may left old new (Will name will) reply h)
  asked_below may left old new (Take id max) reply h = asked_it may left old new (Take id max) reply h.0 (counted may left old new (Take id max) reply h)
  asked_below may left old new (Cancel id) reply h = asked_it may left old new (Cancel id) reply h.0 (counted may left old new (Cancel id) reply h)
  asked_below may left old new (Close name) reply h = asked_it may left old new (Close name) reply h.0 (counted may left old new (Close name) reply h)
  asked_below may left old new (Status name) reply h = asked_it may left old new (Status name) reply h.0 (counted may left old new (Status name) reply h)
  asked_below may left old new (About name) reply h = asked_it may left old new (About name) reply h.0 (counted may left old new (About name) reply h)
  asked_below may left old new (Listen name mode pattern) reply h = asked_it may left old new (Listen name mode pattern) reply h.0 (counted may left old new (Listen name mode pattern) reply h)
  asked_below may left old new (Poll id) reply h = asked_it may left old new (Poll id) reply h.0 (counted may left old new (Poll id) reply h)
  asked_below may left old new (Await id turns) reply h = asked_it may left old new (Await id turns) reply h.0 (counted may left old new (Await id turns) reply h)
  asked_below may left old new (Next id turns) reply h = asked_it may left old new (Next id turns) reply h.0 (counted may left old new (Next id turns) reply h)
  asked_below may left old new (Wait span want turns names) reply h = asked_it may left old new (Wait span want turns names) reply h.0 (counted may left old new (Wait span want turns names) reply h)
  asked_below may left old new (Names from) reply h = asked_it may left old new (Names from) reply h.0 (counted may left old new (Names from) reply h)

made_on : (xs ys : List Asked) → made (xs ++ ys) ≡ made xs + made ys
made_on [] ys = omega arith
made_on (x ∷ xs) ys = let k = made_on xs ys in omega arith

pub makes_its_share : {D : Type 0} (asks : Asking D) → MakesItsShare asks
makes_its_share asks may left old new [] h = ([], h.1, (let is : left ≡ may = h.0 in omega arith), refl)
makes_its_share asks may left old new (one ∷ rest) (between, mid, h, k) =
    let first = asked_below asks may between old mid one.request one.reply h in
    let later = makes_its_share asks between left mid new rest k in
    let whole = made_on first.0 later.0 in
    let leaves = first.2 in let told = first.3 in let leaves_later = later.2 in let told_later = later.3 in
    (first.0 ++ later.0, run_on asks old mid new first.0 later.0 first.1 later.1, omega arith, omega arith)
