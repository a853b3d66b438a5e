-- What the desk below an onlooker is asked.
use Rattle.std.proofs.Common.{◌≡◌, ℕ, List, [], ◌∷◌, ◌++◌, false, Option, None, Some, refl, sym, subst, ◌∙◌, inl, inr}
use Rattle.hub_record.specs.declared.limits.Policy.{Policy}
use Rattle.hub_record.specs.declared.limits.Policy.TheVariants.{Hold, Evict}
use Rattle.hub_requests.specs.declared.request.Request.{Request}
use Rattle.hub_requests.specs.declared.request.Request.TheVariants.{Dir, Svc, Sub, Pub, Tell, Will, Take, Cancel, Close, Status, About, Listen, Poll, Await, Next, Wait, Names}
use Rattle.hub_requests.specs.declared.reply.Reply.{Reply}
use Rattle.hub_requests.specs.declared.reply.Reply.TheVariants as said
use Rattle.hub_rights.specs.Asked.{Asking, Asked, Run}
use Rattle.hub_rights.specs.Looking.{changes, subscribed_at, Says, SaidEvicts, IsLook, AreLooksAfter, AreLooks, refusal_by_policy, refusal_to_subscribe, Subscribes, OnlyLooks, LooksAlone}

-- ---- what a desk says about a fifodir

evicts_by : (p : Policy) → refusal_by_policy p ≡ None → p ≡ Evict
evicts_by Evict e = refl
evicts_by Hold e = cc

evicts : (name : List ℕ) (reply : Reply) → refusal_to_subscribe reply ≡ None → Says name Evict (record { request = About name; reply = reply })
evicts name (said.About about) e = record { about = about; request = refl; reply = refl; policy_is = evicts_by about.policy e }
evicts name (said.No refusal) e = cc
evicts name said.Done e = cc
evicts name (said.Number n) e = cc
evicts name (said.State s) e = cc
evicts name (said.Got letters) e = cc
evicts name (said.Hit letters) e = cc
evicts name said.Nothing e = cc
evicts name said.End e = cc
evicts name said.Evicted e = cc
evicts name (said.Yes numbers) e = cc
evicts name said.Never e = cc
evicts name said.Late e = cc
evicts name (said.Listed names) e = cc

-- ---- one request

asked_so : Request → Reply → Asked
asked_so request reply = record { request = request; reply = reply }

-- what the desk below was asked for one request
abbrev Below : {D : Type 0} → Asking D → D → D → Type 0
Below asks old new = (below : List Asked) × Run asks old below new × AreLooks below

-- it neither changes something nor subscribes
plain_look : (before : Option Asked) (request : Request) (reply : Reply) → changes request ≡ false → subscribed_at request ≡ None → IsLook before (record { request = request; reply = reply })
plain_look before request reply still none = record {
  changes_nothing = still;
  holds_nobody_up = λ name e. (let no : None ≡ Some name = sym none ∙ e in absurd (let k : ⊥ = cc in k));
}

module _ {D : Type 0} (asks : Asking D) where
  asked_it : (old new : D) (request : Request) (reply : Reply) → changes request ≡ false → subscribed_at request ≡ None → asks old request reply new → Below asks old new
  asked_it old new request reply still none h = (record { request = request; reply = reply } ∷ [], (new, h, refl), (plain_look None request reply still none, tt))

  asked_nothing : (old new : D) → new ≡ old → Below asks old new
  asked_nothing old new same = ([], same, tt)

  asked_first : (old new : D) (name : List ℕ) (request : Request) (reply : Reply) → changes request ≡ false → subscribed_at request ≡ Some name
      → Subscribes asks old name request reply new → Below asks old new
  asked_first old new name request reply still at (inl (refusal, inl (about, h, e), is)) =
      (record { request = About name; reply = about } ∷ [], (new, h, refl), (plain_look None (About name) about refl refl, tt))
  asked_first old new name request reply still at (inl (refusal, inr (e, same), is)) = asked_nothing old new same
  asked_first old new name request reply still at (inr (mid, (about, h, e), k)) = (
    record { request = About name; reply = about } ∷ record { request = request; reply = reply } ∷ [],
    (mid, h, (new, k, refl)),
    (
      plain_look None (About name) about refl refl,
      (record { changes_nothing = still; holds_nobody_up = λ other o. (let same : name ≡ other = (let k : Some name ≡ Some other = sym at ∙ o in cc) in subst (λ n. SaidEvicts n (Some (record { request = About name; reply = about }))) same (evicts name about e)) }, tt),
    ),
  )

  pub asked_below : (old new : D) (request : Request) (reply : Reply) → OnlyLooks asks old request reply new → Below asks old new
  asked_below old new (Dir name waiting total evict) reply h = asked_nothing old new h.1
  asked_below old new (Svc name waiting total notifies evict) reply h = asked_nothing old new h.1
  asked_below old new (Pub name letters) reply h = asked_nothing old new h.1
  asked_below old new (Tell name state) reply h = asked_nothing old new h.1
  asked_below old new (Will name will) reply h = asked_nothing old new h.1
  asked_below old new (Close name) reply h = asked_nothing old new h.1
  asked_below old new (Sub name) reply h = asked_first old new name (Sub name) reply refl refl h
  asked_below old new (Listen name mode pattern) reply h = asked_first old new name (Listen name mode pattern) reply refl refl h
  asked_below old new (Take id max) reply h = asked_it old new (Take id max) reply refl refl h
  asked_below old new (Cancel id) reply h = asked_it old new (Cancel id) reply refl refl h
  asked_below old new (Status name) reply h = asked_it old new (Status name) reply refl refl h
  asked_below old new (About name) reply h = asked_it old new (About name) reply refl refl h
  asked_below old new (Poll id) reply h = asked_it old new (Poll id) reply refl refl h
  asked_below old new (Await id turns) reply h = asked_it old new (Await id turns) reply refl refl h
  asked_below old new (Next id turns) reply h = asked_it old new (Next id turns) reply refl refl h
  asked_below old new (Wait span want turns names) reply h = asked_it old new (Wait span want turns names) reply refl refl h
  asked_below old new (Names from) reply h = asked_it old new (Names from) reply refl refl h

-- ---- requests one after another

pub run_on : {D : Type 0} (asks : Asking D) (old mid new : D) (xs ys : List Asked) → Run asks old xs mid → Run asks mid ys new → Run asks old (xs ++ ys) new
run_on asks old mid new [] ys h k = subst (λ d. Run asks d ys new) h k
run_on asks old mid new (x ∷ xs) ys (between, a, h) k = (between, a, run_on asks between mid new xs ys h k)

-- what looks by itself looks behind any other
looks_behind : (before : Option Asked) (ys : List Asked) → AreLooks ys → AreLooksAfter before ys
looks_behind before [] h = tt
looks_behind before (y ∷ ys) h = (record { changes_nothing = h.0.changes_nothing; holds_nobody_up = λ name e. absurd (h.0.holds_nobody_up name e) }, h.1)

looks_on : (before : Option Asked) (xs ys : List Asked) → AreLooksAfter before xs → AreLooks ys → AreLooksAfter before (xs ++ ys)
looks_on before [] ys h k = looks_behind before ys k
looks_on before (x ∷ xs) ys h k = (h.0, looks_on (Some x) xs ys h.1 k)

pub looks_alone : {D : Type 0} (asks : Asking D) → LooksAlone asks
looks_alone asks old new [] same = ([], same, tt)
looks_alone asks old new (one ∷ rest) (mid, h, k) =
    let first = asked_below asks old mid one.request one.reply h in
    let later = looks_alone asks mid new rest k in
    (first.0 ++ later.0, run_on asks old mid new first.0 later.0 first.1 later.1, looks_on None first.0 later.0 first.2 later.2)
