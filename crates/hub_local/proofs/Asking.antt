-- How any request is answered.
use Rattle.std.proofs.Common.{◌≡◌, ◌≢◌, ℕ, Bool, true, false, List, Option, Some, None, is_some, refl, sym, ap, subst, ◌∙◌, ◌⊎◌, inl, inr, true≢false}
use Rattle.std.specs.Map.{lookup, set_value}
use Rattle.std.specs.Str.{bytes_eq}
use Rattle.hub_record.specs.Kept.{Kept, Represents}
use Rattle.hub_record.specs.World.{World, subscription_in}
use Rattle.hub_local.specs.DeskAnswers.{answer_by, refusal_by_name}
use Rattle.hub_local.specs.Desks.{Desk, Answer, refusal_answer, world_of, with_world}
use Rattle.hub_local.specs.Representing.{Local, AreKept, RepresentsDesk, RepresentsSome, IsAnswer, IsLacking, CarriesOut, Unchanged}
use Rattle.hub_local.specs.declared.local_desk.LocalFifodir.{LocalFifodir}
use Rattle.hub_requests.specs.declared.reply.Reply.{Reply}
use Rattle.hub_requests.specs.declared.reply.Reply.TheVariants.{No}
use Rattle.hub_requests.specs.declared.reply.Refusal.{Refusal}
use Rattle.hub_requests.specs.declared.reply.Refusal.TheVariants as no
use Rattle.hub_local.proofs.KeptFifodirs.{some_kept, none_kept, kept_set, kept_still}
use Rattle.hub_local.proofs.Holdings.{held_in_changed, held_still}

-- ---- the three ways to an answer

-- what is done, spelled out
pub record IsCarried (new : Local) (desk : Desk) (own : Option Refusal) (done : Answer) (reply : Reply) : Type 0 where
  pub answer : Answer
  pub unrefused : own ≡ None
  pub done_is : done ≡ answer
  pub said : reply ≡ answer.reply
  pub represents : RepresentsDesk new answer.desk

module _ (old new : Local) (needs : Bool) (own : Desk → Option Refusal) (done : Desk → Answer) (left : Desk → Desk → Type 0) (reply : Reply) where
  pub by_carrying : reply ≢ No no.Memory → ((d : Desk) → RepresentsDesk old d → IsCarried new d (own d) (done d) reply) → CarriesOut old needs own done left reply new
  by_carrying real h = record {
    answered = λ _ d st. (let c = h d st in
        let e : answer_by d (own d) (done d) ≡ c.answer = ap (λ (o : Option Refusal). answer_by d o (done d)) c.unrefused ∙ c.done_is in record {
          said = c.said ∙ sym (ap (λ (a : Answer). a.reply) e);
          represents = subst (λ (a : Answer). RepresentsDesk new a.desk) (sym e) c.represents;
        });
    grew = λ e. absurd (real e);
    lacking = λ e. absurd (real e);
  }

  pub by_refusing : (refusal : Refusal) → reply ≡ No refusal → refusal ≢ no.Memory → ((d : Desk) → RepresentsDesk old d → own d ≡ Some refusal) → ((d : Desk) → RepresentsDesk old d → RepresentsDesk new d) → CarriesOut old needs own done left reply new
  by_refusing refusal is real h still = record {
    answered = λ _ d st. (let e : answer_by d (own d) (done d) ≡ refusal_answer d refusal = ap (λ (o : Option Refusal). answer_by d o (done d)) (h d st) in record {
      said = is ∙ sym (ap (λ (a : Answer). a.reply) e);
      represents = subst (λ (a : Answer). RepresentsDesk new a.desk) (sym e) (still d st);
    });
    grew = λ e. absurd (real (let k : refusal ≡ no.Memory = cc in k));
    lacking = λ e. absurd (real (let k : refusal ≡ no.Memory = cc in k));
  }

  pub by_lacking : reply ≡ No no.Memory → needs ≡ true → ((d : Desk) → RepresentsDesk old d → IsLacking new (own d) (left d)) → CarriesOut old needs own done left reply new
  by_lacking is grows h = record { answered = λ real. absurd (real is); grew = λ _. grows; lacking = λ _. h }

-- if nothing has changed
pub still_lacking : (new : Local) (d : Desk) (own : Option Refusal) → own ≡ None → RepresentsDesk new d → IsLacking new own (Unchanged d)
still_lacking new d own unrefused represents = record { unrefused = unrefused; desk = d; is_left = refl; represents = represents }

-- ---- a desk that has answered represents for some desk

pub is_memory : (refusal : Refusal) → (refusal ≡ no.Memory) ⊎ (refusal ≢ no.Memory)
is_memory no.Memory = inl refl
is_memory _ = inr (λ e. cc)

is_lack : (reply : Reply) → (reply ≡ No no.Memory) ⊎ (reply ≢ No no.Memory)
is_lack (No refusal) = elim (is_memory refusal) [ inl e ↦ inl (ap (λ (r : Refusal). No r) e) | inr ne ↦ inr (λ e. ne (let k : refusal ≡ no.Memory = cc in k)) ]
is_lack _ = inr (λ e. cc)

pub represents_next : (before old new : Local) (needs : Bool) (own : Desk → Option Refusal) (done : Desk → Answer) (left : Desk → Desk → Type 0) (reply : Reply) → before ≡ old
    → CarriesOut old needs own done left reply new → RepresentsSome before → RepresentsSome new
represents_next before old new needs own done left reply same a some =
    let st : RepresentsDesk old some.desk = subst (λ (z : Local). RepresentsDesk z some.desk) same some.represents in
    elim (is_lack reply) [
      | inl e ↦ (let l = a.lacking e some.desk st in record { desk = l.desk; represents = l.represents })
      | inr ne ↦ record { desk = (answer_by some.desk (own some.desk) (done some.desk)).desk; represents = (a.answered ne some.desk st).represents }
    ]

-- ---- with another expression for the desk

pub answers_from : {before old new : Local} {needs : Bool} {own : Desk → Option Refusal} {done : Desk → Answer} {left : Desk → Desk → Type 0} {reply : Reply} → before ≡ old
    → CarriesOut before needs own done left reply new → CarriesOut old needs own done left reply new
answers_from {before} {old} {new} {needs} {own} {done} {left} {reply} same a = subst (λ (z : Local). CarriesOut z needs own done left reply new) same a

pub answers_here : {before old : Local} {needs : Bool} {own : Desk → Option Refusal} {done : Desk → Answer} {left : Desk → Desk → Type 0} {reply : Reply} → before ≡ old
    → CarriesOut before needs own done left reply before → CarriesOut old needs own done left reply old
answers_here {before} {old} {needs} {own} {done} {left} {reply} same a = subst (λ (z : Local). CarriesOut z needs own done left reply z) same a

-- ---- with another refusal and another answer

pub answers_like : {old new : Local} {needs : Bool} {own own' : Desk → Option Refusal} {done done' : Desk → Answer} {left : Desk → Desk → Type 0} {reply : Reply}
    → ((d : Desk) → RepresentsDesk old d → own' d ≡ own d) → ((d : Desk) → done' d ≡ done d) → CarriesOut old needs own done left reply new → CarriesOut old needs own' done' left reply new
answers_like {old} {new} {needs} {own} {own'} {done} {done'} {left} {reply} same like a = record {
  answered = λ real d st. subst (λ (o : Option Refusal). IsAnswer new d o (done' d) reply) (sym (same d st)) (subst (λ (x : Answer). IsAnswer new d (own d) x reply) (sym (like d)) (a.answered real d st));
  grew = a.grew;
  lacking = λ is d st. subst (λ (o : Option Refusal). IsLacking new o (left d)) (sym (same d st)) (a.lacking is d st);
}

-- ---- the same fifodirs and handles

pub same_parts : (a b : Local) → a.fifodirs ≡ b.fifodirs → a.holdings ≡ b.holdings → a.given ≡ b.given → a.wills ≡ b.wills → a ≡ b
same_parts a b fifodirs holdings given wills = λ i. record { fifodirs = fifodirs i; holdings = holdings i; given = given i; wills = wills i }

pub represents_same : (old new : Local) (d : Desk) → new ≡ old → RepresentsDesk old d → RepresentsDesk new d
represents_same old new d e st = subst (λ (z : Local). RepresentsDesk z d) (sym e) st

-- ---- another record under a name

-- new is old with `kept` as the record of the fifodir r under the name
pub record Replaces (old new : Local) (name : List ℕ) (r : LocalFifodir) (kept : Kept) : Type 0 where
  pub was : lookup (bytes_eq name) old.fifodirs ≡ Some r
  pub fifodirs : new.fifodirs ≡ set_value (bytes_eq name) old.fifodirs (record { kept = kept; reports = r.reports })
  pub holdings : new.holdings ≡ old.holdings
  pub given : new.given ≡ old.given
  pub wills : new.wills ≡ old.wills

pub replaces : (before old new : Local) (name : List ℕ) (r : LocalFifodir) (kept : Kept) → before ≡ old → Some r ≡ lookup (bytes_eq name) before.fifodirs
    → new.fifodirs ≡ set_value (bytes_eq name) before.fifodirs (record { kept = kept; reports = r.reports }) → new.holdings ≡ before.holdings → new.given ≡ before.given → new.wills ≡ before.wills → Replaces old new name r kept
replaces before old new name r kept same was fifodirs holdings given wills =
    subst (λ (z : Local). Replaces z new name r kept) same (record { was = sym was; fifodirs = fifodirs; holdings = holdings; given = given; wills = wills })

module _ (old new : Local) (name : List ℕ) (r : LocalFifodir) (kept : Kept) (put : Replaces old new name r kept) (d : Desk) (st : RepresentsDesk old d) where
  -- the world under the name
  pub world_there : (w : World) × (world_of d.fifodirs name ≡ Some w) × Represents r.kept w
  world_there = some_kept name old.fifodirs d.fifodirs r st.fifodirs put.was

  pub represents_replaced : (w w' : World) → world_of d.fifodirs name ≡ Some w → Represents kept w' → ((id : ℕ) → is_some (subscription_in w id) ≡ true → is_some (subscription_in w' id) ≡ true)
      → RepresentsDesk new (record d { fifodirs = with_world d.fifodirs name w' })
  represents_replaced w w' is represents keep = record {
    fifodirs = subst (λ (es : List (List ℕ × LocalFifodir)). AreKept es (with_world d.fifodirs name w')) (sym put.fifodirs) (kept_set name old.fifodirs d.fifodirs r (record { kept = kept; reports = r.reports }) w' st.fifodirs put.was refl represents);
    holdings = put.holdings ∙ st.holdings;
    given = put.given ∙ st.given;
    wills = put.wills ∙ st.wills;
    is_desk = record { held = held_still d.fifodirs (with_world d.fifodirs name w') (λ h. held_in_changed d.fifodirs name w w' is h (λ _. keep h.id)) _ st.is_desk.held; apart = st.is_desk.apart; go_on = st.is_desk.go_on };
  }

  -- if it represents for the same world
  pub represents_still : (w : World) → world_of d.fifodirs name ≡ Some w → Represents kept w → RepresentsDesk new d
  represents_still w is represents = record {
    fifodirs = subst (λ (es : List (List ℕ × LocalFifodir)). AreKept es d.fifodirs) (sym put.fifodirs) (kept_still name old.fifodirs d.fifodirs r (record { kept = kept; reports = r.reports }) w st.fifodirs put.was is refl represents);
    holdings = put.holdings ∙ st.holdings;
    given = put.given ∙ st.given;
    wills = put.wills ∙ st.wills;
    is_desk = st.is_desk;
  }

-- ---- what isn't in a map

pub none_of : {X : Type 0} (o : Option X) → is_some o ≡ false → o ≡ None
none_of None e = refl
none_of (Some x) e = absurd (true≢false e)

-- ---- the name

pub named : (d : Desk) (name : List ℕ) (w : World) → world_of d.fifodirs name ≡ Some w → refusal_by_name d name ≡ None
named d name w is = simp is

pub unnamed : (old : Local) (d : Desk) (name : List ℕ) → RepresentsDesk old d → None ≡ lookup (bytes_eq name) old.fifodirs → refusal_by_name d name ≡ Some no.Name
unnamed old d name st none = let e = none_kept name old.fifodirs d.fifodirs st.fifodirs (sym none) in simp e

-- the refusal of a name without a fifodir
pub no_name : (before old new : Local) (needs : Bool) (name : List ℕ) (done : Desk → Answer) (left : Desk → Desk → Type 0) → before ≡ old → new ≡ before
    → None ≡ lookup (bytes_eq name) before.fifodirs → CarriesOut old needs (λ d. refusal_by_name d name) done left (No no.Name) new
no_name before old new needs name done left same still none =
    by_refusing old new needs (λ d. refusal_by_name d name) done left (No no.Name) no.Name refl (λ (e : no.Name ≡ no.Memory). cc)
    (λ d st. unnamed old d name st (none ∙ ap (λ (z : Local). lookup (bytes_eq name) z.fifodirs) same))
    (λ d st. represents_same old new d (still ∙ same) st)
