-- The request that takes or polls as soon as something comes.
use Rattle.std.proofs.Common.{◌≡◌, ◌≢◌, ℕ, Bool, true, false, List, Option, Some, None, is_some, nat_eq, refl, sym, ap, subst, ◌∙◌, inl, inr, true≢false}
use Rattle.std.specs.Prelude.{if◌then◌else◌}
use Rattle.std.specs.Map.{lookup}
use Rattle.hub_letters.specs.declared.mode.TheConstants.{MOST_GATHERED}
use Rattle.hub_local.specs.DeskAnswers.{answer_by, for_holding, in_time, is_none, poll_told, polled_again, polled_at, refusal_by_hearing, refusal_to_hear, refusal_to_next, refusal_to_poll, refusal_to_take, taken_at, told_next}
use Rattle.hub_local.specs.Desks.{Desk, Answer, holding_at, is_listeners}
use Rattle.hub_local.specs.Representing.{Local, RepresentsDesk, CarriesOut, AsksWith, PollsOn}
use Rattle.hub_local.specs.declared.local_desk.Holding.{Holding}
use Rattle.hub_local.specs.declared.local_desk.LocalListener.{LocalListener}
use Rattle.hub_requests.specs.Lateness.{or_late}
use Rattle.hub_requests.specs.declared.request.Request.TheVariants.{Next, Poll, Take}
use Rattle.hub_requests.specs.declared.reply.Reply.{Reply}
use Rattle.hub_requests.specs.declared.reply.Reply.TheVariants as answer
use Rattle.hub_requests.specs.declared.reply.Refusal.{Refusal}
use Rattle.hub_requests.specs.declared.reply.Refusal.TheVariants as no

-- ---- `late` in place of `none`

lacks_itself : (reply : Reply) → or_late reply ≡ answer.No no.Memory → reply ≡ answer.No no.Memory
lacks_itself answer.Done e = e
lacks_itself (answer.Number n) e = e
lacks_itself (answer.State status) e = e
lacks_itself (answer.About about) e = e
lacks_itself (answer.Got letters) e = e
lacks_itself (answer.Hit letters) e = e
lacks_itself answer.Nothing e = absurd (let k : ⊥ = cc in k)
lacks_itself answer.End e = e
lacks_itself answer.Evicted e = e
lacks_itself (answer.Yes numbers) e = e
lacks_itself answer.Never e = e
lacks_itself answer.Late e = e
lacks_itself (answer.Listed names) e = e
lacks_itself (answer.No refusal) e = e

isnt_none : (reply : Reply) → reply ≢ answer.Nothing → is_none reply ≡ false
isnt_none answer.Done real = refl
isnt_none (answer.Number n) real = refl
isnt_none (answer.State status) real = refl
isnt_none (answer.About about) real = refl
isnt_none (answer.Got letters) real = refl
isnt_none (answer.Hit letters) real = refl
isnt_none answer.Nothing real = absurd (real refl)
isnt_none answer.End real = refl
isnt_none answer.Evicted real = refl
isnt_none (answer.Yes numbers) real = refl
isnt_none answer.Never real = refl
isnt_none answer.Late real = refl
isnt_none (answer.Listed names) real = refl
isnt_none (answer.No refusal) real = refl

-- another request is answered so, but for what is late
in_place : (old new : Local) (own own' : Desk → Option Refusal) (done done' : Desk → Answer) (left left' : Desk → Desk → Type 0) (reply : Reply)
    → ((d : Desk) → RepresentsDesk old d → answer_by d (own' d) (done' d) ≡ in_time (answer_by d (own d) (done d)))
    → ((d : Desk) → RepresentsDesk old d → own d ≡ None → own' d ≡ None) → ((d x : Desk) → left d x → left' d x)
    → CarriesOut old true own done left reply new → CarriesOut old true own' done' left' (or_late reply) new
in_place old new own own' done done' left left' reply same free more a = record {
  answered = λ real d st. (let k = a.answered (λ e. real (ap or_late e)) d st in record {
    said = ap or_late k.said ∙ sym (ap (λ (x : Answer). x.reply) (same d st));
    represents = subst (λ (x : Answer). RepresentsDesk new x.desk) (sym (same d st)) k.represents;
  });
  grew = λ e. refl;
  lacking = λ e d st. (let k = a.lacking (lacks_itself reply e) d st in record {
    unrefused = free d st k.unrefused;
    desk = k.desk;
    is_left = more d k.desk k.is_left;
    represents = k.represents;
  });
}

timed : (d : Desk) (o : Option Refusal) (x : Answer) → answer_by d o (in_time x) ≡ in_time (answer_by d o x)
timed d None x = refl
timed d (Some refusal) x = refl

-- ---- of a subscription

take_by : (d : Desk) (n : ℕ) (x : Option LocalListener) → is_some x ≡ false
    → answer_by d (refusal_by_hearing x) (in_time (told_next d n x)) ≡ in_time (answer_by d (if is_some x then Some no.Id else None) (taken_at d n MOST_GATHERED))
take_by d n None plain = refl
take_by d n (Some g) plain = absurd (true≢false plain)

take_at : (d : Desk) (n : ℕ) (o : Option Holding) → is_listeners o ≡ false
    → answer_by d (refusal_to_next o) (for_holding d (λ h. in_time (told_next d n h.hearing)) o) ≡ in_time (answer_by d (refusal_to_take o) (taken_at d n MOST_GATHERED))
take_at d n None plain = refl
take_at d n (Some h) plain = take_by d n h.hearing plain

take_free_by : (x : Option LocalListener) → is_some x ≡ false → refusal_by_hearing x ≡ None
take_free_by None plain = refl
take_free_by (Some g) plain = absurd (true≢false plain)

take_free : (o : Option Holding) → is_listeners o ≡ false → refusal_to_take o ≡ None → refusal_to_next o ≡ None
take_free None plain free = absurd (let k : ⊥ = cc in k)
take_free (Some h) plain free = take_free_by h.hearing plain

-- ---- of a listener

poll_by : (d : Desk) (n : ℕ) (x : Option LocalListener) → is_some x ≡ true
    → answer_by d (refusal_by_hearing x) (in_time (told_next d n x)) ≡ in_time (answer_by d (refusal_to_hear x) (polled_again n (poll_told d n)))
poll_by d n None hears = absurd (true≢false (sym hears))
poll_by d n (Some g) hears = timed d (refusal_to_hear (Some g)) (polled_again n (poll_told d n))

poll_at : (d : Desk) (n : ℕ) (o : Option Holding) → is_listeners o ≡ true
    → answer_by d (refusal_to_next o) (for_holding d (λ h. in_time (told_next d n h.hearing)) o) ≡ in_time (answer_by d (refusal_to_poll o) (polled_again n (poll_told d n)))
poll_at d n None hears = absurd (true≢false (sym hears))
poll_at d n (Some h) hears = poll_by d n h.hearing hears

poll_free_by : (x : Option LocalListener) → is_some x ≡ true → refusal_to_hear x ≡ None → refusal_by_hearing x ≡ None
poll_free_by None hears free = absurd (true≢false (sym hears))
poll_free_by (Some g) hears free = free

poll_free : (o : Option Holding) → is_listeners o ≡ true → refusal_to_poll o ≡ None → refusal_to_next o ≡ None
poll_free None hears free = absurd (true≢false (sym hears))
poll_free (Some h) hears free = poll_free_by h.hearing hears free

refused_once : (d : Desk) (o : Option Refusal) (x : Answer) → answer_by d o (answer_by d o x) ≡ answer_by d o x
refused_once d None x = refl
refused_once d (Some refusal) x = refl

unrefused : (d : Desk) (o : Option Refusal) (x : Answer) → is_none (answer_by d o x).reply ≡ true → o ≡ None
unrefused d None x none = refl
unrefused d (Some refusal) x none = absurd (true≢false (sym none))

-- the first poll's answer is the last
once : (d : Desk) (n : ℕ) → is_none (poll_told d n).reply ≡ false → answer_by d (refusal_to_poll (holding_at d n)) (polled_again n (poll_told d n)) ≡ poll_told d n
once d n some =
    let first : polled_again n (poll_told d n) ≡ poll_told d n = ap (λ (b : Bool). if b then poll_told (poll_told d n).desk n else poll_told d n) some in
    ap (answer_by d (refusal_to_poll (holding_at d n))) first ∙ refused_once d (refusal_to_poll (holding_at d n)) (polled_at d n)

-- the second poll's is
twice : (d : Desk) (n : ℕ) → is_none (poll_told d n).reply ≡ true → answer_by d (refusal_to_poll (holding_at d n)) (polled_again n (poll_told d n)) ≡ poll_told (poll_told d n).desk n
twice d n none =
    let free = unrefused d (refusal_to_poll (holding_at d n)) (polled_at d n) none in
    ap (λ (o : Option Refusal). answer_by d o (polled_again n (poll_told d n))) free
    ∙ ap (λ (b : Bool). if b then poll_told (poll_told d n).desk n else poll_told d n) none

pub polls_once : (old new : Local) (n : ℕ) (reply : Reply) → reply ≢ answer.Nothing → AsksWith false old (Poll n) reply new → PollsOn old n reply new
polls_once old new n reply some a = record {
  answered = λ real d st. (
      let k = a.answered real d st in
      let said : reply ≡ (poll_told d n).reply = k.said in
      let is = once d n (isnt_none (poll_told d n).reply (λ e. some (said ∙ e))) in record {
        said = said ∙ sym (ap (λ (x : Answer). x.reply) is);
        represents = subst (λ (x : Answer). RepresentsDesk new x.desk) (sym is) k.represents;
      });
  grew = λ e. refl;
  lacking = λ e d st. (let k = a.lacking e d st in record { unrefused = k.unrefused; desk = k.desk; is_left = inl k.is_left; represents = k.represents });
}

pub polls_twice : (old mid new : Local) (n : ℕ) (reply : Reply) → AsksWith false old (Poll n) answer.Nothing mid → AsksWith false mid (Poll n) reply new → PollsOn old n reply new
polls_twice old mid new n reply a b = record {
  answered = λ real d st. (
      let first = a.answered (λ (e : answer.Nothing ≡ answer.No no.Memory). cc) d st in
      let none : is_none (poll_told d n).reply ≡ true = sym (ap is_none first.said) in
      let is = twice d n none in
      let k = b.answered real (poll_told d n).desk first.represents in record {
        said = k.said ∙ sym (ap (λ (x : Answer). x.reply) is);
        represents = subst (λ (x : Answer). RepresentsDesk new x.desk) (sym is) k.represents;
      });
  grew = λ e. refl;
  lacking = λ e d st. (
      let first = a.answered (λ (e : answer.Nothing ≡ answer.No no.Memory). cc) d st in
      let none : is_none (poll_told d n).reply ≡ true = sym (ap is_none first.said) in
      let k = b.lacking e (poll_told d n).desk first.represents in record {
        unrefused = unrefused d (refusal_to_poll (holding_at d n)) (polled_at d n) none;
        desk = k.desk;
        is_left = inr (none, k.is_left);
        represents = k.represents;
      });
}

-- ---- of either

here : (old : Local) (n : ℕ) (b : Bool) → is_listeners (lookup (nat_eq n) old.holdings) ≡ b → (d : Desk) → RepresentsDesk old d → is_listeners (holding_at d n) ≡ b
here old n b is d st = sym (ap (λ (es : List (ℕ × Holding)). is_listeners (lookup (nat_eq n) es)) st.holdings) ∙ is

pub next_taken : (old new : Local) (n turns : ℕ) (reply : Reply) → is_listeners (lookup (nat_eq n) old.holdings) ≡ false → AsksWith false old (Take n MOST_GATHERED) reply new → AsksWith false old (Next n turns) (or_late reply) new
next_taken old new n turns reply plain a =
    in_place old new _ _ _ _ _ _ reply (λ d st. take_at d n (holding_at d n) (here old n false plain d st)) (λ d st. take_free (holding_at d n) (here old n false plain d st)) (λ d x left. inl (inl left)) a

pub next_polled : (old new : Local) (n turns : ℕ) (reply : Reply) → is_listeners (lookup (nat_eq n) old.holdings) ≡ true → PollsOn old n reply new → AsksWith false old (Next n turns) (or_late reply) new
next_polled old new n turns reply hears a =
    in_place old new _ _ _ _ _ _ reply (λ d st. poll_at d n (holding_at d n) (here old n true hears d st)) (λ d st. poll_free (holding_at d n) (here old n true hears d st)) (λ d x left. left) a
