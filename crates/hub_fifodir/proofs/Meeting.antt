-- Two seats that have seen the same.
use Rattle.std.proofs.Common.{◌≡◌, ℕ, ◌+◌, ◌*◌, ◌<◌, ◌≤◌, not, true, false, Bool, length, Option, None, sym, refl, ap, ◌∙◌, subst, arith, ne_eqb}
use mathlib.Core.Logic.{dite}
use native.Mathlib.Decide.{ℕ_discrete}
use Rattle.hub_letters.specs.declared.flags.Flags.{Flags}
use Rattle.hub_letters.specs.Flags.{digit, code_of, flags_of}
use Rattle.hub_record.specs.World.{letters}
use Rattle.hub_fifodir.specs.declared.views.Role.{Role}
use Rattle.hub_fifodir.specs.declared.views.Sight.{Sight}
use Rattle.hub_fifodir.specs.declared.views.View.{View}
use Rattle.hub_fifodir.specs.Events.{is_closed}
use Rattle.hub_fifodir.specs.Rule.{book_of, IsBehind, IsSound, IsNumbered, sight}
use Rattle.hub_fifodir.specs.Steps.{M, Front, Grows, GrowsIfAny, KnowsOwnClose, Renews, IsIdle, Looks, with_note}
use Rattle.hub_fifodir.specs.declared.fifodir.Fifodir.{Fifodir}
use Rattle.hub_fifodir.specs.Passes.{PassView, IsOf, HasSoundSight, Remains, OnlyLooks}
use Rattle.hub_fifodir.proofs.Logs.{starts_self, starts_through, starts_whole}

pub grows_self : (s : Sight) → Grows s s
grows_self s = (starts_self s.seen, λ _. refl)

pub grows_through : (s t u : Sight) → Grows s t → Grows t u → Grows s u
grows_through s t u p q = (starts_through u.seen t.seen s.seen q.0 p.0, λ n. let e = p.1 n in q.1 (λ z. n (sym (ap (λ (x : Sight). x.closed) e) ∙ z)) ∙ e)

-- the seat after it looked with a joined note
pub joined_look : (m m1 m' : M) (n : View) → IsIdle m → m1 ≡ (with_note m.0 n, m.1) → Renews book_of IsBehind IsSound m1.0 m'.0 None → m'.1 ≡ m1.1 → Looks m m' × Grows n.sight m'.0.sight
joined_look m m1 m' n h e r out =
    let r' = subst (λ (x : M). Renews book_of IsBehind IsSound x.0 m'.0 None) e r in (
      (
        record { is = r'.is; grows = r'.grows; met = subst (λ (o : Option Sight). GrowsIfAny o m'.0.sight) (sym h.met) tt; own = r'.own; sane = r'.sane; sound_is = r'.sound_is },
        out ∙ ap (λ (x : M). x.1) e ∙ h.out,
      ),
      r'.met,
    )

own_through : (r r' : Role) (s t u : Sight) → r' ≡ r → KnowsOwnClose r s t → KnowsOwnClose r' t u → KnowsOwnClose r s u
own_through r r' s t u same p q n is marked some_mark =
    let late : t ≡ u = q n (subst (IsNumbered n) (sym same) is) marked some_mark in
    p n is (ap (λ (x : Sight). x.closed) late ∙ marked) some_mark ∙ late

pub looks_self : (p : PassView) → OnlyLooks p p
looks_self p = record { table = refl; rules = refl; number = refl; place = refl; role = refl; own = λ n a b c. refl }

pub looks_through : (a b c : PassView) → OnlyLooks a b → OnlyLooks b c → OnlyLooks a c
looks_through a b c p q = record { table = q.table ∙ p.table; rules = q.rules ∙ p.rules; number = q.number ∙ p.number; place = q.place ∙ p.place; role = q.role ∙ p.role; own = own_through a.role b.role a.sight b.sight c.sight p.role p.own q.own }

pub looks_still : (old mid new : PassView) → OnlyLooks old mid → new ≡ mid → OnlyLooks old new
looks_still old mid new p e = subst (λ (x : PassView). OnlyLooks old x) (sym e) p

pub grows_still : (s t u : Sight) → Grows s t → u ≡ t → Grows s u
grows_still s t u p e = subst (λ (x : Sight). Grows s x) (sym e) p

pub remains_still : (f : Fifodir) (old mid new : PassView) → Remains f old mid → new ≡ mid → Remains f old new
remains_still f old mid new p e = subst (λ (x : PassView). Remains f old x) (sym e) p

pub remains : (f : Fifodir) (old new : PassView) → IsOf f old → OnlyLooks old new → Grows old.sight new.sight → HasSoundSight new → Remains f old new
remains f old new of looks seen sound = record { of = (looks.table ∙ of.0, looks.rules ∙ of.1); number = looks.number; sound = sound; seen = seen }

-- ---- the same front word, for a prefix

small_digit : (b : Bool) → digit b ≤ 1
small_digit true = omega arith
small_digit false = omega arith

pub small_code : (f : Flags) → code_of f < 16
small_code f = let a = small_digit f.up in let b = small_digit f.settled in let c = small_digit f.supervised in let d = small_digit f.failed in omega arith

same_number : (n m b b' c c' : ℕ) → b ≤ 1 → b' ≤ 1 → c < 16 → c' < 16 → n * 32 + b * 16 + c ≡ m * 32 + b' * 16 + c' → (n ≡ m) × (b ≡ b')
same_number n m b b' c c' p q r s e = (omega arith, omega arith)

open_mark : (mark : ℕ) → digit (is_closed mark) ≡ 0 → mark ≡ 0
open_mark mark e = dite (ℕ_discrete mark 0) (λ z. z) (λ n. let t : is_closed mark ≡ true = ap not (ne_eqb mark 0 n) in let one : digit (is_closed mark) ≡ 1 = ap digit t in absurd (omega arith))

pub same_sight : (s t : Sight) (f f' : ℕ) → Grows s t → Front f s → Front f' t → f ≡ f' → t ≡ s
same_sight s t f f' g e e' same =
    let words = same_number (length s.seen) (length t.seen) (digit (is_closed s.closed)) (digit (is_closed t.closed)) (code_of (flags_of (letters s.seen))) (code_of (flags_of (letters t.seen)))
    (small_digit (is_closed s.closed)) (small_digit (is_closed t.closed)) (small_code (flags_of (letters s.seen))) (small_code (flags_of (letters t.seen))) (sym e ∙ same ∙ e') in
    let seen = starts_whole s.seen t.seen g.0 words.0 in
    dite (ℕ_discrete s.closed 0)
    (λ z. let bit : digit (is_closed t.closed) ≡ 0 = sym words.1 ∙ ap (λ (m : ℕ). digit (is_closed m)) z in λ i. sight (seen i) ((open_mark t.closed bit ∙ sym z) i))
    (λ n. g.1 n)
