-- What each step requires, in the form that the functions on seats have to show.
use Rattle.std.proofs.Common.{◌≡◌, ℕ, List, [], ◌∷◌, Option, Some, None, sym, refl, ap, ◌∙◌, subst}
use mathlib.Core.Option as maybe
use mathlib.Core.Path.{Path}
use Rattle.atomic_table.specs.Table.{step, Allows, Enters, Splits, Joins, rest}
use Rattle.hub_fifodir.specs.declared.views.Rules.{Rules}
use Rattle.hub_fifodir.specs.declared.views.View.{View}
use Rattle.hub_fifodir.specs.declared.locked.Locked.{Locked}
use Rattle.hub_fifodir.specs.Rule.{RuleHolds, book_of, IsBehind, IsSound, IsLive, visitor, spent_view}
use Rattle.hub_fifodir.specs.Steps.{M, IsIdle, Gives, Holding, Locks, Takes, look_step, lock_step, enter_step, writing_of, WritesMessage, WritesMark, note_of, with_note}
use Rattle.hub_fifodir.proofs.Looks.{looks, enters}
use Rattle.hub_fifodir.proofs.Locking.{locks}
use Rattle.hub_fifodir.proofs.Stores.{publishes, closes}
use Rattle.hub_fifodir.proofs.Unlocks.{unlocks}
use Rattle.hub_fifodir.proofs.Notes.{splits, joins}
use Rattle.hub_fifodir.proofs.Pending.{pending_behind}

pub asks_lock : (rules : Rules) (slots id : ℕ) (old me : M) → me ≡ old → IsIdle old → Allows (RuleHolds rules) slots id me 1 (λ _. 1) (lock_step (step slots 1 1 0 maybe.none) me)
asks_lock rules slots id old me same idle = subst (λ (m : M). Allows (RuleHolds rules) slots id m 1 (λ _. 1) (lock_step (step slots 1 1 0 maybe.none) m)) (sym same) (locks book_of IsBehind IsSound rules slots id old idle.live idle.held idle.out)

pub asks_look : (rules : Rules) (slots id : ℕ) (me : M) → IsLive me.0.role → me.0.held ≡ None → Allows (RuleHolds rules) slots id me 0 (λ n. n) (look_step (step slots 0 0 0 maybe.none) me)
asks_look rules slots id me live idle = looks book_of IsBehind IsSound rules slots id me live idle

pub asks_enter : (rules : Rules) (slots : ℕ) → Enters (RuleHolds rules) slots 0 (λ n w. enter_step (step slots 0 0 0 maybe.none) (visitor rules [] 0, []) n (w, []))
asks_enter rules slots = enters book_of IsBehind IsSound rules slots (visitor rules [] 0, []) refl

pub asks_unlock : (rules : Rules) (slots id : ℕ) (old me : M) (b : Locked) (w : View) → me ≡ (old.0, (0, Some b) ∷ []) → Gives old b w → Allows (RuleHolds rules) slots id me 1 (λ _. 0) (λ _ m. (m.0 ≡ w) × (m.1 ≡ []))
asks_unlock rules slots id old me b w same g = subst (λ (m : M). Allows (RuleHolds rules) slots id m 1 (λ _. 0) (λ _ m. (m.0 ≡ w) × (m.1 ≡ []))) (sym same)
    (λ s h wide at small. let t = unlocks book_of IsBehind IsSound rules slots id (old.0, (0, Some b) ∷ []) g.0 b g.1 g.2 g.3 g.4 refl g.6 g.7 (pending_behind old.0.rules old.0.sight.seen old.0.sight.closed b g.6) s h wide at small in (t.0, t.1, t.2, t.3, (t.4.0 ∙ sym g.5, t.4.1)))

pub asks_message : (rules : Rules) (slots id : ℕ) (me : M) (new : ℕ) (message : List ℕ) (w : View) → WritesMessage me new message w → Allows (RuleHolds rules) slots id me 0 (λ _. new) (λ _ m. (m.0 ≡ w) × (m.1 ≡ me.1))
asks_message rules slots id me new message w g s h wide at small =
    let t = publishes book_of IsBehind IsSound rules slots id me (writing_of me.0.role) message g.0 new g.3 g.1 g.2 g.4 g.5 g.7 s h wide at small in (t.0, t.1, t.2, t.3, (t.4.0 ∙ sym g.6, t.4.1))

pub asks_mark : (rules : Rules) (slots id : ℕ) (me : M) (new : ℕ) (w : View) → WritesMark me new w → Allows (RuleHolds rules) slots id me 0 (λ _. new) (λ _ m. (m.0 ≡ w) × (m.1 ≡ me.1))
asks_mark rules slots id me new w g s h wide at small =
    let t = closes book_of IsBehind IsSound rules slots id me (writing_of me.0.role) g.0 new g.3 g.1 g.2 g.4 s h wide at small in (t.0, t.1, t.2, t.3, (t.4.0 ∙ sym g.5, t.4.1))

pub asks_split : (rules : Rules) (id : ℕ) (m : M) → IsIdle m → Splits (RuleHolds rules) id m.0 m.0 (note_of m.0)
asks_split rules id m idle = splits book_of IsBehind IsSound rules id m.0 idle.live

pub asks_join : (rules : Rules) (id : ℕ) (m : M) (other : ℕ) (n v : View) → IsIdle m → n ≡ note_of v → Joins (RuleHolds rules) id m.0 other n (with_note m.0 n) spent_view
asks_join rules id m other n v h is = joins book_of IsBehind IsSound rules id m.0 other n h.live h.held h.met (ap (λ (x : View). x.role) is) (ap (λ (x : View). x.held) is) (ap (λ (x : View). x.met) is)

-- ---- the locked value, moved out of the slot

abbrev first_held : List (ℕ × Option Locked) → Option Locked
first_held [] = None
first_held (x ∷ xs) = x.1

some_same : (x y : Locked) → Path (Option Locked) (Some x) (Some y) → x ≡ y
some_same x y e = cc

-- the slot has the value that the step found
pub found_it : (old mid : M) (found : Option Locked) (t : Takes book_of IsBehind IsSound old mid) → mid.1 ≡ (0, found) ∷ rest mid.1 → found ≡ Some t.0
found_it old mid found t at = sym (ap first_held at) ∙ ap first_held t.1

-- the value is moved out
pub taken_out : (old mid new : M) (found : Option Locked) (b : Locked) → Takes book_of IsBehind IsSound old mid → mid.1 ≡ (0, found) ∷ rest mid.1 → new ≡ (mid.0, (0, None) ∷ rest mid.1) → found ≡ Some b → Holding old b new
taken_out old mid new found b t at now is =
    let same : t.0 ≡ b = some_same t.0 b (sym (found_it old mid found t at) ∙ is) in
    let tail : rest mid.1 ≡ [] = ap rest t.1 in
    subst (λ (m : M). Holding old b m) (sym (now ∙ ap (λ (l : List (ℕ × Option Locked)). (mid.0, (0, None) ∷ l)) tail))
    (refl, subst (λ (x : Locked). Locks book_of IsBehind IsSound old.0 mid.0 x) same t.2)
