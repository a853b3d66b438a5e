-- Room for one more handle.
use Rattle.std.proofs.Common.{◌≡◌, ◌<◌, ℕ, nat_le, Some, None, inl, inr}
use Rattle.std.proofs.lemmas.Bool.{cases_Bool, leb-false}
use Rattle.hub_requests.specs.declared.bounds.TheConstants.{MOST_HANDLES, MOST_NUMBERS}
use Rattle.hub_requests.specs.declared.reply.Refusal.{Refusal}
use Rattle.hub_requests.specs.declared.reply.Refusal.TheVariants as no
use Rattle.hub_requests.specs.Room.{refusal_of_handle}

some_none : (refusal : Refusal) → Some refusal ≡ None → ⊥
some_none refusal e = cc

pub room_for_handle : (current given : ℕ) → refusal_of_handle current given ≡ None → (current < MOST_HANDLES) × (given < MOST_NUMBERS)
room_for_handle current given e =
    elim (cases_Bool (nat_le MOST_HANDLES current)) [
      | inl m ↦ absurd (some_none no.Many (simp m at e))
      | inr m ↦ elim (cases_Bool (nat_le MOST_NUMBERS given)) [
        | inl s ↦ absurd (some_none no.Spent (simp (m, s) at e))
        | inr s ↦ (leb-false MOST_HANDLES current m, leb-false MOST_NUMBERS given s)
      ]
    ]
