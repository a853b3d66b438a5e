-- Pieces that are appended to a vector, one after the other.
use Rattle.std.proofs.Common.{◌≡◌, ◌++◌, ◌+◌, ◌≤◌, ℕ, List, length, take, Result, Ok, Err, vec_len, vec_capacity, refl, ap, sym, subst, ◌∙◌, append_assoc, length-append, arith}
use Rattle.std.proofs.lemmas.List.{take-take, take_at}
use Rattle.std.specs.declared.alloc.AllocError.{AllocError}
use Rattle.std.specs.declared.alloc.Global.{Global}
use Rattle.std.specs.declared.vec.Vec.{Vec}
use Rattle.hub_protocol.specs.Writing.{Appends}

-- what came first still does after more was appended to it
still_there : (old mid new text : List ℕ) → mid ≡ old ++ text → take (length mid) new ≡ mid → take (length old) new ≡ old
still_there old mid new text appended kept =
    let within : length old ≤ length mid = omega (arith, ap length appended, length-append old text) in
    sym (take-take (length old) (length mid) new within) ∙ ap (take (length old)) (kept ∙ appended) ∙ take_at old text (length old) refl

-- the pieces so far, and the next one behind them
pub next_appended : (old so_far next more mid new : List ℕ) → mid ≡ old ++ so_far → more ≡ so_far ++ next → new ≡ mid ++ next → new ≡ old ++ more
next_appended old so_far next more mid new appended is written =
    written ∙ ap (λ l. l ++ next) appended ∙ append_assoc old so_far next ∙ ap (λ l. old ++ l) (sym is)

-- a piece that was refused ends them all
pub refused_there : (old mid new : Vec ℕ Global) (result : Result (Unit {0}) AllocError) (error : AllocError) (so_far next more whole : List ℕ) → mid.items ≡ old.items ++ so_far → vec_len mid ≡ vec_len old + length so_far
    → vec_capacity old ≤ vec_capacity mid → more ≡ so_far ++ next → length more ≤ length whole → Appends mid new (Err error) next
    → result ≡ Err error → Appends old new result whole
refused_there old mid new result error so_far next more whole appended grown capacity is part step refused =
    subst (λ (r : Result (Unit {0}) AllocError). Appends old new r whole) (sym refused) (record {
      ok = tt;
      err = still_there old.items mid.items new.items so_far appended step.err;
      room = λ fits.
          let joined : length more ≡ length so_far + length next = ap length is ∙ length-append so_far next in
          let there : vec_len mid + length next ≤ vec_capacity mid = omega (arith, fits, grown, capacity, joined, part) in
          let written = step.room there in
          absurd (cc);
      capacity = omega (arith, step.capacity, capacity);
    })

-- a piece, and then more behind it
pub then_appended : (old mid new : Vec ℕ Global) (done : Unit {0}) (result : Result (Unit {0}) AllocError) (text more : List ℕ) → Appends old mid (Ok done) text → Appends mid new result more → Appends old new result (text ++ more)
then_appended old mid new done (Ok last) text more first next = record {
  ok = next.ok ∙ ap (λ l. l ++ more) first.ok ∙ append_assoc old.items text more;
  err = tt;
  room = λ fits. refl;
  capacity = omega (arith, first.capacity, next.capacity);
}
then_appended old mid new done (Err error) text more first next = record {
  ok = tt;
  err = still_there old.items mid.items new.items text first.ok next.err;
  room = λ fits. next.room (omega (arith, fits, first.capacity, ap length first.ok, length-append old.items text, length-append text more));
  capacity = omega (arith, first.capacity, next.capacity);
}

-- a piece that was refused, and none behind it
pub refused_first : (old new : Vec ℕ Global) (result : Result (Unit {0}) AllocError) (error : AllocError) (text more : List ℕ) → Appends old new (Err error) text → result ≡ Err error → Appends old new result (text ++ more)
refused_first old new result error text more step refused =
    subst (λ (r : Result (Unit {0}) AllocError). Appends old new r (text ++ more)) (sym refused) (record {
      ok = tt;
      err = step.err;
      room = λ fits. step.room (omega (arith, fits, length-append text more));
      capacity = step.capacity;
    })
