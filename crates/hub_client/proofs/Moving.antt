-- Bytes that move through a buffer.
use Rattle.std.proofs.Common.{◌≡◌, ℕ, ◌+◌, ◌-◌, ◌<◌, ◌≤◌, List, [], ◌++◌, length, take, drop, Option, sym, ap, ◌∙◌, subst, arith, append-nil, append_assoc, length-append, length-drop}
use Rattle.std.proofs.lemmas.List.{length-take-le, drop-take, drop-drop}
use Rattle.std.proofs.KnownBytes.{Consumes-nil, Consumes-trans}
use Rattle.hub_io.proofs.Told.{Grows-none, Rises-add}
use Rattle.hub_client.specs.Passing.{Moves}

-- without a read
pub stays : (has : Option (List ℕ)) (makes : Option ℕ) (p : List ℕ) (left slack : ℕ) → Moves has has makes makes p p left left slack []
stays has makes p left slack = record {
  bytes = [];
  reads = 0;
  consumed = Consumes-nil has;
  kept = append-nil p;
  spent = omega arith;
  told = Grows-none makes;
  most = omega arith;
  least = omega arith;
}

pub stays_so : (has : Option (List ℕ)) (makes : Option ℕ) (p q : List ℕ) (left slack : ℕ) → q ≡ p → Moves has has makes makes p q left left slack []
stays_so has makes p q left slack e = subst (λ l. Moves has has makes makes p l left left slack []) (sym e) (stays has makes p left slack)

-- what was read follows what is pending
pub reads_behind : {had has : Option (List ℕ)} {made makes : Option ℕ} {got : List ℕ} {left left' slack : ℕ} (before after : List ℕ) (slack' : ℕ) → Moves had has made makes [] got left left' slack [] → after ≡ before ++ got → slack ≤ slack'
    → Moves had has made makes before after left left' slack' []
reads_behind before after slack' m e le = record {
  bytes = m.bytes;
  reads = m.reads;
  consumed = m.consumed;
  kept = ap (λ l. before ++ l) m.kept ∙ sym e;
  spent = m.spent;
  told = m.told;
  most = m.most;
  least = omega (arith, m.least, le);
}

-- a read that gave no byte
pub reads_nothing : {had has : Option (List ℕ)} {made makes : Option ℕ} {left left' slack : ℕ} (before after : List ℕ) → Moves had has made makes [] [] left left' slack [] → after ≡ before → Moves had has made makes before after left left' slack []
reads_nothing before after m e = reads_behind before after _ m (e ∙ sym (append-nil before)) (omega arith)

-- what is pending moves on
pub moves_piece : {had has : Option (List ℕ)} {made makes : Option ℕ} {before mid : List ℕ} {left left' slack : ℕ} {passed : List ℕ} (piece after : List ℕ)
    → mid ≡ piece ++ after → Moves had has made makes before mid left left' slack passed → Moves had has made makes before after left left' slack (passed ++ piece)
moves_piece {passed = passed} piece after e m = record {
  bytes = m.bytes;
  reads = m.reads;
  consumed = m.consumed;
  kept = m.kept ∙ ap (λ l. passed ++ l) e ∙ sym (append_assoc passed piece after);
  spent = m.spent;
  told = m.told;
  most = m.most;
  least = m.least;
}

-- more reads, before anything more is passed on
pub moves_reads : {had mid has : Option (List ℕ)} {made much makes : Option ℕ} {before between after : List ℕ} {left some left' slack : ℕ} {passed : List ℕ}
    → Moves had mid made much before between left some 0 passed → Moves mid has much makes between after some left' slack []
    → Moves had has made makes before after left left' slack passed
moves_reads {had} {mid} {has} {made} {much} {makes} {before} {between} {after} {passed = passed} m n = record {
  bytes = m.bytes ++ n.bytes;
  reads = m.reads + n.reads;
  consumed = Consumes-trans had mid has m.bytes n.bytes m.consumed n.consumed;
  kept = sym (append_assoc before m.bytes n.bytes) ∙ ap (λ l. l ++ n.bytes) m.kept ∙ append_assoc passed between n.bytes ∙ ap (λ l. passed ++ l) n.kept;
  spent = omega (arith, m.spent, n.spent);
  told = Rises-add made much makes m.reads n.reads m.told n.told;
  most = omega (arith, m.most, n.most, length-append m.bytes n.bytes);
  least = omega (arith, m.least, n.least, length-append m.bytes n.bytes);
}

-- one more read may have given no byte
pub moves_more : {had has : Option (List ℕ)} {made makes : Option ℕ} {before after : List ℕ} {left left' : ℕ} {passed : List ℕ}
    → Moves had has made makes before after left left' 0 passed → Moves had has made makes before after left left' 1 passed
moves_more m = record { bytes = m.bytes; reads = m.reads; consumed = m.consumed; kept = m.kept; spent = m.spent; told = m.told; most = m.most; least = omega (arith, m.least) }

-- ---- what is pending between two places

pub between_some : (items : List ℕ) (start end : ℕ) → start < end → end ≤ length items → 1 ≤ length (take (end - start) (drop start items))
between_some items start end lt within =
    let room : end - start ≤ length (drop start items) = omega (arith, length-drop start items) in
    let size : length (take (end - start) (drop start items)) ≡ end - start = length-take-le (end - start) (drop start items) room in
    omega arith

pub between_none : (items : List ℕ) (start end : ℕ) → end ≤ start → take (end - start) (drop start items) ≡ []
between_none items start end le = let none : end - start ≡ 0 = omega arith in ap (λ n. take n (drop start items)) none

-- without its prefix, the rest is pending
pub between_later : (items : List ℕ) (start end more : ℕ) → start + more ≤ end
    → drop more (take (end - start) (drop start items)) ≡ take (end - (start + more)) (drop (start + more) items)
between_later items start end more le =
    let size : end - start ≡ more + (end - (start + more)) = omega arith in
    ap (λ n. drop more (take n (drop start items))) size ∙ drop-take more (end - (start + more)) (drop start items) ∙ ap (take (end - (start + more))) (drop-drop more start items)
