-- Bytes that come after what is pending, until there is an LF.
use Rattle.std.proofs.Common.{◌≡◌, ℕ, ◌+◌, ◌-◌, ◌<◌, ◌≤◌, Bool, true, false, List, [], ◌∷◌, ◌++◌, length, take, drop, Vec, Option, refl, sym, ap, ◌∙◌, subst, arith, append-nil, length-take, length-drop}
use Rattle.std.proofs.lemmas.List.{append_cancel_left, take_at, drop_at, take-append-le, drop-append-le, drop-take, length-take-le, with_items_is}
use Rattle.std.specs.Vec.{with_items}
use Rattle.std.specs.Io.KnownBytes.{IsAtEnd}
use Rattle.hub_io.specs.declared.reading.TheConstants.{CHUNK}
use borrow.Rule.Slice.PartMut.{post_of}
use lib.Seq.{take-add}
use Rattle.hub_client.specs.declared.buffer.Came.{Came}
use Rattle.hub_client.specs.declared.buffer.Came.TheVariants.{Lf, Bytes, End}
use Rattle.hub_io.specs.Lines.{has_lf}
use Rattle.hub_io.proofs.Lines.{has_lf-append}
use Rattle.hub_client.specs.Passing.{Moves, ComesAs, EndsWhen, IsShort, slack_when}
use Rattle.hub_client.proofs.Moving.{reads_behind, between_none}
use Rattle.hub_client.proofs.Pieces.{between}

lf_some : (bs : List ℕ) → has_lf bs ≡ true → 1 ≤ length bs
lf_some [] e = cc
lf_some (b ∷ bs) e = omega arith

-- ---- the buffer after a read into its part after end

-- what is written after end follows what is pending
behind : (xs got : List ℕ) (start end k n : ℕ) → start ≤ end → end ≤ length xs → n ≤ length got
    → between (take end xs ++ (got ++ post_of end k xs)) start (end + n) ≡ between xs start end ++ take n got
behind xs got start end k n ordered within fits =
    let front = length-take-le end xs within in
    let held = drop start (take end xs) in
    let len : length held ≡ end - start = omega (arith, length-drop start (take end xs)) in
    let sum : end + n - start ≡ (end - start) + n = omega arith in
    let parts : end ≡ start + (end - start) = omega arith in
    let same : held ≡ take (end - start) (drop start xs) = ap (λ j. drop start (take j xs)) parts ∙ drop-take start (end - start) xs in
    let after = got ++ post_of end k xs in
    ap (take (end + n - start)) (drop-append-le start (take end xs) after (omega arith))
    ∙ ap (λ j. take j (held ++ after)) sum ∙ take-add (end - start) n (held ++ after)
    ∙ (rw (take_at held after _ len, drop_at held after _ len, take-append-le n got (post_of end k xs) fits, same) refl)

pub grown : {Z : Type 0} (buffer : Vec ℕ Z) (seen got : List ℕ) (start end k n : ℕ) → seen ≡ buffer.items → length (take end seen ++ (got ++ post_of end k seen)) ≡ buffer.len → start ≤ end → end ≤ length buffer.items → n ≤ length got
    → between (with_items buffer (take end seen ++ (got ++ post_of end k seen))).items start (end + n) ≡ between buffer.items start end ++ take n got
grown buffer seen got start end k n same size ordered within fits =
    ap (λ l. between l start (end + n)) (with_items_is buffer (take end seen ++ (got ++ post_of end k seen)) size)
    ∙ behind seen got start end k n ordered (omega (arith, ap length same, within)) fits ∙ ap (λ l. between l start end ++ take n got) same

-- what was read
pub got_is : {Z : Type 0} (buffer : Vec ℕ Z) (seen got shown : List ℕ) (end k n : ℕ) → seen ≡ buffer.items → length (take end seen ++ (got ++ post_of end k seen)) ≡ buffer.len → end ≤ length buffer.items → n ≤ length got
    → shown ≡ (with_items buffer (take end seen ++ (got ++ post_of end k seen))).items → between shown end (end + n) ≡ take n got
got_is buffer seen got shown end k n same size within fits e =
    ap (λ l. between l end (end + n)) e ∙ grown buffer seen got end end k n same size (omega arith) within fits ∙ ap (λ l. l ++ take n got) (between_none buffer.items end end (omega arith))

pub stayed : {Z : Type 0} (buffer : Vec ℕ Z) (seen got : List ℕ) (start end k : ℕ) → seen ≡ buffer.items → length (take end seen ++ (got ++ post_of end k seen)) ≡ buffer.len → start ≤ end → end ≤ length buffer.items
    → between (with_items buffer (take end seen ++ (got ++ post_of end k seen))).items start end ≡ between buffer.items start end
stayed buffer seen got start end k same size ordered within =
    let no_more : end ≡ end + 0 = omega arith in
    ap (between (with_items buffer (take end seen ++ (got ++ post_of end k seen))).items start) no_more ∙ grown buffer seen got start end k 0 same size ordered within (omega arith) ∙ append-nil (between buffer.items start end)

pub length-between-lt : (items : List ℕ) (start end size : ℕ) → end < size → length (between items start end) < size
length-between-lt items start end size less = omega (arith, length-take (end - start) (drop start items))

-- ---- what came

-- the bytes of a read
moved_bytes : {had has : Option (List ℕ)} {made makes : Option ℕ} {left left' slack : ℕ} {before after : List ℕ} (got : List ℕ) (m : Moves had has made makes before after left left' slack []) → after ≡ before ++ got → m.bytes ≡ got
moved_bytes {before = before} got m e = append_cancel_left before m.bytes got (m.kept ∙ e)

module _ {had has : Option (List ℕ)} {made makes : Option ℕ} {left left' : ℕ} (before after got : List ℕ) (n : ℕ) (m : Moves had has made makes [] (take n got) left left' (1 - n) []) (e : after ≡ before ++ take n got)
    (within : n ≤ length got) (ends : n ≡ 0 → IsAtEnd has) (less : left' < left) where
  pub came_as : (came : Came) → ComesAs came (take n got) → (moved : Moves had has made makes before after left left' (slack_when came) []) × ComesAs came moved.bytes × EndsWhen came has × (left' < left)
  came_as Lf comes =
      let size : length (take n got) ≡ n = length-take-le n got within in
      let some_byte : 1 ≤ length (take n got) = lf_some (take n got) comes in
      let moved : Moves had has made makes before after left left' 0 [] = reads_behind before after 0 m e (omega arith) in
      (moved, subst (ComesAs Lf) (sym (moved_bytes (take n got) moved e)) comes, tt, less)
  came_as Bytes comes =
      let size : length (take n got) ≡ n = length-take-le n got within in
      let moved : Moves had has made makes before after left left' 0 [] = reads_behind before after 0 m e (omega arith) in
      (moved, subst (ComesAs Bytes) (sym (moved_bytes (take n got) moved e)) comes, tt, less)
  came_as End comes =
      let size : length (take n got) ≡ n = length-take-le n got within in
      let none_came : n ≡ 0 = omega (arith, ap length comes) in
      let moved : Moves had has made makes before after left left' 1 [] = reads_behind before after 1 m e (omega arith) in
      (moved, subst (ComesAs End) (sym (moved_bytes (take n got) moved e)) comes, ends none_came, less)

-- ---- the loop

pub lf_between : (items seen : List ℕ) (start end : ℕ) (found : Bool) → seen ≡ items → found ≡ has_lf (between seen start end) → has_lf (between items start end) ≡ found
lf_between items seen start end found same e = sym (e ∙ ap (λ l. has_lf (between l start end)) same)

-- nothing more came
pub stays_short : (items : List ℕ) (start end : ℕ) (after : List ℕ) → after ≡ between items start end → has_lf (between items start end) ≡ false → end < CHUNK → IsShort after
stays_short items start end after e cut less = (ap has_lf e ∙ cut, subst (λ l. length l < CHUNK) (sym e) (length-between-lt items start end CHUNK less))

module _ {had has : Option (List ℕ)} {made makes : Option ℕ} {left left' slack : ℕ} {before after : List ℕ} (m : Moves had has made makes before after left left' slack []) where
  pub ends_short : m.bytes ≡ [] → after ≡ before
  ends_short empty = sym m.kept ∙ ap (λ l. before ++ l) empty ∙ append-nil before

  more : has_lf before ≡ false → has_lf after ≡ has_lf m.bytes
  more cut = sym (ap has_lf m.kept) ∙ has_lf-append before m.bytes cut

  pub has_more : has_lf before ≡ false → has_lf m.bytes ≡ true → has_lf after ≡ true
  has_more cut lf = more cut ∙ lf

  pub has_none_more : has_lf before ≡ false → has_lf m.bytes ≡ false → has_lf after ≡ false
  has_none_more cut none_came = more cut ∙ none_came
