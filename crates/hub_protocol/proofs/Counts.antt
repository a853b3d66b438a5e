-- Numbers of 64 bits, and the texts of numbers and dashes.
use Rattle.std.proofs.Common.{◌≡◌, ◌≢◌, ℕ, List, [], ◌∷◌, map, codes, None, Some, Option, refl, sym, ap, ◌∙◌}
use Rattle.std.specs.Prelude.{All}
use Rattle.std.specs.Fmt.{decimal}
use Rattle.std.proofs.lemmas.Fmt.{decimal_injective}
use Rattle.std.proofs.lemmas.List.Elements.{All-nil, All-cons, All-head, All-tail}
use Rattle.hub_record.specs.declared.Kind as kinds
use Rattle.hub_record.specs.declared.Kind.TheVariants as kind
use Rattle.hub_requests.specs.Texts.{number_or_dash, word_of_kind}
use Rattle.hub_protocol.specs.Replies.{IsCount, IsCountOrNone}
use Rattle.hub_protocol.specs.ReplyLines.{IsCountText}
use Rattle.hub_protocol.proofs.Visible.{AreVisible, AllVisible, visible_decimal, visible_dash, digits_all}

pub same_count : (m n : ℕ) → IsCount m → IsCount n → decimal m ≡ decimal n → m ≡ n
same_count m n h k e = decimal_injective m n h k e

-- a dash isn't a digit
pub no_dash : (n : ℕ) → IsCount n → decimal n ≢ codes "-"
no_dash n h e = let yes = digits_all n h in cc

-- the word of a kind isn't a number
pub no_kind : (n : ℕ) (k : kinds.Kind) → IsCount n → decimal n ≢ word_of_kind k
no_kind n kind.Plain h e = let yes = digits_all n h in cc
no_kind n kind.Service h e = let yes = digits_all n h in cc

pub same_count_or_none : (a b : Option ℕ) → IsCountOrNone a → IsCountOrNone b → number_or_dash a ≡ number_or_dash b → a ≡ b
same_count_or_none None None h k e = refl
same_count_or_none None (Some n) h k e = absurd (no_dash n k (sym e))
same_count_or_none (Some m) None h k e = absurd (no_dash m h e)
same_count_or_none (Some m) (Some n) h k e = ap Some (same_count m n h k e)

pub same_counts : (a b : List (Option ℕ)) → All IsCountOrNone a → All IsCountOrNone b → map number_or_dash a ≡ map number_or_dash b → a ≡ b
same_counts [] [] h k e = refl
same_counts [] (y ∷ ys) h k e = cc
same_counts (x ∷ xs) [] h k e = cc
same_counts (x ∷ xs) (y ∷ ys) h k e =
    let texts : number_or_dash x ≡ number_or_dash y = cc in
    let others : map number_or_dash xs ≡ map number_or_dash ys = cc in
    let first : x ≡ y = same_count_or_none x y (All-head IsCountOrNone x xs h) (All-head IsCountOrNone y ys k) texts in
    let rest : xs ≡ ys = same_counts xs ys (All-tail IsCountOrNone x xs h) (All-tail IsCountOrNone y ys k) others in
    cc

visible_count : (number : Option ℕ) → IsCountOrNone number → AreVisible (number_or_dash number)
visible_count None h = visible_dash
visible_count (Some n) h = visible_decimal n h

pub visible_counts : (numbers : List (Option ℕ)) → All IsCountOrNone numbers → AllVisible (map number_or_dash numbers)
visible_counts [] h = tt
visible_counts (x ∷ xs) h = (visible_count x (All-head IsCountOrNone x xs h), visible_counts xs (All-tail IsCountOrNone x xs h))

-- the texts of numbers, and the numbers of texts
pub texts_of : (numbers : List (Option ℕ)) → All IsCountOrNone numbers → All IsCountText (map number_or_dash numbers)
texts_of [] h = All-nil IsCountText
texts_of (x ∷ xs) h = All-cons IsCountText (number_or_dash x) (map number_or_dash xs) (x, All-head IsCountOrNone x xs h, refl) (texts_of xs (All-tail IsCountOrNone x xs h))

pub record NumbersOf (pieces : List (List ℕ)) : Type 0 where
  pub numbers : List (Option ℕ)
  pub each : All IsCountOrNone numbers
  pub texts : pieces ≡ map number_or_dash numbers

pub numbers_of : (pieces : List (List ℕ)) → All IsCountText pieces → NumbersOf pieces
numbers_of [] h = record { numbers = []; each = All-nil IsCountOrNone; texts = refl }
numbers_of (p ∷ ps) h =
    let (x, is, e) = All-head IsCountText p ps h in
    let rest = numbers_of ps (All-tail IsCountText p ps h) in
    record { numbers = x ∷ rest.numbers; each = All-cons IsCountOrNone x rest.numbers is rest.each; texts = ap (λ q. q ∷ ps) e ∙ ap (λ qs. number_or_dash x ∷ qs) rest.texts }
