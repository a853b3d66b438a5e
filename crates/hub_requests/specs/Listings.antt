-- The names that one reply lists.
use Rattle.std.specs.Prelude.{◌≡◌, ℕ, zero, suc, ◌+◌, ◌<◌, ◌≤◌, List, [], ◌∷◌, ◌++◌, length, take, drop, nat_le, true, All, Bool, if◌then◌else◌}
use Rattle.hub_requests.specs.declared.bounds.TheConstants.{LONGEST_REPLY}
use Rattle.hub_requests.specs.declared.reply.Reply.{Reply}
use Rattle.hub_requests.specs.declared.reply.Reply.TheVariants.{Listed, Nothing}
use Rattle.hub_requests.specs.Names.{is_name}
use Rattle.hub_requests.specs.Texts.{text_of}

-- whether one reply has room for these names
abbrev pub fit : List (List ℕ) → Bool
fit names = nat_le (length (text_of (Listed names))) LONGEST_REPLY

-- the greatest number up to `most` such that so many of the first names fit
abbrev pub greatest_fit : List (List ℕ) → ℕ → ℕ
greatest_fit names zero = zero
greatest_fit names (suc most) = if fit (take (suc most) names) then suc most else greatest_fit names most

-- as many of the first names as fit
abbrev pub fitting : List (List ℕ) → List (List ℕ)
fitting names = take (greatest_fit names (length names)) names

-- these names, or none if there is none
abbrev pub names_shown : List (List ℕ) → Reply
names_shown [] = Nothing
names_shown (name ∷ rest) = Listed (name ∷ rest)

-- the names from place `from` on, counted from 0, as many as fit
abbrev pub names_reply : List (List ℕ) → ℕ → Reply
names_reply names from = names_shown (fitting (drop from names))

-- ---- the laws

-- the names begin with these, which fit, and would not with the next one
pub record IsLongestFit (names shown : List (List ℕ)) : Type 0 where
  pub rest : List (List ℕ)
  pub first : names ≡ shown ++ rest
  pub fits : length (text_of (Listed shown)) ≤ LONGEST_REPLY
  pub full : (next : List ℕ) (more : List (List ℕ)) → rest ≡ next ∷ more → LONGEST_REPLY < length (text_of (Listed (shown ++ next ∷ [])))

abbrev pub FittingIsLongest : Type 0
FittingIsLongest = (names : List (List ℕ)) → IsLongestFit names (fitting names)

abbrev pub OneIsLongest : Type 0
OneIsLongest = (names shown : List (List ℕ)) → IsLongestFit names shown → shown ≡ fitting names

-- these lists are shown by one reply after another, each asked for from where the one before it ended, until there is none
abbrev pub AreShown : List (List ℕ) → ℕ → List (List (List ℕ)) → Type 0
AreShown names from [] = names_reply names from ≡ Nothing
AreShown names from (shown ∷ later) = (names_reply names from ≡ Listed shown) × AreShown names (from + length shown) later

-- one list after another
abbrev pub joined : List (List (List ℕ)) → List (List ℕ)
joined [] = []
joined (names ∷ later) = names ++ joined later

-- together they are all of the names from there on, each once and in order
abbrev pub RepliesShowAll : Type 0
RepliesShowAll = (names : List (List ℕ)) (from : ℕ) (shown : List (List (List ℕ)))
    → All (λ name. is_name name ≡ true) names → AreShown names from shown → joined shown ≡ drop from names
