-- How long an unfinished reply is.
use Rattle.std.proofs.Common.{◌≡◌, ℕ, ◌+◌, ◌<◌, List, [], ◌∷◌, ◌++◌, ◌==◌, if◌then◌else◌, length, take, get_or, refl, ap, ◌∙◌}
use Rattle.std.proofs.lemmas.List.{take_more}
use Rattle.hub_ask.specs.Bounding.{unfinished_after}

-- one more byte
unfinished-last : (bytes : List ℕ) (b n : ℕ) → unfinished_after n (bytes ++ b ∷ []) ≡ (if b == 10 then 0 else unfinished_after n bytes + 1)
unfinished-last [] b n = refl
unfinished-last (a ∷ bytes) b n = unfinished-last bytes b (if a == 10 then 0 else n + 1)

-- one more of the bytes
pub unfinished-more : (bytes : List ℕ) (n i d : ℕ) → i < length bytes → unfinished_after n (take (i + 1) bytes) ≡ (if get_or bytes i d == 10 then 0 else unfinished_after n (take i bytes) + 1)
unfinished-more bytes n i d below = ap (unfinished_after n) (take_more bytes i d below) ∙ unfinished-last (take i bytes) (get_or bytes i d) n
