-- What each letter says, and the last letter of a kind in a word. A word is a list of letters, each seen as its byte.
use Rattle.std.specs.Prelude.{ℕ, ◌==◌, Bool, true, false, if◌then◌else◌, List, [], ◌∷◌, Option, Some, None, ◌≡◌, ◌++◌, All, codes}
use Rattle.std.specs.List.{list_any}

-- what a letter says
pub data Mark : Type 0 where
  Began : Mark  -- s: the supervisor started
  Ran : Mark  -- u: the run process was started
  Reported : Mark  -- U: the service reported readiness
  Died : Mark  -- d: the run process died
  Finished : Mark  -- D: the finish script ended
  GaveUp : Mark  -- O: the service won't be restarted
  Exited : Mark  -- x: the supervisor is about to exit
  Other : Mark  -- any other letter

abbrev pub mark : ℕ → Mark
mark c =
    if c == 115 then Began else if c == 117 then Ran else if c == 85 then Reported else if c == 100 then Died
    else if c == 68 then Finished else if c == 79 then GaveUp else if c == 120 then Exited else Other

abbrev pub later : Option Mark → Bool → Mark → Option Mark
later (Some n) b m = Some n
later None true m = Some m
later None false m = None

-- the last mark that passes the test
abbrev pub last_among : (Mark → Bool) → List Mark → Option Mark
last_among p [] = None
last_among p (m ∷ ms) = later (last_among p ms) (p m) m

-- one of s u U d D
abbrev pub is_life : Mark → Bool
is_life GaveUp = false
is_life Exited = false
is_life Other = false
is_life m = true

-- one of s x
abbrev pub is_supervision : Mark → Bool
is_supervision Began = true
is_supervision Exited = true
is_supervision m = false

-- one of O s u
abbrev pub is_hope : Mark → Bool
is_hope Began = true
is_hope Ran = true
is_hope GaveUp = true
is_hope m = false

-- whether the last mark is this one
abbrev pub is_began : Option Mark → Bool
is_began (Some Began) = true
is_began m = false

abbrev pub is_gave_up : Option Mark → Bool
is_gave_up (Some GaveUp) = true
is_gave_up m = false

-- ---- the last letter of a word that is one of some letters

-- Letters are named as on a service's pages: s u U d D O x

abbrev pub is_among : List ℕ → ℕ → Bool
is_among these letter = list_any (λ c. letter == c) these

-- the letters after which no run of a service goes on
abbrev pub falls : ℕ → Bool
falls letter = is_among (codes "sdD") letter

abbrev pub has_fall : List ℕ → Bool
has_fall word = list_any falls word

-- the last letter of the word that is one of `all` is one of `these`
pub record LastIs (all these : List ℕ) (word : List ℕ) : Type 0 where
  pub before : List ℕ
  pub letter : ℕ
  pub after : List ℕ
  pub split : word ≡ before ++ letter ∷ after
  pub is_one : is_among these letter ≡ true
  pub is_last : All (λ c. is_among all c ≡ false) after
