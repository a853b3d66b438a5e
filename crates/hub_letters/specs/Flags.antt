-- The flags of a word. Each is decided by the last of the letters that bear on it.
use Rattle.std.specs.Prelude.{ℕ, ◌+◌, ◌*◌, Bool, true, false, List, [], ◌∷◌, Option, Some, map, codes}
use Rattle.hub_letters.specs.declared.flags.Flags.{Flags}
use Rattle.hub_letters.specs.Marks.{Mark, Began, Ran, Reported, Died, Finished, GaveUp, Exited, Other, mark, last_among, is_life, is_supervision, is_hope, is_began, is_gave_up}

abbrev pub up_by : Option Mark → Bool
up_by (Some Ran) = true
up_by (Some Reported) = true
up_by m = false

abbrev pub settled_by : Option Mark → Bool
settled_by (Some Began) = true
settled_by (Some Reported) = true
settled_by (Some Finished) = true
settled_by m = false

-- the flags of a word, each by the last of the letters that bear on it
abbrev pub flags_by : List Mark → Flags
flags_by ms = record {
  up = up_by (last_among is_life ms);
  settled = settled_by (last_among is_life ms);
  supervised = is_began (last_among is_supervision ms);
  failed = is_gave_up (last_among is_hope ms);
}

abbrev pub flags_of : List ℕ → Flags
flags_of word = flags_by (map mark word)

-- a Bool as a digit
abbrev pub digit : Bool → ℕ
digit true = 1
digit false = 0

abbrev pub code_of : Flags → ℕ
code_of f = digit f.up + 2 * digit f.settled + 4 * digit f.supervised + 8 * digit f.failed

-- ---- one letter at a time

abbrev pub no_flags : Flags
no_flags = record { up = false; settled = false; supervised = false; failed = false }

-- the flags after one more letter
abbrev pub flags_next : Flags → Mark → Flags
flags_next f Began = record { up = false; settled = true; supervised = true; failed = false }
flags_next f Ran = record f { up = true; settled = false; failed = false }
flags_next f Reported = record f { up = true; settled = true }
flags_next f Died = record f { up = false; settled = false }
flags_next f Finished = record f { up = false; settled = true }
flags_next f GaveUp = record f { failed = true }
flags_next f Exited = record f { supervised = false }
flags_next f Other = f

abbrev pub flags_folded : Flags → List Mark → Flags
flags_folded f [] = f
flags_folded f (m ∷ ms) = flags_folded (flags_next f m) ms

-- ---- the sixteen codes of flags, in their order

abbrev flags : (up settled supervised failed : Bool) → Flags
flags up settled supervised failed = record { up = up; settled = settled; supervised = supervised; failed = failed }

-- the flags with the codes 0, 1, 2, .. 15
abbrev pub sixteen_flags : List Flags
sixteen_flags =
    flags false false false false
    ∷ flags true false false false
    ∷ flags false true false false
    ∷ flags true true false false
    ∷ flags false false true false
    ∷ flags true false true false
    ∷ flags false true true false
    ∷ flags true true true false
    ∷ flags false false false true
    ∷ flags true false false true
    ∷ flags false true false true
    ∷ flags true true false true
    ∷ flags false false true true
    ∷ flags true false true true
    ∷ flags false true true true
    ∷ flags true true true true
    ∷ []

-- words of a service's letters with the codes of their flags
abbrev pub coded_words : List (List ℕ × ℕ)
coded_words =
    (codes "s", 6)
    ∷ (codes "su", 5)
    ∷ (codes "suU", 7)
    ∷ (codes "sud", 4)
    ∷ (codes "sudD", 6)
    ∷ (codes "sudO", 12)
    ∷ (codes "suOdD", 14)
    ∷ (codes "sx", 2)
    ∷ []
