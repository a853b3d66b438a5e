-- The table of forms, by words.
use Rattle.std.specs.Prelude.{◌≡◌, ℕ, ◌<◌, List, [], length, map, get_or, codes, Option, MatchOption}
use Rattle.std.specs.Borrow.{Bor}
use Rattle.std.specs.List.{position_or_len}
use Rattle.std.specs.Str.{bytes_eq}
use Rattle.hub_protocol.specs.declared.table.TheConstants.{ROWS}
use Rattle.hub_protocol.specs.declared.table.Kind.{Kind}
use Rattle.hub_protocol.specs.declared.table.Ending.{Ending}
use Rattle.hub_protocol.specs.declared.table.Ending.TheVariants.{Nothing}
use Rattle.hub_protocol.specs.declared.table.Verb.{Verb}
use Rattle.hub_protocol.specs.declared.table.Verb.TheVariants as verb

-- a word, what its line asks for, what the fields behind the word may say, and what ends the line
pub record Row : Type 0 where
  pub word : List ℕ
  pub verb : Verb
  pub kinds : List Kind
  pub ending : Ending

abbrev pub table : List Row
table = map (λ row. record { word = row.0.now; verb = row.1; kinds = row.2.now; ending = row.3 }) ROWS.now

-- the place of the first row with the word; the number of rows, if no row has the word
abbrev pub place_in : List Row → List ℕ → ℕ
place_in rows word = position_or_len (λ row. bytes_eq row.word word) rows

abbrev pub no_row : Row
no_row = record { word = []; verb = verb.Dir; kinds = []; ending = Nothing }

-- the first row with the word
abbrev pub row_in : List Row → List ℕ → Row
row_in rows word = get_or rows (place_in rows word) no_row

-- some row of the table has the word
abbrev pub IsWord : List ℕ → Type 0
IsWord word = place_in table word < length table

-- what the fields behind the word may say
abbrev pub kinds_of : List ℕ → List Kind
kinds_of word = (row_in table word).kinds

-- what ends the word's line
abbrev pub ending_of : List ℕ → Ending
ending_of word = (row_in table word).ending

abbrev pub row_shown : Bor (List ℕ) × Verb × Bor (List Kind) × Ending → Row
row_shown row = record { word = row.0.now; verb = row.1; kinds = row.2.now; ending = row.3 }

-- the row of the word, if there is one
abbrev pub IsRowOf : List Row → List ℕ → Option (Bor (List ℕ) × Verb × Bor (List Kind) × Ending) → Type 0
IsRowOf rows word found = MatchOption found (place_in rows word < length rows → ⊥)
    (λ row. (place_in rows word < length rows) × (row_in rows word ≡ row_shown row))

-- the word of a line that asks for this
abbrev pub word_of : Verb → List ℕ
word_of verb.Dir = codes "dir"
word_of verb.Svc = codes "svc"
word_of verb.Sub = codes "sub"
word_of verb.Pub = codes "pub"
word_of verb.Tell = codes "tell"
word_of verb.Will = codes "will"
word_of verb.Take = codes "take"
word_of verb.Cancel = codes "cancel"
word_of verb.Close = codes "close"
word_of verb.Status = codes "status"
word_of verb.About = codes "about"
word_of verb.Listen = codes "listen"
word_of verb.Poll = codes "poll"
word_of verb.Await = codes "await"
word_of verb.Next = codes "next"
word_of verb.Wait = codes "wait"
word_of verb.Names = codes "names"
