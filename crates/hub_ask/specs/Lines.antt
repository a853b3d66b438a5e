-- The line of a request.
use Rattle.std.specs.Prelude.{ℕ, List, codes}
use Rattle.std.specs.List.{join_by}
use Rattle.hub_ask.specs.declared.line.Line.{Line}

-- the words, with one space between each two; text gives the bytes of a word
abbrev pub joined : {Word : Type 0} → (text : Word → List ℕ) → List Word → List ℕ
joined text words = join_by text (codes " ") words

-- the bytes of the line, without an LF
abbrev pub bytes_of : Line → List ℕ
bytes_of line = line.bytes.items
