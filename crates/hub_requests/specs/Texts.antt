-- The text of a reply: one line.
use Rattle.std.specs.Prelude.{ℕ, List, [], ◌∷◌, ◌++◌, codes, Bool, true, false, Option, None, Some}
use Rattle.std.specs.Fmt.{decimal}
use Rattle.hub_letters.specs.Flags.{code_of}
use Rattle.hub_record.specs.declared.Kind as kinds
use Rattle.hub_record.specs.declared.Kind.TheVariants as kind
use Rattle.hub_record.specs.declared.limits.Policy.{Policy}
use Rattle.hub_record.specs.declared.limits.Policy.TheVariants.{Hold, Evict}
use Rattle.hub_requests.specs.Names.{names_text}
use Rattle.hub_requests.specs.declared.about.About as abouts
use Rattle.hub_requests.specs.declared.reply.Reply.{Reply}
use Rattle.hub_requests.specs.declared.reply.Reply.TheVariants.{Done, Number, State, About, Got, Hit, Nothing, End, Evicted, Yes, Never, Late, Listed, No}
use Rattle.hub_requests.specs.declared.reply.Refusal.{Refusal}
use Rattle.hub_requests.specs.declared.reply.Refusal.TheVariants.{Long, Text, Word, Form, Range, Right, Name, Exists, Kind, Id, Many, Spent, Closed, Unlawful, Full, Pattern, Overlong, Memory}

-- the name of a refusal
abbrev pub word_of : Refusal → List ℕ
word_of Long = codes "long"
word_of Text = codes "text"
word_of Word = codes "word"
word_of Form = codes "form"
word_of Range = codes "range"
word_of Right = codes "right"
word_of Name = codes "name"
word_of Exists = codes "exists"
word_of Kind = codes "kind"
word_of Id = codes "id"
word_of Many = codes "many"
word_of Spent = codes "spent"
word_of Closed = codes "closed"
word_of (Unlawful i) = codes "unlawful " ++ decimal i
word_of Full = codes "full"
word_of Pattern = codes "pattern"
word_of Overlong = codes "overlong"
word_of Memory = codes "memory"

-- open or closed
abbrev pub openness : Bool → List ℕ
openness false = codes "open"
openness true = codes "closed"

-- the word that makes such a fifodir
abbrev pub word_of_kind : kinds.Kind → List ℕ
word_of_kind kind.Plain = codes "dir"
word_of_kind kind.Service = codes "svc"

-- yes or no
abbrev pub text_of_flag : Bool → List ℕ
text_of_flag false = codes "0"
text_of_flag true = codes "1"

abbrev pub word_of_policy : Policy → List ℕ
word_of_policy Hold = codes "hold"
word_of_policy Evict = codes "evict"

-- what is told about a fifodir, piece by piece
abbrev pub pieces_about : abouts.About → List (List ℕ)
pieces_about about =
    word_of_kind about.kind ∷ text_of_flag about.notifies ∷ decimal about.waiting ∷ decimal about.total ∷ word_of_policy about.policy
    ∷ decimal about.subscriptions ∷ decimal about.publishers ∷ decimal about.pending ∷ []

-- the number, or a dash if there is none
abbrev pub number_or_dash : Option ℕ → List ℕ
number_or_dash None = codes "-"
number_or_dash (Some n) = decimal n

-- each with a space before it
abbrev pub numbers_text : List (Option ℕ) → List ℕ
numbers_text [] = []
numbers_text (number ∷ rest) = 32 ∷ (number_or_dash number ++ numbers_text rest)

-- the line without its LF
abbrev pub line_of : Reply → List ℕ
line_of Done = codes "ok"
line_of (Number n) = codes "ok " ++ decimal n
line_of (State status) = codes "ok " ++ (decimal status.number ++ 32 ∷ (decimal (code_of status.flags) ++ 32 ∷ openness status.closed))
line_of (About about) = codes "ok" ++ names_text (pieces_about about)
line_of (Got letters) = codes "got " ++ letters
line_of (Hit letters) = codes "hit " ++ letters
line_of Nothing = codes "none"
line_of End = codes "end"
line_of Evicted = codes "evicted"
line_of (Yes numbers) = codes "yes" ++ numbers_text numbers
line_of Never = codes "never"
line_of Late = codes "late"
line_of (Listed names) = codes "names" ++ names_text names
line_of (No refusal) = codes "no " ++ word_of refusal

-- the line with its LF
abbrev pub text_of : Reply → List ℕ
text_of reply = line_of reply ++ 10 ∷ []
