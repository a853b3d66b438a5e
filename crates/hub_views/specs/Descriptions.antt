-- What is told of a fifodir: in a row of a table, and in an object of JSON.
use Rattle.std.specs.Prelude.{ℕ, ◌-◌, List, [], ◌∷◌, ◌++◌, length, replicate, codes, Bool, true, false}
use Rattle.std.specs.Fmt.{decimal}
use Rattle.std.specs.List.{join_with_byte}
use Rattle.hub_letters.specs.declared.flags.Flags.{Flags}
use Rattle.hub_record.specs.declared.Kind.{Kind}
use Rattle.hub_record.specs.declared.Kind.TheVariants.{Plain, Service}
use Rattle.hub_record.specs.declared.Status.{Status}
use Rattle.hub_requests.specs.Texts.{word_of_policy}
use Rattle.hub_requests.specs.declared.about.About.{About}
use Rattle.hub_views.specs.ServiceStates.{state_word}
use Rattle.hub_views.specs.declared.description.Description.{Description}

abbrev pub kind_word : Kind → List ℕ
kind_word Plain = codes "plain"
kind_word Service = codes "service"

-- ---- a row

-- the word, and spaces behind it up to the width
abbrev pub in_column : (width : ℕ) (word : List ℕ) → List ℕ
in_column width word = word ++ replicate (width - length word) 32

-- the same, and two spaces before what is right of it
abbrev pub beside : (width : ℕ) (word right : List ℕ) → List ℕ
beside width word right = in_column width word ++ (32 ∷ 32 ∷ right)

-- a plain fifodir has no state, but may be closed
abbrev pub plain_column : (is_closed : Bool) → List ℕ
plain_column false = codes "-"
plain_column true = codes "closed"

-- what is behind the state of a service
abbrev pub closed_mark : (is_closed : Bool) → List ℕ
closed_mark false = []
closed_mark true = codes ",closed"

-- the state, and whether it is closed
abbrev pub state_column : Kind → Status → List ℕ
state_column Plain status = plain_column status.closed
state_column Service status = state_word status.flags ++ closed_mark status.closed

-- how many events are pending for the slowest subscription, of how many that may be
abbrev pub pending_column : About → List ℕ
pending_column about = decimal about.pending ++ (codes " of " ++ decimal about.waiting)

-- what is behind the name
abbrev pub columns_of : Description → List ℕ
columns_of it =
    beside 7 (kind_word it.about.kind) (beside 15 (state_column it.about.kind it.status) (beside 9 (decimal it.status.number)
    (beside 11 (decimal it.about.subscriptions) (beside 12 (pending_column it.about) (word_of_policy it.about.policy)))))

-- a line of the table
abbrev pub row_of : (width : ℕ) (name columns : List ℕ) → List ℕ
row_of width name columns = beside width name (columns ++ 10 ∷ [])

-- ---- an object

-- a string of JSON whose characters need no escape
abbrev pub quoted : List ℕ → List ℕ
quoted text = 34 ∷ (text ++ 34 ∷ [])

abbrev pub true_or_false : Bool → List ℕ
true_or_false true = codes "true"
true_or_false false = codes "false"

-- a member of an object
abbrev pub member : (key value : List ℕ) → List ℕ
member key value = quoted key ++ 58 ∷ value

-- the state of a service, by its flags; a plain fifodir has none
abbrev pub state_value : Kind → Flags → List ℕ
state_value Plain flags = codes "null"
state_value Service flags = quoted (state_word flags)

abbrev pub state_members : Description → List (List ℕ)
state_members it =
    member (codes "kind") (quoted (kind_word it.about.kind))
    ∷ member (codes "state") (state_value it.about.kind it.status.flags)
    ∷ member (codes "readiness") (true_or_false it.about.notifies)
    ∷ member (codes "closed") (true_or_false it.status.closed)
    ∷ []

abbrev pub count_members : Description → List (List ℕ)
count_members it =
    member (codes "events") (decimal it.status.number)
    ∷ member (codes "subscribers") (decimal it.about.subscriptions)
    ∷ member (codes "publishers") (decimal it.about.publishers)
    ∷ member (codes "pending") (decimal it.about.pending)
    ∷ []

abbrev pub limit_members : About → List (List ℕ)
limit_members about =
    member (codes "waiting") (decimal about.waiting)
    ∷ member (codes "total") (decimal about.total)
    ∷ member (codes "policy") (quoted (word_of_policy about.policy))
    ∷ []

-- a comma before each of these members
abbrev pub further : List (List ℕ) → List ℕ
further members = 44 ∷ join_with_byte 44 members

-- an object on a line of its own
abbrev pub object_of : (name : List ℕ) → Description → List ℕ
object_of name it =
    123 ∷ (member (codes "name") (quoted name) ++ (further (state_members it) ++ (further (count_members it) ++ (further (limit_members it.about) ++ (125 ∷ 10 ∷ [])))))
