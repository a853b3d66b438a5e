-- The request of a form.
use Rattle.std.proofs.Common.{◌≡◌, zero, suc, List, [], ◌∷◌, length, take, true, false, refl, sym, ap, ◌∙◌, subst, arith, rules}
use Rattle.std.specs.List.{AllZip}
use Rattle.hub_requests.specs.Ranges.{IsInRange}
use Rattle.hub_requests.specs.declared.request.Request.{Request}
use Rattle.hub_requests.specs.declared.request.Request.TheVariants as request
use Rattle.hub_protocol.specs.declared.table.Kind.{Kind}
use Rattle.hub_protocol.specs.declared.table.Kind.TheVariants as kind
use Rattle.hub_protocol.specs.declared.table.Ending.{Ending}
use Rattle.hub_protocol.specs.declared.table.Ending.TheVariants as ending
use Rattle.hub_protocol.specs.Table.{Row, kinds_of, ending_of, row_in, table}
use Rattle.hub_protocol.specs.Spelling.{Form, Field, Name, Number, Letters, Mode, Span, Want, State, Will, Last, Nothing, Names, Pattern, Evict, IsForm, IsSoundForm, IsOf, EndsAs, IsWithin, form_of, request_from, says}
use Rattle.hub_protocol.specs.Lines.{AreWithinKinds, IsWithinKind, IsMadeOf, field_as, fields_as, last_as}
use Rattle.hub_protocol.proofs.Rows.{EachRow, of_word, word_at}

-- ---- a request's form is that of one request

pub remade : (r : Request) → request_from (form_of r) ≡ r
remade (request.Svc name waiting total true evict) = refl
remade (request.Svc name waiting total false evict) = refl
remade r = refl

pub same_request : (a b : Request) → form_of a ≡ form_of b → a ≡ b
same_request a b e = sym (remade a) ∙ ap request_from e ∙ remade b

-- ---- a form whose numbers are in their ranges is that of a request

-- a request that is made of what the row's kinds read has the form
abbrev IsMadeBy : Row → Type 0
IsMadeBy row = (fields : List Field) (last : Last) → form_of (request_from (says row.word fields last)) ≡ says row.word (fields_as row.kinds fields) (last_as row.ending last)

each_is_made : EachRow IsMadeBy table
each_is_made = search rules

read_field : (k : Kind) (field : Field) → IsOf k field → IsWithinKind k field → field_as k field ≡ field
read_field kind.Name (Name name) h within = refl
read_field (kind.Number least most) (Number number) h within = refl
read_field kind.Flag (Number zero) h within = refl
read_field kind.Flag (Number (suc zero)) h within = refl
read_field kind.Flag (Number (suc (suc n))) h within = absurd (omega (arith, within))
read_field kind.Letters (Letters letters) h within = refl
read_field kind.Mode (Mode mode) h within = refl
read_field kind.Span (Span s) h within = refl
read_field kind.Want (Want want) h within = refl
read_field kind.State (State s) h within = refl
read_field kind.Will (Will w) h within = refl
read_field k field h within = absurd h

read_fields : (kinds : List Kind) (fields : List Field) → AllZip IsOf kinds fields → AllZip IsWithinKind kinds fields → fields_as kinds fields ≡ fields
read_fields [] [] h within = refl
read_fields [] (field ∷ fields) h within = absurd h
read_fields (k ∷ ks) [] h within = absurd h
read_fields (k ∷ ks) (field ∷ fields) h within =
    let first = read_field k field h.0 within.0 in
    let rest = read_fields ks fields h.1 within.1 in
    cc

read_last : (end : Ending) (last : Last) → EndsAs end last → last_as end last ≡ last
read_last ending.Nothing Nothing h = refl
read_last ending.Names (Names names) h = refl
read_last ending.Pattern (Pattern pattern) h = refl
read_last ending.Evict (Evict evict) h = refl
read_last end last h = absurd h

-- the row's kinds read no more than as many fields
as_many : (kinds : List Kind) (fields : List Field) → fields_as kinds fields ≡ fields_as kinds (take (length kinds) fields)
as_many [] fields = refl
as_many (k ∷ ks) [] = refl
as_many (k ∷ ks) (field ∷ fields) = ap (λ fs. field_as k field ∷ fs) (as_many ks fields)

-- what is made of a form's word, of its fields with others behind them, and of its end has the form
pub is_form : (form made : Form) (more : List Field) → IsForm form → AreWithinKinds form → form.fields ≡ take (length (kinds_of form.word)) more → IsMadeOf form.word more form.last made → made ≡ form
is_form form made more h within front is =
    let word : made.word ≡ form.word = is.word in
    let fields : made.fields ≡ form.fields = is.fields ∙ ap (λ w. fields_as (kinds_of w) more) word ∙ as_many (kinds_of form.word) more
    ∙ ap (fields_as (kinds_of form.word)) (sym front) ∙ read_fields (kinds_of form.word) form.fields h.fields within in
    let last : made.last ≡ form.last = is.last ∙ ap (λ w. last_as (ending_of w) form.last) word ∙ read_last (ending_of form.word) form.last h.last in
    ap (λ w. says w made.fields made.last) word ∙ ap (λ fs. says form.word fs made.last) fields ∙ ap (λ l. says form.word form.fields l) last

pub made : (form : Form) → IsForm form → AreWithinKinds form → form_of (request_from form) ≡ form
made form h within =
    let row = row_in table form.word in
    let by_row = of_word IsMadeBy each_is_made form.word h.word form.fields form.last in
    let word = word_at form.word h.word in
    let fields = read_fields (kinds_of form.word) form.fields h.fields within in
    let last = read_last (ending_of form.word) form.last h.last in
    ap (λ w. form_of (request_from (says w form.fields form.last))) (sym word) ∙ by_row
    ∙ ap (λ w. says w (fields_as row.kinds form.fields) (last_as row.ending form.last)) word
    ∙ ap (λ fs. says form.word fs (last_as row.ending form.last)) fields ∙ ap (λ l. says form.word form.fields l) last

-- ---- ranges

-- the numbers of a request are in their ranges exactly if those of its form are
to_range : (r : Request) → IsForm (form_of r) → AreWithinKinds (form_of r) → IsInRange r
to_range (request.Dir name waiting total evict) h within = search (rules, arith)
to_range r h within = search (rules, arith)

from_range : (r : Request) → IsForm (form_of r) → IsInRange r → AreWithinKinds (form_of r)
from_range (request.Dir name waiting total evict) h range = search (rules, arith)
from_range r h range = search (rules, arith)

pub in_range : (r : Request) (form : Form) → form_of r ≡ form → IsForm form → AreWithinKinds form → IsInRange r
in_range r form e h within = to_range r (subst IsForm (sym e) h) (subst AreWithinKinds (sym e) within)

pub beyond : (form : Form) → IsForm form → (AreWithinKinds form → ⊥) → IsWithin form → ⊥
beyond form h out (r, e, range) = out (subst AreWithinKinds e (from_range r (subst IsForm (sym e) h) range))

pub some_request : (form : Form) → IsForm form → AreWithinKinds form → (r : Request) × (form_of r ≡ form) × IsInRange r
some_request form h within = let e = made form h within in (request_from form, e, in_range (request_from form) form e h within)

-- a request that is sound has a form
pub formed : (r : Request) → IsSoundForm (form_of r) → IsForm (form_of r)
formed (request.Dir name waiting total evict) h = search rules
formed r h = search rules
