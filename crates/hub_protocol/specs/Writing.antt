-- What a call that appends a text to a vector leaves in it, and what the code writes of a request.
use Rattle.std.specs.Prelude.{◌≡◌, ℕ, ◌+◌, ◌≤◌, List, ◌++◌, length, map, take, Result, OnOk, OnErr, IsOk, vec_len, vec_capacity}
use Rattle.std.specs.Prelude.{[], ◌∷◌}
use Rattle.std.specs.declared.alloc.AllocError.{AllocError}
use Rattle.std.specs.declared.alloc.Global.{Global}
use Rattle.std.specs.declared.vec.Vec.{Vec}
use Rattle.std.specs.Fmt.{decimal}
use Rattle.hub_requests.specs.declared.reply.Refusal.{Refusal}
use Rattle.hub_requests.specs.declared.reply.Refusal.TheVariants as no
use Rattle.hub_requests.specs.declared.request.Request.{Request}
use Rattle.hub_protocol.specs.declared.telling.Told as tolds
use Rattle.hub_protocol.specs.declared.telling.Told.TheVariants as told
use Rattle.hub_protocol.specs.declared.telling.ToldForm as forms
use Rattle.hub_protocol.specs.declared.telling.End as ends
use Rattle.hub_protocol.specs.declared.telling.End.TheVariants as end
use Rattle.hub_protocol.specs.Spelling.{Field, Name, Number, Letters, Mode, Span, Want, State, Will, Last, Nothing, Names, Pattern, Evict, Form, form_of, says, spelling}

-- the text was appended, or a prefix of it; all of it if there is room
pub record Appends (old new : Vec ℕ Global) (result : Result (Unit {0}) AllocError) (text : List ℕ) : Type 0 where
  pub ok : OnOk result (new.items ≡ old.items ++ text)
  pub err : OnErr result (take (length old.items) new.items ≡ old.items)
  pub room : vec_len old + length text ≤ vec_capacity old → IsOk result
  pub capacity : vec_capacity old ≤ vec_capacity new

-- the place that a refusal tells behind its name
abbrev pub place_text : Refusal → List ℕ
place_text (no.Unlawful place) = decimal place
place_text refusal = []

abbrev pub field_told : tolds.Told → Field
field_told (told.Name name) = Name name.now
field_told (told.Number number) = Number number
field_told (told.Letters letters) = Letters letters.now
field_told (told.Mode mode) = Mode mode
field_told (told.Span s) = Span s
field_told (told.Want want) = Want want
field_told (told.State s) = State s
field_told (told.Will w) = Will w

abbrev pub last_told : ends.End → Last
last_told end.Nothing = Nothing
last_told (end.Names names) = Names names.now
last_told (end.Pattern pattern) = Pattern pattern.now
last_told (end.Evict evict) = Evict evict

-- what a form tells
abbrev pub what_tells : forms.ToldForm → Form
what_tells form = says form.word.now (map field_told (take form.count form.fields)) (last_told form.end)

-- the one line of a request, with its LF
abbrev pub line_of_request : Request → List ℕ
line_of_request request = spelling (form_of request) ++ 10 ∷ []
