use Rattle.std.proofs.Common.{◌≡◌, ℕ, List, [], ◌∷◌, length, get_or, map, refl, subst, arith}
use Rattle.hub_protocol.specs.declared.table.Ending.{Ending}
use Rattle.hub_protocol.specs.declared.table.Ending.TheVariants as ending
use Rattle.hub_protocol.specs.declared.line.Field as code
use Rattle.hub_protocol.specs.Table.{word_of}
use Rattle.hub_protocol.specs.Spelling.{Field, Last, Nothing, Names, Pattern, Evict, EndsAs, EndsSoundly, form_of}
use Rattle.hub_protocol.specs.Lines.{IsMadeOf, field_shown, form_shown, last_shown}
use Rattle.hub_protocol.proofs.FormRequests.{is_form}
use Rattle.hub_protocol.proofs.requests.request_of.Goals as goal

sound_end : (end : Ending) (last : Last) → EndsAs end last → EndsSoundly last
sound_end ending.Names (Names names) h = h
sound_end ending.Pattern (Pattern pattern) h = h
sound_end end (Evict evict) h = tt
sound_end end Nothing h = tt
sound_end end last h = absurd h

pub made_of-requires-clause-ending : goal.made_of-requires-clause-ending
made_of-requires-clause-ending c = sound_end _ (last_shown c.args.line.now.last) c.requires.formed.last

four : (list : List code.Field) (d : code.Field) → length list ≡ 4
    → field_shown (get_or list 0 d) ∷ field_shown (get_or list 1 d) ∷ field_shown (get_or list 2 d) ∷ field_shown (get_or list 3 d) ∷ [] ≡ map field_shown list
four (a ∷ b ∷ c ∷ e ∷ []) d long = refl
four [] d long = absurd (omega (arith, long))
four (a ∷ []) d long = absurd (omega (arith, long))
four (a ∷ b ∷ []) d long = absurd (omega (arith, long))
four (a ∷ b ∷ c ∷ []) d long = absurd (omega (arith, long))
four (a ∷ b ∷ c ∷ e ∷ f ∷ more) d long = absurd (omega (arith, long))

pub returns-clause-ok : goal.returns-clause-ok
returns-clause-ok c =
    let line = c.args.line.now in
    let fields = map field_shown line.fields.now in
    let made : IsMadeOf (word_of line.verb) fields (last_shown line.last) (form_of c.in_ok-request.request) =
    subst (λ list. IsMadeOf (word_of line.verb) list (last_shown line.last) (form_of c.in_ok-request.request)) (four line.fields.now _ c.requires.whole) c.in_ok-request.ensures.ok in
    is_form (form_shown line) (form_of c.in_ok-request.request) fields c.requires.formed c.requires.within refl made
