-- The columns of a row and the members of an object.
use Rattle.std.proofs.Common.{◌≡◌, ℕ, List, [], ◌∷◌, ◌++◌, codes, Result, Ok, Err, OnOk, is_ok, if◌then◌else◌, ap, ◌∙◌, subst, append_assoc}
use Rattle.std.specs.Fmt.{decimal}
use Rattle.hub_requests.specs.Texts.{word_of_policy}
use Rattle.hub_views.specs.Descriptions.{beside, columns_of, count_members, further, in_column, kind_word, limit_members, member, object_of, pending_column, quoted, row_of, state_column, state_members}
use Rattle.hub_views.specs.declared.description.Description.{Description}

-- what is put behind a column
behind : (line grown last : List ℕ) (width : ℕ) (word right : List ℕ) → grown ≡ line ++ beside width word [] → last ≡ grown ++ right → last ≡ line ++ beside width word right
behind line grown last width word right column more =
    more ∙ ap (λ it. it ++ right) column ∙ append_assoc line (beside width word []) right ∙ ap (λ it. line ++ it) (append_assoc (in_column width word) (32 ∷ 32 ∷ []) right)

-- a column of this word
pub of_word : (line grown : List ℕ) (width : ℕ) (put word : List ℕ) → put ≡ word → grown ≡ line ++ beside width put [] → grown ≡ line ++ beside width word []
of_word line grown width put word same column = subst (λ it. grown ≡ line ++ beside width it []) same column

-- all of them
pub all_columns : {T E : Type 0} (it : Description) (line a b c d e last policy : List ℕ) (result : Result T E)
    → a ≡ line ++ beside 7 (kind_word it.about.kind) [] → b ≡ a ++ beside 15 (state_column it.about.kind it.status) [] → c ≡ b ++ beside 9 (decimal it.status.number) []
    → d ≡ c ++ beside 11 (decimal it.about.subscriptions) [] → e ≡ d ++ beside 12 (pending_column it.about) [] → policy ≡ word_of_policy it.about.policy
    → last ≡ (if is_ok result then e ++ policy else e) → OnOk result (last ≡ line ++ columns_of it)
all_columns it line a b c d e last policy (Ok done) kind state number subscriptions pending is more =
    behind line a last 7 (kind_word it.about.kind) _ kind
    (behind a b last 15 (state_column it.about.kind it.status) _ state
    (behind b c last 9 (decimal it.status.number) _ number
    (behind c d last 11 (decimal it.about.subscriptions) _ subscriptions
    (behind d e last 12 (pending_column it.about) (word_of_policy it.about.policy) pending (subst (λ word. last ≡ e ++ word) is more)))))
all_columns it line a b c d e last policy (Err error) kind state number subscriptions pending is more = tt

-- a row, and its end
pub whole_row : {T E : Type 0} (width : ℕ) (name columns line a b last : List ℕ) (result : Result T E)
    → a ≡ line ++ beside width name [] → b ≡ a ++ columns → last ≡ (if is_ok result then b ++ 10 ∷ [] else b) → OnOk result (last ≡ line ++ row_of width name columns)
whole_row width name columns line a b last (Ok done) put more ends =
    behind line a last width name (columns ++ 10 ∷ []) put (ends ∙ ap (λ it. it ++ 10 ∷ []) more ∙ append_assoc a columns (10 ∷ []))
whole_row width name columns line a b last (Err error) put more ends = tt

-- what is put behind a part of an object
behind_part : (line grown last part right : List ℕ) → grown ≡ line ++ part → last ≡ grown ++ right → last ≡ line ++ (part ++ right)
behind_part line grown last part right put more = more ∙ ap (λ it. it ++ right) put ∙ append_assoc line part right

-- an object, all parts of it
pub whole_object : {T E : Type 0} (name : List ℕ) (it : Description) (line a b c d e last : List ℕ) (result : Result T E)
    → a ≡ line ++ 123 ∷ [] → b ≡ a ++ member (codes "name") (quoted name) → c ≡ b ++ further (state_members it) → d ≡ c ++ further (count_members it) → e ≡ d ++ further (limit_members it.about)
    → last ≡ (if is_ok result then e ++ 125 ∷ 10 ∷ [] else e) → OnOk result (last ≡ line ++ object_of name it)
whole_object name it line a b c d e last (Ok done) opens named states counts limits ends =
    behind_part line a last (123 ∷ []) _ opens
    (behind_part a b last (member (codes "name") (quoted name)) _ named
    (behind_part b c last (further (state_members it)) _ states
    (behind_part c d last (further (count_members it)) _ counts (behind_part d e last (further (limit_members it.about)) _ limits ends))))
whole_object name it line a b c d e last (Err error) opens named states counts limits ends = tt
