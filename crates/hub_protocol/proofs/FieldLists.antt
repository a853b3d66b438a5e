-- Fields that are read one after another.
use Rattle.std.proofs.Common.{◌≡◌, ◌≢◌, ℕ, zero, suc, ◌+◌, ◌<◌, List, [], ◌∷◌, ◌++◌, length, get_or, map, take, drop, slice_set, refl, sym, ap, ◌∙◌, subst, arith}
use Rattle.std.specs.List.{AllZip}
use Rattle.std.proofs.lemmas.List.{length-map, take_more_set, map-append, take_more, drop_more, take-append-drop, get_or-map, get_or-take}
use Rattle.hub_protocol.specs.declared.table.Kind.{Kind}
use Rattle.hub_protocol.specs.declared.table.Kind.TheVariants as kind
use Rattle.hub_protocol.specs.declared.line.Field as code
use Rattle.hub_protocol.specs.Spelling.{Field, Name, Number, Letters, Mode, Span, Want, State, Will, IsOf, IsSound, text_of_field}
use Rattle.hub_protocol.specs.Lines.{IsWithinKind, field_shown, fields_shown}

-- ---- lists side by side

pub all_zip_push : {A B : Type 0} (R : A → B → Type 0) (xs : List A) (ys : List B) (x : A) (y : B) → AllZip R xs ys → R x y → AllZip R (xs ++ x ∷ []) (ys ++ y ∷ [])
all_zip_push R [] [] x y h r = (r, tt)
all_zip_push R [] (b ∷ bs) x y h r = absurd h
all_zip_push R (a ∷ as') [] x y h r = absurd h
all_zip_push R (a ∷ as') (b ∷ bs) x y h r = (h.0, all_zip_push R as' bs x y h.1 r)

-- a pair of an AllZip
pub all_zip_at : {A B : Type 0} (R : A → B → Type 0) (xs : List A) (ys : List B) (i : ℕ) (d : A) (e : B) → AllZip R xs ys → i < length xs → R (get_or xs i d) (get_or ys i e)
all_zip_at R [] ys i d e h below = absurd (omega (arith, below))
all_zip_at R (x ∷ xs) [] i d e h below = absurd h
all_zip_at R (x ∷ xs) (y ∷ ys) zero d e h below = h.0
all_zip_at R (x ∷ xs) (y ∷ ys) (suc i) d e h below = all_zip_at R xs ys i d e h.1 (omega (arith, below))

take_shown : (n : ℕ) (list : List code.Field) → take n (map field_shown list) ≡ map field_shown (take n list)
take_shown zero list = refl
take_shown (suc n) [] = refl
take_shown (suc n) (f ∷ fs) = ap (λ l. field_shown f ∷ l) (take_shown n fs)

more_shown : (list : List code.Field) (i : ℕ) (x : code.Field) → i < length list → take (i + 1) (map field_shown (slice_set list i x)) ≡ take i (map field_shown list) ++ field_shown x ∷ []
more_shown list i x below =
    take_shown (i + 1) (slice_set list i x) ∙ ap (map field_shown) (take_more_set list i x below) ∙ map-append field_shown (take i list) (x ∷ [])
    ∙ ap (λ l. l ++ field_shown x ∷ []) (sym (take_shown i list))

-- ---- reading

pub sound_by : (kind : Kind) (field : Field) → IsOf kind field → IsSound field
sound_by kind.Name (Name name) h = h
sound_by kind.Letters (Letters letters) h = h
sound_by (kind.Number least most) (Number number) h = h
sound_by kind.Flag (Number number) h = h
sound_by k (Mode mode) h = tt
sound_by k (Span s) h = tt
sound_by k (Want want) h = tt
sound_by k (State s) h = tt
sound_by k (Will w) h = tt
sound_by k field h = absurd h

-- one more field is read
pub read_more : (kinds : List Kind) (list : List code.Field) (i : ℕ) (d : Kind) (x : code.Field) → i < length kinds → i < length list
    → AllZip IsOf (take i kinds) (take i (map field_shown list)) → IsOf (get_or kinds i d) (field_shown x)
    → AllZip IsOf (take (i + 1) kinds) (take (i + 1) (map field_shown (slice_set list i x)))
read_more kinds list i d x below inside read is =
    subst (λ ks. AllZip IsOf ks (take (i + 1) (map field_shown (slice_set list i x)))) (sym (take_more kinds i d below))
    (subst (λ fs. AllZip IsOf (take i kinds ++ get_or kinds i d ∷ []) fs) (sym (more_shown list i x inside)) (all_zip_push IsOf (take i kinds) (take i (map field_shown list)) (get_or kinds i d) (field_shown x) read is))

texts-more : (fields : List Field) (field : Field) (behind : List (List ℕ)) → map text_of_field fields ++ text_of_field field ∷ behind ≡ map text_of_field (fields ++ field ∷ []) ++ behind
texts-more [] field behind = refl
texts-more (f ∷ fs) field behind = ap (λ l. text_of_field f ∷ l) (texts-more fs field behind)

pub pieces_more : (list : List code.Field) (i : ℕ) (x : code.Field) (pieces left behind : List (List ℕ)) → i < length list
    → pieces ≡ map text_of_field (take i (map field_shown list)) ++ left → left ≡ text_of_field (field_shown x) ∷ behind
    → pieces ≡ map text_of_field (take (i + 1) (map field_shown (slice_set list i x))) ++ behind
pieces_more list i x pieces left behind inside so_far next =
    so_far ∙ ap (λ l. map text_of_field (take i (map field_shown list)) ++ l) next ∙ texts-more (take i (map field_shown list)) (field_shown x) behind
    ∙ ap (λ fs. map text_of_field fs ++ behind) (sym (more_shown list i x inside))

no_fields_by : (before : List Kind) (kind : Kind) (after : List Kind) (read : List Field) (left : List (List ℕ)) → AllZip IsOf before read
    → ((field : Field) (more : List (List ℕ)) → IsOf kind field → left ≢ text_of_field field ∷ more)
    → (fields : List Field) (more : List (List ℕ)) → AllZip IsOf (before ++ kind ∷ after) fields → map text_of_field read ++ left ≢ map text_of_field fields ++ more
no_fields_by [] kind after [] left zip none [] more h e = h
no_fields_by [] kind after [] left zip none (f ∷ fs) more h e = none f (map text_of_field fs ++ more) h.0 e
no_fields_by [] kind after (r ∷ rs) left zip none fields more h e = zip
no_fields_by (b ∷ bs) kind after [] left zip none fields more h e = zip
no_fields_by (b ∷ bs) kind after (r ∷ rs) left zip none [] more h e = h
no_fields_by (b ∷ bs) kind after (r ∷ rs) left zip none (f ∷ fs) more h e =
    let rest : map text_of_field rs ++ left ≡ map text_of_field fs ++ more = cc in
    no_fields_by bs kind after rs left zip.1 none fs more h.1 rest

-- if the next field isn't of its kind, the pieces aren't those of such fields
pub no_fields_at : (kinds : List Kind) (read : List Field) (i : ℕ) (d : Kind) (pieces left : List (List ℕ)) → i < length kinds → AllZip IsOf (take i kinds) read
    → pieces ≡ map text_of_field read ++ left → ((field : Field) (more : List (List ℕ)) → IsOf (get_or kinds i d) field → left ≢ text_of_field field ∷ more)
    → (fields : List Field) (more : List (List ℕ)) → AllZip IsOf kinds fields → pieces ≢ map text_of_field fields ++ more
no_fields_at kinds read i d pieces left below zip so_far none fields more h e =
    let whole : kinds ≡ take i kinds ++ get_or kinds i d ∷ drop (i + 1) kinds = sym (take-append-drop i kinds) ∙ ap (λ l. take i kinds ++ l) (drop_more kinds i d below) in
    no_fields_by (take i kinds) (get_or kinds i d) (drop (i + 1) kinds) read left zip none fields more (subst (λ ks. AllZip IsOf ks fields) whole h) (sym so_far ∙ e)

-- ---- ranges

field_at : (kinds : List Kind) (list : List code.Field) (i : ℕ) (d : code.Field) (e : Field) → i < length kinds → i < length list → get_or (fields_shown kinds list) i e ≡ field_shown (get_or list i d)
field_at kinds list i d e below inside = get_or-take (length kinds) (map field_shown list) i e below ∙ get_or-map field_shown list i d e inside

pub out_of_range : (kinds : List Kind) (list : List code.Field) (i : ℕ) (d : Kind) (e : code.Field) → i < length kinds → i < length list
    → (IsWithinKind (get_or kinds i d) (field_shown (get_or list i e)) → ⊥) → AllZip IsWithinKind kinds (fields_shown kinds list) → ⊥
out_of_range kinds list i d e below inside beyond within =
    beyond (subst (IsWithinKind (get_or kinds i d)) (field_at kinds list i e (field_shown e) below inside) (all_zip_at IsWithinKind kinds (fields_shown kinds list) i d (field_shown e) within below))

pub in_range_more : (kinds : List Kind) (list : List code.Field) (i : ℕ) (d : Kind) (e : code.Field) → i < length kinds → i < length list
    → IsWithinKind (get_or kinds i d) (field_shown (get_or list i e)) → AllZip IsWithinKind (take i kinds) (take i (map field_shown list))
    → AllZip IsWithinKind (take (i + 1) kinds) (take (i + 1) (map field_shown list))
in_range_more kinds list i d e below inside within so_far =
    let long : length (map field_shown list) ≡ length list = length-map list field_shown in
    subst (λ ks. AllZip IsWithinKind ks (take (i + 1) (map field_shown list))) (sym (take_more kinds i d below))
    (subst (λ fs. AllZip IsWithinKind (take i kinds ++ get_or kinds i d ∷ []) fs) (sym (take_more (map field_shown list) i (field_shown e) (omega (arith, long, inside))))
    (all_zip_push IsWithinKind (take i kinds) (take i (map field_shown list)) (get_or kinds i d) (get_or (map field_shown list) i (field_shown e)) so_far
    (subst (IsWithinKind (get_or kinds i d)) (sym (get_or-map field_shown list i e (field_shown e) inside)) within)))
