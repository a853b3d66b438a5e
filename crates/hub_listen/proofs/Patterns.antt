-- What the tree that is read from a text finds.
use Rattle.std.proofs.Common.{◌≡◌, ◌≢◌, ◌⊎◌, ℕ, ◌<◌, ◌≤◌, false, List, length, Option, None, Some, All, IfSome, IsSomeAnd, IsSome, is_some, rules, refl, sym, ap, subst, ◌∙◌, inl, inr, ⊎_elim, arith}
use Rattle.std.specs.Option.{option_map_or}
use Rattle.std.specs.Str.{IsAscii}
use Rattle.std.proofs.lemmas.Str.Ascii.{All-from_ascii}
use Rattle.regex.specs.Patterns.{Re, find_str, default_config, Config, Reads, SameCaptures}
use Rattle.regex_hir.specs.declared.hir.Hir.{Hir}
use Rattle.regex_hir.specs.Meaning.{meaning}
use Rattle.regex_syntax.specs.Brackets.{Nested}
use Rattle.regex_syntax.specs.Grammar.{Names, group_count}
use Rattle.regex_syntax.proofs.CapturesLemmas.{spans, find_str_alike}
use Rattle.regex_syntax.proofs.Written.{is_some-option_map}
use Rattle.regex.specs.Failures.{IsOfParser, of_compiler}
use Rattle.regex.specs.declared.error.Error.{Error}
use Rattle.regex_compile.specs.declared.error.Error as compiler
use Rattle.regex_compile.specs.declared.error.Error.TheVariants as compiled
use Rattle.regex_syntax.specs.Verdict.{Refuses}
use Rattle.regex_syntax.specs.declared.error.Error as parser
use Rattle.regex_syntax.specs.declared.error.ErrorKind.{ErrorKind}
use Rattle.regex_syntax.specs.declared.error.ErrorKind.TheVariants as kind
use Rattle.hub_listen.specs.Hit.{finds, IsPattern}
use Rattle.hub_listen.specs.Refused.{IsNoPattern, IsRefusedAs, told_as}

pub bytes_of : (bs : List ℕ) → All (λ b. b < 128) bs → All (λ x. x < 256) bs
bytes_of bs h = λ k d within. omega (arith, h k d within)

by_reading : (a : Re) (most : ℕ) (names : Names) (hay : List ℕ) → All (λ x. x < 256) hay → (o : Option (Nested Re × Names))
    → IsSomeAnd o (λ (re, found). (re.depth ≤ most) × SameCaptures a re.value × (names ≡ found) × (group_count a ≤ length names))
    → is_some (find_str a hay 0) ≡ option_map_or (λ r. is_some (find_str r.0.value hay 0)) o false
by_reading a most names hay bytes None h = absurd h
by_reading a most names hay bytes (Some r) h =
    sym (is_some-option_map spans (find_str a hay 0)) ∙ ap is_some (find_str_alike a r.0.value h.1 hay bytes 0)
    ∙ is_some-option_map spans (find_str r.0.value hay 0)

pub reads-finds : (config : Config) (source : List ℕ) (hir : Hir) (names : Names) → Reads config source hir names → config ≡ default_config
    → (hay : List ℕ) → IsAscii hay → is_some (find_str (meaning hir) hay 0) ≡ finds source hay
unfolding finds Reads
reads-finds config source hir names reads same hay ascii =
    let reads' : Reads default_config source hir names = subst (λ c. Reads c source hir names) same reads in
    by_reading (meaning hir) _ names hay (bytes_of hay (All-from_ascii hay ascii)) _ reads'

-- ---- which texts are patterns

IsSome-from_IsSomeAnd : (o : Option (Nested Re × Names)) (P : Nested Re × Names → Type 0) → IsSomeAnd o P → IsSome o
IsSome-from_IsSomeAnd None P h = absurd h
IsSome-from_IsSomeAnd (Some r) P h = search rules

pub reads-pattern : (config : Config) (source : List ℕ) (hir : Hir) (names : Names) → Reads config source hir names → config ≡ default_config → IsPattern source
unfolding Reads
reads-pattern config source hir names reads same =
    IsSome-from_IsSomeAnd _ _ (subst (λ c. Reads c source hir names) same reads)

-- ---- why a text is none

is_memory : (k : ErrorKind) → (k ≡ kind.OutOfMemory) ⊎ (k ≢ kind.OutOfMemory)
is_memory kind.OutOfMemory = inl refl
is_memory k = inr (λ e. cc)

refuses-none : (source : List ℕ) (k : ErrorKind) → Refuses default_config source k → k ≢ kind.OutOfMemory → IsNoPattern source
unfolding Refuses
refuses-none source k refuses other =
    ⊎_elim (λ lacks. absurd (other lacks))
    (λ why. ⊎_elim (λ none. subst (λ (o : Option (Nested Re × Names)). IfSome o (λ (re, _). default_config.nest_limit < re.depth)) (sym none) tt) (λ deep. deep.1) why)
    refuses

pub reads-refused : (config : Config) (source : List ℕ) (given : parser.Error) (error : Error) → Refuses config source given.kind → config ≡ default_config
    → IsOfParser given error → IsRefusedAs source (told_as error)
reads-refused config source given error refuses same told =
    ⊎_elim (λ (lacks : given.kind ≡ kind.OutOfMemory). subst (λ (e : Error). IsRefusedAs source (told_as e)) (sym (told.0 lacks)) tt)
    (λ (other : given.kind ≢ kind.OutOfMemory). subst (λ (e : Error). IsRefusedAs source (told_as e)) (sym (told.1 other))
    (refuses-none source given.kind (subst (λ (c : Config). Refuses c source given.kind) same refuses) other))
    (is_memory given.kind)

pub compiled-refused : (source : List ℕ) (given : compiler.Error) → IsPattern source → IsRefusedAs source (told_as (of_compiler given))
compiled-refused source compiled.TooBig is = is
compiled-refused source compiled.Malformed is = is
compiled-refused source compiled.OutOfMemory is = tt
