-- Why there is no listener for a text.
use Rattle.std.specs.Prelude.{ℕ, ◌<◌, List, IfSome, chars}
use Rattle.regex.specs.Patterns.{default_config}
use Rattle.regex.specs.declared.error.Error.{Error}
use Rattle.regex.specs.declared.error.Error.TheVariants.{Syntax, CompiledTooBig, Internal, OutOfMemory}
use Rattle.regex_syntax.specs.Grammar.{read}
use Rattle.hub_listen.specs.Hit.{IsPattern}
use Rattle.hub_listen.specs.declared.listener.ListenError.{ListenError}
use Rattle.hub_listen.specs.declared.listener.ListenError.TheVariants.{Pattern, Large, Memory}

-- the text is no pattern, or its parts nest deeper than those of a pattern may
abbrev pub IsNoPattern : List ℕ → Type 0
IsNoPattern text = IfSome (read default_config (chars text)) (λ (re, _). default_config.nest_limit < re.depth)

-- the text is no pattern, or a pattern that is too large; if memory runs out, it isn't known which
abbrev pub IsRefusedAs : List ℕ → ListenError → Type 0
IsRefusedAs text Pattern = IsNoPattern text
IsRefusedAs text Large = IsPattern text
IsRefusedAs text Memory = Unit {0}

-- as what an error of `regex` is told
abbrev pub told_as : Error → ListenError
told_as (Syntax e) = Pattern
told_as CompiledTooBig = Large
told_as Internal = Large
told_as OutOfMemory = Memory
