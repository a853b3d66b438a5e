use Rattle.std.proofs.Common.{codes}
use Rattle.hub_arguments.specs.Words.{BeginsWith}
use Rattle.hub_arguments.proofs.command_line.own_words.Given as goal

-- the first word is the program's name
abbrev pub invariant-words : goal.invariant-words
invariant-words g l = BeginsWith (λ word. word.bytes.items) (codes "ftrighub") l.words.items
