use Rattle.std.proofs.Common.{◌≡◌, ◌++◌, map, take}
use Rattle.hub_look.proofs.names.put_words.Given as goal

-- the words so far are behind the names
abbrev pub invariant-words : goal.invariant-words
invariant-words l = map (λ name. name.bytes.items) l.names.items ≡ map (λ name. name.bytes.items) l.fn.names.items ++ map (λ word. word.now) (take l.word-index l.words)
