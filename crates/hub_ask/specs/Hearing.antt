-- The line of a reply.
use Rattle.std.specs.Prelude.{ℕ, List}
use Rattle.hub_ask.specs.declared.heard.Heard.{Heard}

abbrev pub line_of : Heard → List ℕ
line_of heard = heard.line.items
