-- What people are told of a service that a hub refuses something of.
use Rattle.std.specs.Prelude.{ℕ, List, ◌++◌, codes}
use Rattle.hub_requests.specs.Texts.{word_of}
use Rattle.hub_requests.specs.declared.reply.Refusal.{Refusal}
use Rattle.hub_requests.specs.declared.reply.Refusal.TheVariants.{Right, Name, Kind, Closed}

-- why it is refused
abbrev pub reason_of : Refusal → List ℕ
reason_of Right = codes "this socket only looks: ask at the hub's own socket"
reason_of Name = codes "no such service"
reason_of Kind = codes "not a service"
reason_of Closed = codes "closed"
reason_of refusal = codes "no " ++ word_of refusal
