-- What a session lends of the fifodirs that it keeps.
use Rattle.std.specs.Prelude.{ℕ, List, Result, IfErr}
use Rattle.std.specs.Borrow.{LendsSoOk, MutBor, Fml}
use Rattle.hub_requests.specs.declared.reply.Refusal.{Refusal}
use Rattle.hub_names.specs.declared.fifodirs.Fifodirs.{Fifodirs}
use Rattle.hub_names.specs.declared.hub.Hub.{Hub}
use Rattle.hub_names.specs.declared.joined.Joined.{Joined}
use Rattle.hub_names.specs.contracts.fifodirs.Fifodirs.{the_row}
use Rattle.hub_names.specs.contracts.joined.Joined.{the_row as joined_row}
use Rattle.hub_names.specs.Fifodirs.{IsFinding, Keeps}

-- what is kept under the name is lent, and in the end is kept there as it then is; where it isn't found, nothing has changed
abbrev pub LendsJoined : Hub → MutBor Fifodirs → List ℕ → Result (MutBor Joined) Refusal → Fml
LendsJoined hub fs name joined = LendsSoOk the_row joined_row fs joined (λ new j. Keeps fs.now name j new) (λ new. IfErr joined (IsFinding hub fs.now name new))
