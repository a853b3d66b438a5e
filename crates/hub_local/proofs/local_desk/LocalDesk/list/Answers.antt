use Rattle.std.proofs.Common.{List, ℕ, ap, ◌∙◌}
use Rattle.hub_requests.specs.Listings.{names_reply}
use Rattle.hub_local.proofs.Asking.{answers_here}
use Rattle.hub_local.proofs.AskingFifodirs.{names_listed}
use Rattle.hub_local.proofs.local_desk.LocalDesk.list.Goals as goal

pub returns-in-Ok : goal.returns-in-Ok
returns-in-Ok c =
    answers_here c.self.view_is (names_listed _ c.args.from c.in-Ok.reply
    (c.in-Ok.ensures.ok ∙ ap (λ (names : List (List ℕ)). names_reply names c.args.from) (c.as_slice.ensures ∙ c.keys.ensures.rest)))
