use Rattle.std.proofs.Common.{◌≡◌, refl}
use Rattle.hub_front.proofs.Alike.{same_run, alike_of_function}
use Rattle.hub_front.proofs.places.same_lines_same_replies.Goals as goal

pub returns : goal.returns
returns g c = λ function old new new' lines replies replies' none none' run run'.
    same_run g.D.Desk.asks (λ d e. d ≡ e) (alike_of_function g.D.Desk.asks function) old old new new' lines replies replies' refl none none' run run'
