use Rattle.std.proofs.Common.{◌≡◌, refl}
use Rattle.hub_front.proofs.Alike.{same_output, alike_of_function}
use Rattle.hub_front.proofs.places.same_input_same_output.Goals as goal

pub returns : goal.returns
returns g c = λ function old new new' bytes held holds holds' has has' n n' one other none none'.
    same_output g.D.Desk.asks g.D.Desk.ends (λ d e. d ≡ e) (alike_of_function g.D.Desk.asks function) old new new' bytes held holds holds' has has' n n' refl one other none none'
