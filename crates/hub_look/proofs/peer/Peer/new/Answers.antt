use Rattle.std.proofs.Common.{ap, sym, ◌∙◌}
use Rattle.hub_look.proofs.Asks.{asks_same, only_whole}
use Rattle.hub_look.proofs.peer.Peer.new.Goals as goal

pub invariant_of-result : goal.invariant_of-result
invariant_of-result g c =
    let whole = asks_same _ _ (ap g.SW.Write.contents c.of-begun.ensures ∙ sym (ap (λ it. g.SW.Write.contents it.sender) c.new.ensures)) in
    record { only = ∣ only_whole _ _ whole ∣₁; whole = λ _. ∣ whole ∣₁ }
