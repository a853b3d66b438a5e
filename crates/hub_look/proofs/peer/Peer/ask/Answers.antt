use Rattle.std.proofs.Common.{inl, inr, sym, ◌∙◌, subst}
use Rattle.std.proofs.lemmas.Bool.{cases_Bool, false≢true}
use mathlib.Core.Logic.{∥∥₁_map}
use Rattle.hub_look.specs.Looks.{OnlyLooks}
use Rattle.hub_look.proofs.Asks.{looked}
use Rattle.hub_look.proofs.peer.Peer.ask.Goals as goal

pub invariant_of-self : goal.invariant_of-self
invariant_of-self g c =
    let peer = c.args.self.now in
    elim (cases_Bool peer.client.is_broken) [
      | inl broken ↦
          let b = c.ask.ensures.broken broken in
          record {
            only = subst (λ it. ∥ OnlyLooks (g.SW.Write.contents peer.begun.value) it ∥₁) (sym b.1) peer.only;
            whole = λ e. absurd (false≢true (sym e ∙ b.3));
          }
      | inr whole ↦
          let after = ∥∥₁_map (peer.whole whole) (λ it. looked _ _ _ _ _ _ _ c.ask.result c.requires it (λ lf. (c.ask.ensures.cut lf).1) c.ask.ensures.ok c.ask.ensures.err) in
          record { only = ∥∥₁_map after (λ it. it.only); whole = λ e. ∥∥₁_map after (λ it. it.whole e) }
    ]
