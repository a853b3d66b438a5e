use Rattle.std.proofs.Common.{◌∷◌, ap, sym, ◌∙◌}
use Rattle.std.specs.Fmt.{decimal}
use Rattle.hub_requests.specs.Texts.{text_of_flag, word_of_kind, word_of_policy}
use Rattle.hub_protocol.proofs.ReplyReadings.{behind_first, from_subscriptions, from_waiting}
use Rattle.hub_protocol.proofs.about.about_in.Goals as goal

pub returns-in_err-notifies : goal.returns-in_err-notifies
returns-in_err-notifies c = rw c.from_residual.ensures (λ it h e. c.in_err-notifies.ensures it.notifies (from_waiting it) (behind_first _ _ _ _ e))

pub returns-in_err-waiting : goal.returns-in_err-waiting
returns-in_err-waiting c = rw c.from_residual-in_err-waiting.ensures (λ it h e.
    let a = sym c.in_ok-notifies.ensures ∙ behind_first _ _ _ _ e in
    c.in_err-waiting.ensures it.waiting it.total it.policy (from_subscriptions it) h.waiting h.total (behind_first _ _ _ _ a))

pub returns-in_err-subscriptions : goal.returns-in_err-subscriptions
returns-in_err-subscriptions c = rw c.from_residual-in_err-subscriptions.ensures (λ it h e.
    let a = sym c.in_ok-notifies.ensures ∙ behind_first _ _ _ _ e in
    let b = sym c.in_ok-waiting.ensures.2 ∙ behind_first _ _ _ _ a in
    c.in_err-subscriptions.ensures it.subscriptions it.publishers it.pending h.subscriptions h.publishers h.pending (behind_first _ _ _ _ (behind_first _ _ _ _ (behind_first _ _ _ _ b))))

pub returns : goal.returns
returns c = (
  record {
    waiting = c.in_ok-waiting.ensures.0;
    total = c.in_ok-waiting.ensures.1;
    subscriptions = c.in_ok-subscriptions.ensures.0;
    publishers = c.in_ok-subscriptions.ensures.1;
    pending = c.in_ok-subscriptions.ensures.2;
  },
  ap (λ ps. word_of_kind c.args.kind ∷ ps)
      (c.in_ok-notifies.ensures ∙ ap (λ ps. text_of_flag c.in_ok-notifies.notifies ∷ ps)
      (c.in_ok-waiting.ensures.2 ∙ ap (λ ps. decimal c.in_ok-waiting.waiting ∷ decimal c.in_ok-waiting.total ∷ word_of_policy c.in_ok-waiting.policy ∷ ps)
      c.in_ok-subscriptions.ensures.3)),
)
