use Rattle.hub_requests.specs.declared.reply.Reply.TheVariants.{State}
use Rattle.hub_ask.proofs.Tellings.{no_state}
use Rattle.hub_ask.proofs.state.State.of.Goals as goal

pub returns-in_err-read : goal.returns-in_err-read
returns-in_err-read c = rw c.from_residual.ensures (λ it h. c.in_err-read.ensures (State it) h)

pub returns-in_default : goal.returns-in_default
returns-in_default c = no_state c.args.line.now c.in_ok-read.read c.in_ok-read.ensures c.in_default.not-State
