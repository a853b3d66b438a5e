use Rattle.std.proofs.Common.{refl}
use Rattle.hub_look.specs.Stops.{IsOwnFault}
use Rattle.hub_look.proofs.Judged.{own_memory, stops_so}
use Rattle.hub_look.proofs.Refusals.{refused_there}
use Rattle.hub_look.proofs.asking.ask_or_tell.Goals as goal

pub returns-in-No-clause-ok : goal.returns-in-No-clause-ok
returns-in-No-clause-ok g c =
    refused_there _ _ _ _ _ _ _ _ c.args.request c.args.name.now _ c.in-No.refusal c.in_ok-heard.ensures.ok c.in-No.ensures c.in_ok-tell_refusal.ensures.ok

pub returns-in_err-heard-clause-err : goal.returns-in_err-heard-clause-err
returns-in_err-heard-clause-err g c = stops_so IsOwnFault _ c.in_err-heard.field-0.0 c.from_residual.ensures.1 c.in_err-heard.ensures.err

pub returns-in_err-tell_refusal-clause-err : goal.returns-in_err-tell_refusal-clause-err
returns-in_err-tell_refusal-clause-err g c = own_memory _ c.from_residual-in_err-tell_refusal.ensures.1

pub returns-clause-ok : goal.returns-clause-ok
returns-clause-ok g c = record { answered = c.in_ok-heard.ensures.ok; noted = refl; faults = refl }
