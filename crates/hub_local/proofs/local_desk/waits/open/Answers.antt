use Rattle.std.proofs.Common.{ap, subst, sym, ◌∙◌, Err, Ok, Bool, List, ℕ}
use Rattle.hub_record.specs.declared.Status.{Status}
use Rattle.hub_wait.specs.Watching.{new_watching}
use Rattle.hub_local.specs.Opening.{OpensPost}
use Rattle.hub_local.specs.declared.local_desk.LocalFifodir.{LocalFifodir}
use Rattle.hub_requests.specs.declared.reply.Refusal.TheVariants as no
use Rattle.hub_local.proofs.Posts.{opens_nowhere, opens_one, opens_refused}
use Rattle.hub_local.proofs.local_desk.waits.open.Goals as goal

pub returns-in_default : goal.returns-in_default
returns-in_default c = λ model kept.
    subst (λ (es : List (List ℕ × LocalFifodir)). OpensPost c.args.want c.args.name.now model (Err no.Name) es) (sym (ap (λ m. m.entries) c.get_mut.follows.holds-at-none))
    (opens_nowhere c.args.want c.args.name.now _ model kept (sym c.in_default.ensures.value))

pub returns-in-Ok : goal.returns-in-Ok
returns-in-Ok c = λ model kept.
    let status : Status = record { number = c.end.result; flags = c.flags.result; closed = c.closed.result } in
    subst (λ (es : List (List ℕ × LocalFifodir)). OpensPost c.args.want c.args.name.now model (Ok (record { id = c.in-Ok.id; watch = c.new-watch.result })) es) (sym (c.get_mut.follows.holds _).0)
    (opens_one c.args.want c.args.name.now _ model kept c.in-Some.fifodir.now c.subscribe.new.self (sym c.in-Some.ensures.value) (c.in-Ok.id, c.in-Ok._mark)
    status c.new-watch.result c.in-Ok.ensures.reply c.in-Ok.ensures.after c.end.ensures c.flags.ensures c.closed.ensures
    (c.new-watch.ensures ∙ ap (λ (b : Bool). new_watching c.args.want b status) c.unwrap_or.ensures))

pub returns-in-Err : goal.returns-in-Err
returns-in-Err c = λ model kept.
    subst (λ (es : List (List ℕ × LocalFifodir)). OpensPost c.args.want c.args.name.now model (Err c.from.result) es) (sym (c.get_mut.follows.holds _).0)
    (opens_refused c.args.want c.args.name.now _ model kept c.in-Some.fifodir.now c.subscribe.new.self (sym c.in-Some.ensures.value) c.in-Err.error c.from.result
    c.in-Err.ensures.reply c.in-Err.ensures.err c.from.ensures)
