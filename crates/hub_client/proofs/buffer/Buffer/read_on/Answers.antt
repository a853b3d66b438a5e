use Rattle.std.proofs.Common.{◌≡◌, ◌≤◌, Err, length, subst, rules, arith}
use Rattle.std.proofs.lemmas.List.{places}
use Rattle.hub_io.proofs.Outcomes.{IfErr-known, OnErr-known}
use Rattle.hub_client.specs.Pending.{pending}
use Rattle.hub_client.specs.Passing.{ComesAs}
use Rattle.hub_client.proofs.Moving.{reads_nothing}
use Rattle.hub_client.proofs.Gathering.{grown, got_is, stayed, came_as}
use Rattle.hub_client.proofs.buffer.Buffer.read_on.Goals as goal

pub returns-in_err-n-clause-kept : goal.returns-in_err-n-clause-kept
returns-in_err-n-clause-kept g c =
    let buffer = c.args.self.now in
    let within : buffer.end ≤ length buffer.bytes.items = omega arith in
    OnErr-known _ (stayed buffer.bytes c.deref_mut.result.now c.read_once.new.bytes buffer.start buffer.end _ c.deref_mut.ensures.value (search (rules, places)) buffer.ordered within)

pub returns-in_err-n-clause-err : goal.returns-in_err-n-clause-err
returns-in_err-n-clause-err g c =
    let buffer = c.args.self.now in
    let within : buffer.end ≤ length buffer.bytes.items = omega arith in
    let e = c.in_err-n.field-0.0 in
    let is : c.from_residual.result ≡ Err e = search rules in
    let failed = c.in_err-n.ensures.err in
    IfErr-known _ c.from_residual.result e is
    (reads_nothing _ _ failed.0 (stayed buffer.bytes c.deref_mut.result.now c.read_once.new.bytes buffer.start buffer.end _ c.deref_mut.ensures.value (search (rules, places)) buffer.ordered within), failed.1)

pub returns-clause-ok : goal.returns-clause-ok
returns-clause-ok g c =
    let buffer = c.args.self.now in
    let within : buffer.end ≤ length buffer.bytes.items = omega arith in
    let n = c.in_ok-n.n in
    let got = c.read_once.new.bytes in
    let seen = c.deref_mut.result.now in
    let same : seen ≡ buffer.bytes.items = c.deref_mut.ensures.value in
    let read = c.in_ok-n.ensures.ok in
    came_as (pending buffer) _ got n read.2 (grown buffer.bytes seen got buffer.start buffer.end _ n same (search (rules, places)) buffer.ordered within read.0) read.0 read.3 read.1 c.of.result
    (subst (ComesAs c.of.result) (got_is buffer.bytes seen got c.deref.result.now buffer.end _ n same (search (rules, places)) within read.0 c.deref.ensures.value) c.of.ensures)
