use Rattle.std.proofs.Common.{◌<◌, ◌≤◌, length, refl, sym, arith}
use Rattle.hub_requests.specs.Wills.{wills_in}
use Rattle.hub_local.proofs.Willed.{leads_on, led}
use Rattle.hub_local.proofs.local_desk.wills.carry_out.Goals as goal

pub loop-place-init : goal.loop-place-init
loop-place-init c = λ model kept. (model, kept, refl)

pub loop-place-preserved : goal.loop-place-preserved
loop-place-preserved c = λ model kept.
    let wills = wills_in c.args.wills.now in
    let inside : c.loop-place.place < length wills = (let t = c.loop-place-test.true in let n = c.len-place-end.ensures in omega arith) in
    leads_on _ _ model wills c.loop-place.place (c.in-Some.name.now, c.in-Some.will) inside (sym c.in-Some.ensures) c.carry_out_one.ensures (c.loop-place.invariant model kept)

pub returns : goal.returns
returns c = λ model kept.
    let past : length (wills_in c.args.wills.now) ≤ c.loop-place.place = (let t = c.loop-place-test.false in let n = c.len-place-end.ensures in omega arith) in
    led _ model (wills_in c.args.wills.now) c.loop-place.place past (c.loop-place.invariant model kept)
