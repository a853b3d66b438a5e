use Rattle.std.proofs.Common.{◌≡◌, ◌+◌, ◌<◌, ◌≤◌, ℕ, length, sym, ap, subst, ◌∙◌, arith}
use Rattle.hub_requests.specs.Wills.{wills_in}
use Rattle.hub_names.specs.Wills.{counted}
use Rattle.hub_names.proofs.LastWords.{Leads, counted_few, leads_on, led}
use Rattle.hub_names.proofs.fifodirs.Fifodirs.carry_out.Goals as goal
use Rattle.hub_names.proofs.fifodirs.Fifodirs.carry_out.Goals.{then-carry_out_one, else-carry_out_one}

pub loop-place-preserved : goal.loop-place-preserved
loop-place-preserved g c =
    let wills = wills_in c.args.wills.now in
    let one = c.carry_out_one.result in
    let lost = c.loop-place.lost in
    let few = c.loop-place.invariant.few in
    let inside : c.loop-place.place < length wills = (let t = c.loop-place-test.true in let n = c.len-place-end.ensures in omega arith) in
    let count : c.if-carry_out_one.lost ≡ lost + counted one = elim c.if-carry_out_one.branch [
      | then-carry_out_one w ↦ w.lost-is ∙ ap (λ b. lost + counted b) (sym w.if-carry_out_one.true)
      | else-carry_out_one w ↦ w.lost-is ∙ (let none : lost ≡ lost + 0 = omega arith in none) ∙ ap (λ b. lost + counted b) (sym w.if-carry_out_one.false)
    ] in
    let small = counted_few one in
    record {
      few = omega (arith, few, count, small);
      leads = subst (λ (n : ℕ). Leads c.args.self.now c.carry_out_one.new.self wills (c.loop-place.place + 1) n) (sym count)
          (leads_on c.args.self.now c.loop-place.self c.carry_out_one.new.self wills c.loop-place.place lost (c.in-Some.name.now, c.in-Some.will) one inside (sym c.in-Some.ensures) c.carry_out_one.ensures c.loop-place.invariant.leads);
    }

pub returns : goal.returns
returns g c =
    let past : length (wills_in c.args.wills.now) ≤ c.loop-place.place = (let t = c.loop-place-test.false in let n = c.len-place-end.ensures in omega arith) in
    led c.args.self.now c.loop-place.self (wills_in c.args.wills.now) c.loop-place.place c.loop-place.lost past c.loop-place.invariant.leads
