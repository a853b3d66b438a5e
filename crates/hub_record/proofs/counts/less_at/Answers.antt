use Rattle.std.proofs.Common.{◌≡◌, ◌-◌, set, get_or, ap, sym, arith}
use Rattle.std.proofs.lemmas.Option.{slice_get-get_or}
use Rattle.circular_buffer.specs.Buffer.{buffer}
use Rattle.hub_record.proofs.Places.{count_at}
use Rattle.hub_record.proofs.counts.less_at.Goals as goal
use Rattle.hub_record.proofs.counts.less_at.Goals.{In-Some}

held : (c : In-Some) → c.in-Some.count.now ≡ get_or c.args.counts.now.items c.args.place 0
held c = count_at c.args.counts.now.items c.args.place c.in-Some.count.now c.in-Some.ensures.value

pub unreachable-requires : goal.unreachable-requires
unreachable-requires c =
    let there = slice_get-get_or c.args.counts.now.items c.args.place 0 c.requires.place in
    let none = c.in_default.ensures.value in
    cc

pub overflow_sub-count : goal.overflow_sub-count
overflow_sub-count c = let is = held (goal.at.overflow_sub-count c).In-Some in omega (arith, c.requires)

pub returns-clause-left : goal.returns-clause-left
returns-clause-left c = ap (λ n. n - 1) (held (goal.at.returns-clause-left c).In-Some)

pub returns-clause-counts : goal.returns-clause-counts
returns-clause-counts c =
    ap (λ n. buffer (set c.args.counts.now.items c.args.place (n - 1)) c.args.counts.now.capacity) (held (goal.at.returns-clause-counts c).In-Some)
