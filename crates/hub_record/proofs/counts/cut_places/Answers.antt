use Rattle.std.proofs.Common.{drop, sym, ap, ◌∙◌, arith}
use Rattle.circular_buffer.specs.Buffer.{buffer}
use Rattle.hub_record.proofs.Places.{cut_first, to_last}
use Rattle.hub_record.proofs.counts.cut_places.Goals as goal

pub returns-then-count-len : goal.returns-then-count-len
returns-then-count-len c = cut_first c.counts.inside.first _ _ c.args.count _ _ _ _ c.if-count-eq0.false c.counts.view_is (sym c.in-Some.ensures) c.cut.ensures

pub keep_last-requires : goal.keep_last-requires
keep_last-requires c =
    let long = c.len.ensures.len in
    let above = c.if-count-len.false in
    (to_last c.counts.inside.first _ c.counts.inside.later.capacity c.args.count c.counts.inside.later.items _ _ (omega arith) c.requires c.counts.view_is c.in-Some-last.is).1

pub returns : goal.returns
returns c =
    let long = c.len.ensures.len in
    let above = c.if-count-len.false in
    let at = (to_last c.counts.inside.first _ c.counts.inside.later.capacity c.args.count c.counts.inside.later.items _ _ (omega arith) c.requires c.counts.view_is c.in-Some-last.is).0 in
    c.keep_last.ensures ∙ ap (λ n. buffer (drop n c.args.counts.now.items) c.args.counts.now.capacity) (sym at)
