use Rattle.std.proofs.Common.{◌+◌, ap, ◌∙◌, arith}
use Rattle.hub_record.proofs.Places.{got_later, changed_later, changed_last}
use Rattle.hub_record.proofs.counts.one_more.Goals as goal

pub returns-then-place-len-clause-counts : goal.returns-then-place-len-clause-counts
returns-then-place-len-clause-counts c =
    let long = c.len.ensures.len in
    let above = c.if-place-len.true in
    changed_last (λ n. n + 1) c.counts.inside.first c.counts.inside.later.capacity c.args.place _ c.counts.inside.later.items _ _ _ (omega arith) c.requires.place c.counts.view_is c.more_at_last.ensures.there c.more_at_last.ensures.count

pub returns-clause-there : goal.returns-clause-there
returns-clause-there c =
    let long = c.len.ensures.len in
    let within = c.if-place-len.false in
    c.more_at.ensures.there ∙ ap (λ n. n + 1) (got_later c.counts.inside.first c.counts.inside.later.capacity c.args.place c.counts.inside.later.items c.counts.inside.last _ c.if-place-eq0.false (omega arith) c.counts.view_is)

pub returns-clause-counts : goal.returns-clause-counts
returns-clause-counts c =
    let long = c.len.ensures.len in
    let within = c.if-place-len.false in
    changed_later (λ n. n + 1) c.counts.inside.first c.counts.inside.later.capacity c.args.place c.counts.inside.later.items c.counts.inside.last _ _ c.if-place-eq0.false (omega arith) c.counts.view_is c.more_at.ensures.counts
