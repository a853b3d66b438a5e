use Rattle.hub_views.proofs.LinesSoFar.{all_lines, next_line, no_lines}
use Rattle.hub_views.proofs.events.lines_of.Goals as goal

pub letters-init : goal.letters-init
letters-init c = no_lines c.args.form c.args.stamp.now c.args.name.now c.args.first c.args.letters.now _ c.new-lines.ensures.items

pub letters-preserved : goal.letters-preserved
letters-preserved c =
    next_line c.args.form c.args.stamp.now c.args.name.now c.letters.next c.number_after-next.result c.args.letters.now c.letters.letter-index c.letters.lines.items _ _ c.letters-test.true c.letters.invariant c.in_ok-put_letter.ensures c.number_after-next.ensures

pub returns : goal.returns
returns c = all_lines c.args.form c.args.stamp.now c.args.name.now c.letters.next c.args.letters.now c.letters.letter-index c.letters.lines.items _ c.letters-test.false c.letters.invariant
