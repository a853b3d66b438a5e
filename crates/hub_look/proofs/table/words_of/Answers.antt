use Rattle.std.proofs.Common.{ap, ◌∙◌}
use Rattle.hub_look.proofs.Judged.{words_more}
use Rattle.hub_look.proofs.table.words_of.Goals as goal

pub names-preserved : goal.names-preserved
names-preserved c =
    words_more (λ word. word.now) (λ name. name.bytes.items) c.args.names.now c.names.name-index c.name-item.result c.names.words.items _ c.as_str.result c.names-test.true c.names.invariant c.in_ok-push.ensures.items
    (c.as_str.ensures.value ∙ ap (λ name. name.bytes.items) c.name-item.is)
