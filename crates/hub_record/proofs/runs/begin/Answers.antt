use Rattle.std.proofs.Common.{nat_eq, ap, ◌∙◌}
use Rattle.indexmap.proofs.CallerLemmas.{insert_entry-new}
use Rattle.hub_record.specs.Runs.{lists_of}
use Rattle.hub_record.proofs.Gathered.{none_lists, lists-push}
use Rattle.hub_record.proofs.runs.begin.Goals as goal

pub returns-in-Ok : goal.returns-in-Ok
returns-in-Ok c = λ none.
    ap lists_of (c.in-Ok.ensures.entries ∙ insert_entry-new nat_eq c.args.gathered.now _ _ (none_lists (nat_eq c.args.id) _ none))
    ∙ lists-push c.args.gathered.now.entries _ _ c.new.ensures.items
