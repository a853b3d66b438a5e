use Rattle.std.proofs.Common.{Vec, nat_eq, sym, ap, ◌∙◌}
use Rattle.std.specs.Option.{option_map}
use Rattle.std.specs.Global.{Global}
use Rattle.hub_record.specs.declared.Event.{Event}
use Rattle.hub_record.specs.Runs.{lists_of}
use Rattle.hub_record.proofs.Gathered.{lookup_lists, lists_set, appended_nowhere}
use Rattle.hub_record.proofs.runs.append.Goals as goal

pub returns-in_default : goal.returns-in_default
returns-in_default c = ap (λ m. lists_of m.entries) c.get_mut.follows.holds-at-none
    ∙ sym (appended_nowhere c.args.id _ _ (lookup_lists (nat_eq c.args.id) c.args.gathered.now.entries ∙ ap (option_map (λ (v : Vec Event Global). v.items)) (sym c.in_default.ensures.value)))

pub returns : goal.returns
returns c = ap lists_of (c.get_mut.follows.holds c.extend_from_slice.new.self).0
    ∙ lists_set c.args.id c.args.gathered.now.entries _ _ _ (sym c.in-Some.ensures.value) c.in_ok-extend_from_slice.ensures.items
