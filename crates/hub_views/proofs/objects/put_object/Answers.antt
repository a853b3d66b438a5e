use Rattle.hub_views.proofs.Columns.{whole_object}
use Rattle.hub_views.proofs.objects.put_object.Goals as goal

pub returns : goal.returns
returns c =
    whole_object c.args.name.now c.args.it _ _ _ _ _ _ _ c.push_str-2.result c.in_ok-push_str.ensures.bytes c.in_ok-put_text.ensures c.in_ok-put_states.ensures c.in_ok-put_counts.ensures c.in_ok-put_limits.ensures c.push_str-2.ensures.bytes
