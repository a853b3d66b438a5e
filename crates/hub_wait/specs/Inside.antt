-- What the fields of a watch say, and the fields that say so.
use Rattle.hub_wait.specs.Watching.{Watching}
use Rattle.hub_wait.specs.declared.watch.Watch.TheInside.{Inside}

abbrev pub watching_of : Inside → Watching
watching_of w = record { want = w.want; notifies = w.notifies; since = w.since; at = w.at; flags = w.flags; fell = w.fell; ended = w.ended }

abbrev pub inside_of : Watching → Inside
inside_of w = record { want = w.want; notifies = w.notifies; since = w.since; at = w.at; flags = w.flags; fell = w.fell; ended = w.ended }
