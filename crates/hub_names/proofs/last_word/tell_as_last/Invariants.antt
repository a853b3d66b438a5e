use Rattle.hub_fifodir.specs.declared.publisher.Publisher.{Publisher}
use Rattle.hub_fifodir.specs.Passes.{IsPublisherOf, Remains, publisher_view}
use Rattle.hub_names.specs.Wills.{says_as_last}
use Rattle.hub_names.proofs.last_word.tell_as_last.Given as goal

-- from whichever publisher the first try went on
abbrev pub invariant-loop-tries : goal.invariant-loop-tries
invariant-loop-tries g l = record {
  of : IsPublisherOf l.dir l.me;
  remains : (p : Publisher) → Remains l.dir (publisher_view p) (publisher_view l.initial.me) → Remains l.dir (publisher_view p) (publisher_view l.me);
  said : (p : Publisher) → Remains l.dir (publisher_view p) (publisher_view l.initial.me) → says_as_last l.state p l.initial.told l.initial.me → says_as_last l.state p l.told l.me;
}
