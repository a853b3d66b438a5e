use Rattle.std.proofs.Common.{Ok, inl, refl, sym, subst, ap, ◌∙◌}
use Rattle.hub_names.specs.Hubs.{IsFoundIn}
use Rattle.hub_names.proofs.KeptFifodirs.{finds, joins_new, misses}
use Rattle.hub_names.proofs.fifodirs.Fifodirs.join.Goals as goal

pub returns-in-None-clause-ok : goal.returns-in-None-clause-ok
returns-in-None-clause-ok g c =
    let from = IsFoundIn c.args.hub.now c.args.name.now in
    let here : from c.in-Some.found = finds c.args.hub.now c.args.name.now c.find-look.result.0 c.find-look.result.1 c.in-Some.found (c.in-Ok.is ∙ ap Ok c.in-Some.is) c.find-look.ensures.found in
    let put = c.in-Ok-insert.ensures.updates in
    joins_new c.args.hub.now c.args.self.now _ c.args.name.now c.in-Ok-copy.key c.new.result c.requires c.new.ensures.silent (subst from (sym c.new.ensures.found) here) c.in-Ok-copy.ensures put.1 put.2

pub returns-in_default-found-clause-err : goal.returns-in_default-found-clause-err
returns-in_default-found-clause-err g c = record {
  unknown = c.requires;
  before = refl;
  refused = inl (
    refl,
    misses c.args.hub.now c.args.name.now c.find-look.result.0 c.find-look.result.1 _ refl c.find-look.ensures.at (c.in-Ok.is ∙ ap Ok c.in_default-found.is) c.find-look.ensures.seen,
  );
}
