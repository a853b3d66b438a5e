use Rattle.std.proofs.Common.{refl, ap, subst, ◌∙◌}
use Rattle.hub_fifodir.specs.Passes.{IsUsage}
use Rattle.hub_fifodir.specs.declared.fifodir.Fifodir.{Fifodir}
use Rattle.hub_requests.specs.declared.reply.Reply.TheVariants.{About}
use Rattle.hub_names.specs.Says.{about_of}
use Rattle.hub_names.proofs.joined.Joined.about.Goals as goal

pub returns : goal.returns
returns g c = record {
  usage = c.usage-usage.result;
  used = subst (λ (dir : Fifodir). IsUsage dir c.usage-usage.result) c.deref.ensures c.usage-usage.ensures;
  said = ap About (c.about_of.ensures ∙ ap (λ (dir : Fifodir). about_of dir c.args.self.now.found.notifies c.usage-usage.result) c.deref-2.ensures);
  same = refl;
}
