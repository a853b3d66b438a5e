use Rattle.std.proofs.Common.{false, ap, sym, ◌∙◌}
use Rattle.std.specs.Map.{lookup}
use Rattle.std.specs.Str.{bytes_eq}
use Rattle.hub_local.specs.Representing.{Local}
use Rattle.hub_local.proofs.Asking.{no_name}
use Rattle.hub_local.proofs.AskingAbouts.{about_shown}
use Rattle.hub_local.proofs.local_desk.LocalDesk.about.Goals as goal

pub returns-in_default : goal.returns-in_default
returns-in_default c = no_name _ c.args.self.now _ false c.args.name.now _ _ c.self.view_is (sym c.self.view_is) c.in_default.ensures.value

pub returns : goal.returns
returns c =
    about_shown c.args.self.now c.args.name.now c.in-Some.fifodir.now _
    (c.in-Some.ensures.value ∙ ap (λ (z : Local). lookup (bytes_eq c.args.name.now) z.fifodirs) c.self.view_is) c.about.ensures
