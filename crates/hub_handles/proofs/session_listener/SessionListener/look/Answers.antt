use Rattle.std.proofs.Common.{refl, sym, ◌∙◌, arith}
use Rattle.hub_handles.specs.declared.session_listener.SessionListener.{SessionListener}
use Rattle.hub_handles.proofs.Hearings.{hears_none, hears_looked, stops_idle, none_held}
use Rattle.hub_handles.proofs.session_listener.SessionListener.look.Goals as goal

pub returns-then-is_some-clause-quiet : goal.returns-then-is_some-clause-quiet
returns-then-is_some-clause-quiet c = hears_none c.args.self.now c.args.self.now.repeats (omega arith)

pub returns-clause-quiet : goal.returns-clause-quiet
returns-clause-quiet c =
    hears_looked c.args.self.now _ c.look.ensures.looked refl refl refl c.args.self.now.repeats (omega arith)

pub returns-clause-stopped : goal.returns-clause-stopped
returns-clause-stopped c =
    let new : SessionListener = record c.args.self.now { subscription = c.look.new.self; repeats = c.self-1.given.0 } in
    let none = none_held c.args.self.now.held (sym c.is_some.ensures ∙ c.if-is_some.false) in
    stops_idle c.args.self.now new c.look.result c.look.ensures.idle none none refl
