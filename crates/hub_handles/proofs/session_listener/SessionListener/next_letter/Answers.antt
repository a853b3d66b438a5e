use Rattle.std.proofs.Common.{◌≡◌, None, refl}
use Rattle.hub_handles.proofs.Hearings.{gives_taken}
use Rattle.hub_handles.proofs.session_listener.SessionListener.next_letter.Goals as goal

pub returns-in-None-clause-gives : goal.returns-in-None-clause-gives
returns-in-None-clause-gives g c =
    let was : c.args.self.now.held ≡ None = cc in
    let is : c.take.new.self ≡ None = cc in
    gives_taken c.args.self.now _ c.take_letter.result was is refl c.take_letter.ensures
