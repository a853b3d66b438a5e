use Rattle.std.proofs.Common.{length}
use Rattle.hub_letters.specs.Flags.{flags_of}
use Rattle.hub_record.specs.World.{letters}
use Rattle.hub_fifodir.specs.Events.{is_closed}
use Rattle.hub_fifodir.proofs.Meeting.{remains}
use Rattle.hub_fifodir.proofs.fifodir.Fifodir.status.Goals as goal

pub returns-clause-remains : goal.returns-clause-remains
returns-clause-remains g c = let e = c.look.ensures in remains _ _ _ c.requires e.looks e.seen e.sound

pub returns-clause-status : goal.returns-clause-status
returns-clause-status g c = let t = (g.A.Seated.view c.look.new.self).sight in
    let u = c.unpack.ensures (length t.seen) (is_closed t.closed) (flags_of (letters t.seen)) c.look.ensures.word in (u.0, u.2, u.1)
