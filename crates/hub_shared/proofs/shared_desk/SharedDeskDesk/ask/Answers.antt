use Rattle.std.proofs.Common.{subst, sym}
use Rattle.hub_requests.specs.declared.request.Request.{Request}
use Rattle.hub_shared.specs.Desks.{Asks}
use Rattle.hub_shared.proofs.shared_desk.SharedDeskDesk.ask.Goals as goal

pub returns-in-Dir : goal.returns-in-Dir
returns-in-Dir g c =
    subst (λ (request : Request). Asks {P = g.row.P.Denot} c.args.self.now request c.make_plain.result c.make_plain.new.self) (sym c.in-Dir.is) c.make_plain.ensures

pub returns-in-Svc : goal.returns-in-Svc
returns-in-Svc g c =
    subst (λ (request : Request). Asks {P = g.row.P.Denot} c.args.self.now request c.make_service.result c.make_service.new.self) (sym c.in-Svc.is) c.make_service.ensures

pub returns-in-Listen : goal.returns-in-Listen
returns-in-Listen g c =
    subst (λ (request : Request). Asks {P = g.row.P.Denot} c.args.self.now request c.listen.result c.listen.new.self) (sym c.in-Listen.is) c.listen.ensures
