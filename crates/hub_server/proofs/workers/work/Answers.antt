use Rattle.hub_server.proofs.workers.work.Goals as goal

pub returns : goal.returns
returns g c = record { left = c.serve_on.new.gate; told = c.serve_on.new.journal; lasting = c.serve_on.ensures }
