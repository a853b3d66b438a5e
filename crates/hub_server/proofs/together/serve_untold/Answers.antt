use Rattle.hub_server.proofs.together.serve_untold.Goals as goal

pub returns : goal.returns
returns g c = record {
  read = c.serve_session.ensures.read;
  written = c.serve_session.ensures.written;
  ended = c.serve_session.ensures.ended;
}
