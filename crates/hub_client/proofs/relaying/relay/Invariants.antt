use Rattle.std.proofs.Common.{◌+◌, ◌*◌, length}
use Rattle.hub_io.specs.declared.reading.TheConstants.{CHUNK}
use Rattle.hub_io.specs.Telling.{Rises}
use Rattle.hub_client.specs.Pending.{pending}
use Rattle.hub_client.specs.UnderWay.{IsUnderWay}
use Rattle.hub_client.proofs.relaying.relay.Given as goal

-- as many replies were written as lines were sent, and there was no fault
abbrev pub invariant-turns : goal.invariant-turns
invariant-turns g l = record {
  under_way : IsUnderWay (g.R.Read.remaining l.fn.input) (g.R.Read.remaining l.input) (g.SW.Write.contents l.fn.sender) (g.SW.Write.contents l.sender)
      (g.SR.Read.remaining l.fn.receiver) (g.SR.Read.remaining l.receiver) (g.W.Write.contents l.fn.output) (g.W.Write.contents l.output)
      (g.R.Source.reads l.fn.input) (g.R.Source.reads l.input) (g.SR.Source.reads l.fn.receiver) (g.SR.Source.reads l.receiver)
      (pending l.lines) (pending l.replies) l.count l.left;
  no_input_fault : Rises (g.R.Source.faults l.fn.input) (g.R.Source.faults l.input) 0;
  no_output_fault : Rises (g.W.Sink.faults l.fn.output) (g.W.Sink.faults l.output) 0;
  no_send_fault : Rises (g.SW.Sink.faults l.fn.sender) (g.SW.Sink.faults l.sender) 0;
  no_receive_fault : Rises (g.SR.Source.faults l.fn.receiver) (g.SR.Source.faults l.receiver) 0;
}

abbrev pub decreases-turns : goal.decreases-turns
decreases-turns g l = l.left * CHUNK + length (pending l.lines)
