use Rattle.std.proofs.Common.{Ok, Err, inl, inr, refl}
use Rattle.hub_dialing.proofs.calling.call.Goals as goal

pub returns-in-Err : goal.returns-in-Err
returns-in-Err g c = inl (c.in-Err.fault, refl, c.in-Err.ensures, refl, refl)

pub returns-in-Ok-relay : goal.returns-in-Ok-relay
returns-in-Ok-relay g c = inr (
  Ok c.in-Ok-relay.count,
  refl,
  record {
    receive = c.in-Ok.both.0;
    receives = c.relay.new.receiver;
    send = c.in-Ok.both.1;
    sends = c.relay.new.sender;
    connected = c.in-Ok.ensures;
    finished = c.in-Ok-relay.ensures.finished;
    stopped = tt;
    memory = c.in-Ok-relay.ensures.memory;
    reads = c.in-Ok-relay.ensures.reads;
    input_faults = c.in-Ok-relay.ensures.input_faults;
    output_faults = c.in-Ok-relay.ensures.output_faults;
    send_faults = c.in-Ok-relay.ensures.send_faults;
    receive_faults = c.in-Ok-relay.ensures.receive_faults;
  },
)

pub returns : goal.returns
returns g c = inr (
  Err c.in-Err-relay.error,
  refl,
  record {
    receive = c.in-Ok.both.0;
    receives = c.relay.new.receiver;
    send = c.in-Ok.both.1;
    sends = c.relay.new.sender;
    connected = c.in-Ok.ensures;
    finished = tt;
    stopped = c.in-Err-relay.ensures.stopped;
    memory = c.in-Err-relay.ensures.memory;
    reads = c.in-Err-relay.ensures.reads;
    input_faults = c.in-Err-relay.ensures.input_faults;
    output_faults = c.in-Err-relay.ensures.output_faults;
    send_faults = c.in-Err-relay.ensures.send_faults;
    receive_faults = c.in-Err-relay.ensures.receive_faults;
  },
)
