use Rattle.hub_protocol.proofs.FormRequests.{remade}
use Rattle.hub_protocol.proofs.OneReading.{one_form, one_request}
use Rattle.hub_protocol.proofs.spelling.no_line_is_spelled_twice.Goals as goal

pub returns : goal.returns
returns c = record { forms = one_form; requests = one_request; remade = remade }
