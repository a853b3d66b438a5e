use Rattle.std.proofs.Common.{◌≢◌, Ok, Err, refl}
use Rattle.hub_requests.specs.declared.request.Request.{Request}
use Rattle.hub_requests.specs.declared.reply.Refusal.TheVariants.{Memory}
use Rattle.hub_protocol.specs.Spelling.{form_of, spelling}
use Rattle.hub_protocol.proofs.FormLines.{text_of_form}
use Rattle.hub_protocol.proofs.FormRequests.{formed}
use Rattle.hub_protocol.proofs.OneReading.{one_reading}
use Rattle.hub_protocol.proofs.spelling.each_request_is_read_as_itself.Goals as goal

not_memory : (request : Request) → Ok request ≢ Err Memory
not_memory request e = cc

pub returns : goal.returns
returns c = λ request read sound within short some reading.
    let form = formed request sound in
    one_reading (spelling (form_of request)) read (Ok request) some (not_memory request) reading (record {
      text = text_of_form (form_of request) form short;
      form = record { formed = form; spelled = refl };
      within = within;
    })
