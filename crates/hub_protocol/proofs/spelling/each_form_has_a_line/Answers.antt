use Rattle.std.proofs.Common.{refl}
use Rattle.hub_protocol.specs.Spelling.{form_of, spelling}
use Rattle.hub_protocol.proofs.FormLines.{first_word-form, text_of_form}
use Rattle.hub_protocol.proofs.FormRequests.{formed}
use Rattle.hub_protocol.proofs.spelling.each_form_has_a_line.Goals as goal

pub returns-clause-formed : goal.returns-clause-formed
returns-clause-formed c = formed

pub returns-clause-word : goal.returns-clause-word
returns-clause-word c = λ form formed. first_word-form (spelling form) form (record { formed = formed; spelled = refl })

pub returns-clause-within : goal.returns-clause-within
returns-clause-within c = λ request formed within short. record {
  text = text_of_form (form_of request) formed short;
  form = record { formed = formed; spelled = refl };
  within = within;
}

pub returns-clause-beyond : goal.returns-clause-beyond
returns-clause-beyond c = λ form formed beyond short.
    (text_of_form form formed short, form, record { formed = formed; spelled = refl }, beyond)
