use Rattle.hub_script.proofs.Replies.{one_output}
use Rattle.hub_script.proofs.scripting.input_has_one_output.Goals as goal

pub returns : goal.returns
returns c = one_output
