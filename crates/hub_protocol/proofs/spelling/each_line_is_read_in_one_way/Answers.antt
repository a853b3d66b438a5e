use Rattle.hub_protocol.proofs.OneReading.{one_reading}
use Rattle.hub_protocol.proofs.spelling.each_line_is_read_in_one_way.Goals as goal

pub returns : goal.returns
returns c = one_reading
