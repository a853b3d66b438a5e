use Rattle.hub_shared.proofs.Sound.{passes_are_sound}
use Rattle.hub_shared.proofs.laws.passes_are_sound.Goals as goal

pub returns : goal.returns
returns c = passes_are_sound
