use Rattle.std.proofs.Common.{◌≤◌, ◌*◌, length, take}
use Rattle.hub_requests.specs.Texts.{numbers_text}
use Rattle.hub_requests.proofs.texts.Numbers.are_short.Given as goal

-- each number so far takes at most 21 bytes
abbrev pub invariant-loop-number : goal.invariant-loop-number
invariant-loop-number l = length (numbers_text (take l.number-index l.number-items)) ≤ 21 * l.number-index
