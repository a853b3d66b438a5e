use Rattle.std.proofs.Common.{◌≡◌, ◌∙◌, ◌&&◌, [], ◌∷◌, true, ap, arith}
use Rattle.std.proofs.lemmas.Bool.Decides.{nat_tests}
use Rattle.regex_class.specs.Ranges.{in_ranges}
use Rattle.regex_class.proofs.RangesLemmas.{in_ranges-cons, in_ranges-nil, in_range_tells}
use Rattle.hub_listen.proofs.cut.letters_of.Goals as goal

pub returns : goal.returns
returns c = λ byte letter.
    let within : in_ranges ((33, 126) ∷ []) byte ≡ true =
    grind (arith, nat_tests, in_ranges-cons (33, 126) [] byte, in_ranges-nil byte, in_range_tells (33, 126) byte) in
    c.in_ok-intersection.ensures byte (omega arith)
    ∙ ap (λ b. b && in_ranges c.args.class.now.ranges.items byte) (c.in_ok-letters.ensures byte (omega arith) ∙ within)
