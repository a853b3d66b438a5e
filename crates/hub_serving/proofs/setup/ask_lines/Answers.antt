use Rattle.std.proofs.Common.{[], ◌∷◌, ◌++◌, length, refl, ap, arith, length-append}
use Rattle.hub_serving.proofs.CarriedOut.{all_asked, asked_then, begins_left, none_asked, one_more, refused_among, refused_last}
use Rattle.hub_serving.proofs.setup.ask_lines.Goals as goal

pub lines-init : goal.lines-init
lines-init g c = ([], record { carried = none_asked _ _; all = refl; number = refl; few = omega arith })

pub lines-preserved : goal.lines-preserved
lines-preserved g c =
    let (done, so_far) = c.lines.invariant in
    let line = c.in-Some.line.now in
    let rest = c.in-Some.rest.now in (
      done ++ line ∷ [],
      record {
        carried = asked_then so_far.carried c.in_default-ask_line.ensures.ok;
        all = one_more _ done _ line rest so_far.all c.in-Some.ensures;
        number = omega (arith, so_far.number, length-append done (line ∷ []));
        few = omega (arith, so_far.few, ap length c.in-Some.ensures.whole, length-append line (10 ∷ rest));
      },
    )

pub returns-in-Err : goal.returns-in-Err
returns-in-Err g c =
    let (done, so_far) = c.lines.invariant in
    refused_among _ done c.in-Some.line.now _ _ _ (begins_left _ done _ _ _ so_far.all c.in-Some.ensures) so_far.number so_far.carried c.in-Err.ensures.err.0 c.in-Err.ensures.err.1

pub returns-in-Ok : goal.returns-in-Ok
returns-in-Ok g c =
    let (done, so_far) = c.lines.invariant in
    all_asked _ done c.lines.left.now so_far.all c.in_default.ensures so_far.carried c.in-Ok.ensures.ok

pub returns-in-Err-ask_line : goal.returns-in-Err-ask_line
returns-in-Err-ask_line g c =
    let (done, so_far) = c.lines.invariant in
    refused_last _ done c.lines.left.now _ _ so_far.all c.in_default.ensures so_far.number so_far.carried c.in-Err-ask_line.ensures.err.0 c.in-Err-ask_line.ensures.err.1
