use Rattle.std.proofs.Common.{◌≡◌, ◌+◌, ◌-◌, ◌++◌, take, drop, ap, ◌∙◌, arith}
use Rattle.std.proofs.lemmas.List.{length-drop, take_rest}
use Rattle.hub_record.proofs.Copies.{drop-parts, copied_out}
use Rattle.hub_record.proofs.ring.copy_slices.Goals as goal

pub returns-clause-copied : goal.returns-clause-copied
returns-clause-copied c =
    let front = c.as_slices.result.0.now in
    let back = c.as_slices.result.1.now in
    let p = c.min-in_front.ensures in
    let f = c.min-from_front.ensures in
    let b = c.min-from_back.ensures in
    let l = length-drop c.min-in_front.result front in
    let m = length-drop (c.args.place - c.min-in_front.result) back in
    let parts : drop c.min-in_front.result front ++ drop (c.args.place - c.min-in_front.result) back ≡ drop c.args.place c.args.ring.now.items =
    (λ i. drop (p i) front ++ drop (c.args.place - p i) back) ∙ drop-parts front back c.args.place ∙ ap (drop c.args.place) c.as_slices.ensures in
    copied_out (drop c.min-in_front.result front) (drop (c.args.place - c.min-in_front.result) back) c.args.out.now _ _ c.min-from_front.result c.min-from_back.result
    (omega arith) (λ some. omega arith) (c.copy_from_slice.ensures.after ∙ ap (take c.min-from_front.result) (take_rest front c.min-in_front.result))
    (c.copy_from_slice-2.ensures.after ∙ ap (take c.min-from_back.result) (take_rest back (c.args.place - c.min-in_front.result)))
    ∙ ap (λ z. take (c.min-from_front.result + c.min-from_back.result) z ++ drop (c.min-from_front.result + c.min-from_back.result) c.args.out.now) parts
