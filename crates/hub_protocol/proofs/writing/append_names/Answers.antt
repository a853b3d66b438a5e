use Rattle.std.proofs.Common.{◌≡◌, ◌++◌, ◌+◌, ◌∷◌, ℕ, List, length, take, ap, sym, ◌∙◌, length-append, rules, arith}
use Rattle.hub_requests.specs.Names.{names_text}
use Rattle.hub_requests.proofs.NamesText.{names_text-more, length-names_text-part}
use Rattle.hub_protocol.proofs.Appending.{next_appended, refused_there}
use Rattle.hub_protocol.proofs.writing.append_names.Goals as goal

pub returns-in_err-append_name : goal.returns-in_err-append_name
returns-in_err-append_name c =
    let names = c.args.names.now in
    let i = c.loop-name.name-index in
    let so_far = c.loop-name.invariant in
    refused_there c.args.out.now c.loop-name.out c.append_name.new.out c.from_residual.result _ (names_text (take i names)) _ _ (names_text names) so_far.appended so_far.grown so_far.capacity
    (names_text-more names i c.name-item.result c.loop-name-test.true ∙ ap (λ (n : List ℕ). names_text (take i names) ++ 32 ∷ n) (sym c.name-item.is))
    (length-names_text-part names (i + 1) (omega (arith, c.loop-name-test.true))) c.in_err-append_name.ensures (search rules)

pub loop-name-preserved : goal.loop-name-preserved
loop-name-preserved c =
    let names = c.args.names.now in
    let i = c.loop-name.name-index in
    let start = c.args.out.now.items in
    let step = c.in_ok-append_name.ensures in
    let whole : c.append_name.new.out.items ≡ start ++ names_text (take (i + 1) names) =
    next_appended start (names_text (take i names)) (32 ∷ c.name-item.result) _ c.loop-name.out.items _ c.loop-name.invariant.appended
    (names_text-more names i c.name-item.result c.loop-name-test.true ∙ ap (λ (n : List ℕ). names_text (take i names) ++ 32 ∷ n) (sym c.name-item.is)) step.ok in
    record {
      appended = whole;
      grown = omega (arith, ap length whole, length-append start (names_text (take (i + 1) names)));
      capacity = omega (arith, step.capacity, c.loop-name.invariant.capacity);
    }
