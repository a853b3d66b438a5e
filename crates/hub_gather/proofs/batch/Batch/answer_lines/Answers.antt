use Rattle.std.proofs.Common.{◌≡◌, ℕ, ◌+◌, ◌≤◌, List, [], ◌∷◌, ◌++◌, false, length, refl, sym, ap, ◌∙◌, arith, length-append}
use Rattle.std.proofs.lemmas.Option.{MatchOption-at_none}
use Rattle.hub_io.specs.Lines.{has_lf}
use Rattle.hub_io.proofs.Outcomes.{OnErr-known}
use Rattle.hub_io.proofs.Told.{Grows-none, Rises-trans}
use Rattle.hub_front.specs.Pieces.{cut, complete_pieces, piece_left}
use Rattle.hub_front.proofs.Cuts.{done_few, left-begins, done_more, done_before, done_all}
use Rattle.hub_gather.proofs.Gathered.{gathers_none, gathers_from, gathers_to, gathers_same, gathers_then, loses_from, loses_same}
use Rattle.hub_gather.proofs.Lost.{loses_among}
use Rattle.hub_gather.proofs.Passed.{works_none, works_from, works_to, works_then, out_from, out_then}
use Rattle.hub_gather.proofs.batch.Batch.answer_lines.Goals as goal

abbrev one : List ℕ → List (List ℕ)
one line = line ∷ []

pub lines-init : goal.lines-init
lines-init g c = ([], record { gathers = gathers_none _ _ _ _; all = refl; line = refl; count = omega arith; quiet = Grows-none _; paces = works_none _ _ _ })

pub answer_line-requires : goal.answer_line-requires
answer_line-requires g c =
    let (done, so_far) = c.lines.invariant in
    let all = complete_pieces c.args.bytes.now c.args.self.now.line.items in
    let more : length done + 1 ≤ length c.args.bytes.now = done_before all done _ _ _ _ _ (done_few c.args.bytes.now c.args.self.now.line.items) so_far.all c.in-Some.ensures in
    omega (arith, c.requires, so_far.count, c.keep.ensures.count)

pub returns-in_err-answer_line-clause-err : goal.returns-in_err-answer_line-clause-err
returns-in_err-answer_line-clause-err g c =
    let (done, so_far) = c.lines.invariant in
    OnErr-known _ (loses_among _ done _ _ _ _ so_far.all c.in-Some.ensures so_far.gathers
    (loses_from c.keep.ensures.held (loses_same (ap one c.keep.ensures.line) c.in_err-answer_line.ensures.err)))

pub returns-in_err-answer_line-clause-lost : goal.returns-in_err-answer_line-clause-lost
returns-in_err-answer_line-clause-lost g c =
    let (done, so_far) = c.lines.invariant in
    OnErr-known _ (out_then so_far.paces (out_from c.keep.ensures.count c.keep.ensures.held c.in_err-answer_line.ensures.lost))

pub lines-preserved : goal.lines-preserved
lines-preserved g c =
    let (done, so_far) = c.lines.invariant in
    let line = c.lines.self.line.items in
    let rest = c.in-Some.rest.now in
    let piece = cut (line ++ c.in-Some.end.now) in
    let more = done ++ piece ∷ [] in (
      more,
      record {
        gathers = gathers_then so_far.gathers
            (gathers_from c.keep.ensures.held (gathers_same (ap one c.keep.ensures.line) c.in_ok-answer_line.ensures.ok));
        all = done_more _ done _ _ _ _ so_far.all c.in-Some.ensures ∙ ap (λ l. more ++ complete_pieces rest l) (sym c.in_ok-answer_line.ensures.line);
        line = ap (piece_left rest) c.in_ok-answer_line.ensures.line ∙ sym (left-begins _ _ rest line c.in-Some.ensures) ∙ so_far.line;
        count = omega (arith, so_far.count, c.keep.ensures.count, c.in_ok-answer_line.ensures.count, length-append done (piece ∷ []));
        quiet = Rises-trans _ _ _ 0 so_far.quiet c.in_ok-answer_line.ensures.told;
        paces = works_then so_far.paces (works_from c.keep.ensures.count c.keep.ensures.held c.in_ok-answer_line.ensures.paces);
      },
    )

pub returns-clause-ok : goal.returns-clause-ok
returns-clause-ok g c =
    let (done, so_far) = c.lines.invariant in
    let none : has_lf c.lines.left.now ≡ false = MatchOption-at_none _ _ c.in_default.is c.first_line.ensures in
    gathers_to (sym c.keep-2.ensures.held) (gathers_same (sym (done_all _ done c.lines.left.now c.lines.self.line.items so_far.all none)) so_far.gathers)

pub returns-clause-count : goal.returns-clause-count
returns-clause-count g c =
    let (done, so_far) = c.lines.invariant in
    let none : has_lf c.lines.left.now ≡ false = MatchOption-at_none _ _ c.in_default.is c.first_line.ensures in
    omega (arith, so_far.count, c.keep-2.ensures.count, ap length (done_all _ done c.lines.left.now c.lines.self.line.items so_far.all none))

pub returns-clause-paces : goal.returns-clause-paces
returns-clause-paces g c =
    let (done, so_far) = c.lines.invariant in
    works_to (sym c.keep-2.ensures.count) (sym c.keep-2.ensures.held) so_far.paces
