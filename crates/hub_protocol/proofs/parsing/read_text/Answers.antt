use Rattle.std.proofs.Common.{◌≡◌, ◌∷◌, ℕ, List, sym, ap, subst, arith}
use Rattle.hub_protocol.specs.Table.{IsWord, word_of}
use Rattle.hub_protocol.specs.Spelling.{fields_of}
use Rattle.hub_protocol.specs.Lines.{last_shown, pieces_of}
use Rattle.hub_protocol.specs.Reading.{first_word}
use Rattle.hub_protocol.proofs.FormLines.{first_word-fields}
use Rattle.hub_protocol.proofs.FormRequests.{beyond}
use Rattle.hub_protocol.proofs.LineForms.{few_kinds, line_beyond, line_form, line_within, no_form_fields, no_form_last, reading_in_range, reading_of}
use Rattle.hub_protocol.proofs.Rows.{word_of_row}
use Rattle.hub_protocol.proofs.parsing.read_text.Goals as goal

first : (line word : List ℕ) (more : List (List ℕ)) → fields_of line ≡ word ∷ more → IsWord word → IsWord (first_word line)
first line word more e is = subst IsWord (sym (first_word-fields line word more e)) is

pub returns-in_default-clause-reading : goal.returns-in_default-clause-reading
returns-in_default-clause-reading c =
    let e = first_word-fields c.args.text.now c.first_piece.result.0.now (pieces_of c.first_piece.result.1) c.first_piece.ensures in
    (c.requires, λ is. c.in_default.ensures (subst IsWord e is))

pub read_fields-requires-clause-kinds : goal.read_fields-requires-clause-kinds
read_fields-requires-clause-kinds c =
    let row = c.in-Some.ensures in
    few_kinds c.first_piece.result.0.now c.in-Some.kinds.now row.0 (ap (λ r. r.kinds) row.1)

pub returns-in_default-read_fields-clause-reading : goal.returns-in_default-read_fields-clause-reading
returns-in_default-read_fields-clause-reading c =
    let row = c.in-Some.ensures in
    let text = c.args.text.now in
    let word = c.first_piece.result.0.now in
    let pieces = pieces_of c.first_piece.result.1 in (
      c.requires,
      first text word pieces c.first_piece.ensures row.0,
      no_form_fields text word c.in-Some.kinds.now pieces (ap (λ r. r.kinds) row.1) c.first_piece.ensures c.in_default-read_fields.ensures,
    )

pub returns-in_default-last_of-clause-reading : goal.returns-in_default-last_of-clause-reading
returns-in_default-last_of-clause-reading c =
    let row = c.in-Some.ensures in
    let text = c.args.text.now in
    let word = c.first_piece.result.0.now in
    let pieces = pieces_of c.first_piece.result.1 in
    let read = c.in-Some-read_fields.ensures in (
      c.requires,
      first text word pieces c.first_piece.ensures row.0,
      no_form_last text word c.in-Some.kinds.now c.in-Some.ending pieces (pieces_of c.in-Some-read_fields.rest) _
          (ap (λ r. r.kinds) row.1) (ap (λ r. r.ending) row.1) c.first_piece.ensures read.each read.pieces c.in_default-last_of.ensures,
    )

pub are_within-requires : goal.are_within-requires
are_within-requires c =
    let row = c.in-Some.ensures in
    let few = few_kinds c.first_piece.result.0.now c.in-Some.kinds.now row.0 (ap (λ r. r.kinds) row.1) in
    omega (arith, few, c.in-Some-read_fields.ensures.whole)

pub returns-then-not-are_within-clause-reading : goal.returns-then-not-are_within-clause-reading
returns-then-not-are_within-clause-reading c =
    let row = c.in-Some.ensures in
    let ends = c.in-Some-last_of.ensures in
    let kinds = ap (λ r. r.kinds) row.1 in
    let said = word_of_row c.first_piece.result.0.now _ row.0 row.1 in
    let has = line_form c.args.text.now c.first_piece.result.0.now (word_of c.in-Some.verb) _ (last_shown c.in-Some-last_of.last) _ _ c.first_piece.result.1 _ said row.0 kinds (ap (λ r. r.ending) row.1) c.first_piece.ensures c.in-Some-read_fields.ensures ends.0 ends.1 in
    (c.requires, _, has, beyond _ has.formed (line_beyond c.first_piece.result.0.now (word_of c.in-Some.verb) _ (last_shown c.in-Some-last_of.last) _ said kinds c.if-not-are_within.ensures))

pub request_of-requires-clause-formed : goal.request_of-requires-clause-formed
request_of-requires-clause-formed c =
    let row = c.in-Some.ensures in
    let ends = c.in-Some-last_of.ensures in
    let said = word_of_row c.first_piece.result.0.now _ row.0 row.1 in
    (line_form c.args.text.now c.first_piece.result.0.now (word_of c.in-Some.verb) _ (last_shown c.in-Some-last_of.last) _ _ c.first_piece.result.1 _ said row.0 (ap (λ r. r.kinds) row.1) (ap (λ r. r.ending) row.1) c.first_piece.ensures c.in-Some-read_fields.ensures ends.0 ends.1).formed

pub request_of-requires-clause-within : goal.request_of-requires-clause-within
request_of-requires-clause-within c =
    let row = c.in-Some.ensures in
    let said = word_of_row c.first_piece.result.0.now _ row.0 row.1 in
    line_within c.first_piece.result.0.now (word_of c.in-Some.verb) _ (last_shown c.in-Some-last_of.last) _ said (ap (λ r. r.kinds) row.1) c.if-not-are_within.ensures

pub returns-clause-reading : goal.returns-clause-reading
returns-clause-reading c =
    let row = c.in-Some.ensures in
    let ends = c.in-Some-last_of.ensures in
    let kinds = ap (λ r. r.kinds) row.1 in
    let said = word_of_row c.first_piece.result.0.now _ row.0 row.1 in
    let has = line_form c.args.text.now c.first_piece.result.0.now (word_of c.in-Some.verb) _ (last_shown c.in-Some-last_of.last) _ _ c.first_piece.result.1 _ said row.0 kinds (ap (λ r. r.ending) row.1) c.first_piece.ensures c.in-Some-read_fields.ensures ends.0 ends.1 in
    reading_of c.args.text.now _ c.request_of.result c.requires has (line_within c.first_piece.result.0.now (word_of c.in-Some.verb) _ (last_shown c.in-Some-last_of.last) _ said kinds c.if-not-are_within.ensures) c.request_of.ensures.ok c.request_of.ensures.err

pub returns-clause-in_range : goal.returns-clause-in_range
returns-clause-in_range c = reading_in_range c.args.text.now c.request_of.result (returns-clause-reading c)
