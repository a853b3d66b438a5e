use Rattle.std.proofs.Common.{◌≡◌, ◌-◌, ◌≤◌, false, ◌++◌, [], ◌∷◌, ◌∙◌, take, length, string_bytes, sym, ap, subst, arith, length-append}
use Rattle.std.specs.String.{string_len}
use Rattle.std.proofs.lemmas.List.{take_all}
use Rattle.std.proofs.lemmas.List.Elements.{All-push}
use Rattle.hub_letters.specs.declared.mode.TheConstants.{MOST_GATHERED}
use Rattle.hub_listen.specs.Hit.{finds}
use Rattle.hub_listen.specs.Letters.{IsLetter, AreLetters}
use Rattle.hub_listen.specs.Alive.{AreAlive}
use Rattle.hub_listen.proofs.Prefixes.{grown_more, fails_more, length_grown}
use Rattle.hub_listen.proofs.Found.{AreAlive-pushed, heard_match, heard_nothing}
use Rattle.hub_listen.proofs.search.first_hit.Goals as goal

pub returns-then-len-ge-MOST_GATHERED-clause-none : goal.returns-then-len-ge-MOST_GATHERED-clause-none
returns-then-len-ge-MOST_GATHERED-clause-none c =
    let full = length_grown _ _ c.args.piece.now c.loop-i.i c.loop-i-test.true c.loop-i.invariant.grown in
    λ j some within short. c.loop-i.invariant.none j some (omega arith)

pub returns-then-len-ge-MOST_GATHERED-clause-grown : goal.returns-then-len-ge-MOST_GATHERED-clause-grown
returns-then-len-ge-MOST_GATHERED-clause-grown c =
    let full = length_grown _ _ c.args.piece.now c.loop-i.i c.loop-i-test.true c.loop-i.invariant.grown in
    let room : c.loop-i.i ≡ MOST_GATHERED - string_len c.args.text.now = omega arith in
    c.loop-i.invariant.grown ∙ ap (λ n. string_bytes c.args.text.now ++ take n c.args.piece.now) room

pub hear_last-requires-clause-some : goal.hear_last-requires-clause-some
hear_last-requires-clause-some c =
    omega (arith, ap length (c.as_bytes.ensures.value ∙ c.as_str.ensures.value ∙ c.append.ensures.bytes), length-append (string_bytes c.loop-i.text) (c.index-piece-i.result ∷ []))

pub hear_last-requires-clause-alive : goal.hear_last-requires-clause-alive
hear_last-requires-clause-alive c =
    AreAlive-pushed _ _ _ _ _ c.loop-i.invariant.letters (c.as_bytes.ensures.value ∙ c.as_str.ensures.value ∙ c.append.ensures.bytes) c.loop-i.invariant.alive

pub returns-then-hear_last-clause-hit : goal.returns-then-hear_last-clause-hit
returns-then-hear_last-clause-hit c =
    let full = length_grown _ _ c.args.piece.now c.loop-i.i c.loop-i-test.true c.loop-i.invariant.grown in
    let grown = grown_more _ _ _ c.args.piece.now c.loop-i.i _ c.loop-i-test.true c.loop-i.invariant.grown c.index-piece-i.is c.append.ensures.bytes in
    let letters : AreLetters (string_bytes c.append.new.text) = subst AreLetters (sym c.append.ensures.bytes) (All-push IsLetter _ _ c.loop-i.invariant.letters c.append.ensures.letter) in record {
      some = omega arith;
      within = omega arith;
      short = omega arith;
      found = heard_match c.args.pattern.now.nfa _ c.args.pattern.now.searches _ _ (c.as_bytes.ensures.value ∙ c.as_str.ensures.value ∙ grown)
          (subst AreLetters grown letters) (c.hear_last.ensures.found c.if-hear_last.true);
      least = λ j some lt. c.loop-i.invariant.none j some (omega arith);
    }

pub returns-then-hear_last-clause-letters : goal.returns-then-hear_last-clause-letters
returns-then-hear_last-clause-letters c = subst AreLetters (sym c.append.ensures.bytes) (All-push IsLetter _ _ c.loop-i.invariant.letters c.append.ensures.letter)

pub loop-i-preserved : goal.loop-i-preserved
loop-i-preserved c =
    let full = length_grown _ _ c.args.piece.now c.loop-i.i c.loop-i-test.true c.loop-i.invariant.grown in
    let grown = grown_more _ _ _ c.args.piece.now c.loop-i.i _ c.loop-i-test.true c.loop-i.invariant.grown c.index-piece-i.is c.append.ensures.bytes in
    let shown = c.as_bytes.ensures.value ∙ c.as_str.ensures.value in
    let none = heard_nothing c.args.pattern.now.nfa (string_bytes c.args.pattern.now.text) c.args.pattern.now.searches _ c.as_bytes.result.now
    (string_bytes c.append.new.text) _ c.loop-i.invariant.letters c.append.ensures.letter c.loop-i.invariant.quiet (shown ∙ c.append.ensures.bytes)
    (c.hear_last.ensures.none_before c.if-hear_last.false) (c.hear_last.ensures.none_behind c.if-hear_last.false) c.append.ensures.bytes in record {
      grown = grown;
      short = omega arith;
      letters = subst AreLetters (sym c.append.ensures.bytes) (All-push IsLetter _ _ c.loop-i.invariant.letters c.append.ensures.letter);
      room = omega arith;
      states = c.hear_last.ensures.room;
      kept = c.hear_last.ensures.kept ∙ c.loop-i.invariant.kept;
      alive = subst (λ t. AreAlive c.args.pattern.now.nfa t (length t) c.hear_last.new.self.states.items) shown (c.hear_last.ensures.alive c.if-hear_last.false);
      quiet = λ some. none;
      none = fails_more (λ j. finds (string_bytes c.args.pattern.now.text) (string_bytes c.args.text.now ++ take j c.args.piece.now)) c.loop-i.i
          c.loop-i.invariant.none (subst (λ t. finds (string_bytes c.args.pattern.now.text) t ≡ false) grown none);
    }

pub returns-clause-grown : goal.returns-clause-grown
returns-clause-grown c =
    let piece = c.args.piece.now in
    let all : take c.loop-i.i piece ≡ piece = take_all c.loop-i.i piece (omega arith) in
    let size = ap length c.loop-i.invariant.grown ∙ length-append (string_bytes c.args.text.now) (take c.loop-i.i piece) in
    let room : length piece ≤ MOST_GATHERED - string_len c.args.text.now = omega (arith, size, ap length all) in
    c.loop-i.invariant.grown ∙ ap (λ l. string_bytes c.args.text.now ++ l) (all ∙ sym (take_all _ piece room))
