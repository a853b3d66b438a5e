use Rattle.std.proofs.Common.{◌≡◌, ℕ, ◌≤◌, ◌↔◌, false, List, ◌++◌, length, take, string_bytes, sym, ap, ◌∙◌, subst, rules, arith, length-append}
use Rattle.std.proofs.lemmas.List.{take_all}
use Rattle.std.proofs.Math.Seq.{take-append_seam}
use Rattle.regex_dfa.specs.Moves.{Has}
use Rattle.regex_nfa.specs.declared.nfa.Nfa.{Nfa}
use Rattle.hub_listen.specs.Hit.{finds}
use Rattle.hub_listen.specs.Letters.{AreLetters}
use Rattle.hub_listen.specs.Alive.{AreAlive}
use Rattle.hub_listen.specs.States.{StateList}
use Rattle.hub_listen.proofs.listener.Listener.feed.Goals as goal

-- what was appended is cut off
cut_back : (old more all new : List ℕ) (before : ℕ) → new ≡ take before all → all ≡ old ++ more → before ≡ length old → new ≡ old
cut_back old more all new before e f size = e ∙ ap (take before) f ∙ ap (λ n. take n (old ++ more)) size ∙ take-append_seam old more

-- the whole piece was appended to the text as to the letters
grown_alike : (old new letters added piece : List ℕ) (room : ℕ) → new ≡ old ++ take room piece → length piece ≤ room → old ≡ letters → added ≡ letters ++ piece → new ≡ added
grown_alike old new letters added piece room e short same f = e ∙ ap (λ l. old ++ l) (take_all room piece short) ∙ ap (λ l. l ++ piece) same ∙ sym f

-- the kept states are those that were alive before
alive_again : (nfa : Nfa) (text before : List ℕ) (kept now : StateList) → now ≡ kept → ((q : ℕ) → Has kept.items q ↔ Has before q) → AreAlive nfa text (length text) before → AreAlive nfa text (length text) now.items
alive_again nfa text before kept now e same alive =
    subst (λ (s : StateList). AreAlive nfa text (length text) s.items) (sym e) (λ q. (λ has. (alive q).0 ((same q).0 has), λ enters. (same q).1 ((alive q).1 enters)))

pub invariant_of-self-then-piece-before : goal.invariant_of-self-then-piece-before
invariant_of-self-then-piece-before c =
    let i = c.self.invariant in
    let nfa = c.self.inside.pattern.nfa in
    let pattern = string_bytes c.self.inside.pattern.text in
    let text : string_bytes c.truncate.new.self ≡ string_bytes c.self.inside.text =
    cut_back _ _ _ _ _ c.truncate.ensures.bytes c.in-None.ensures.grown (omega (arith, c.len-before.ensures, ap length i.same)) in
    let alive = alive_again nfa _ _ _ c.go_back.new.self.states (c.go_back.ensures.states ∙ c.first_hit.ensures.kept) (c.keep_if.ensures.kept (search rules)) i.alive in
    record {
      same = text ∙ i.same;
      letters = subst AreLetters (sym text) i.letters;
      states_room = c.go_back.ensures.room;
      alive = subst (λ t. AreAlive nfa t (length t) c.go_back.new.self.states.items) (sym text) alive;
      quiet = subst (λ t. 1 ≤ length t → finds pattern t ≡ false) (sym text) i.quiet;
      short = i.short;
      hit_short = i.hit_short;
      text_room = omega (arith, c.truncate.ensures.capacity, c.first_hit.ensures.room);
      letters_room = i.letters_room;
      hit_room = i.hit_room;
    }

pub invariant_of-self-in-None : goal.invariant_of-self-in-None
invariant_of-self-in-None c =
    let i = c.self.invariant in
    let added = rw c.unwrap-in-None.ensures at c.extend_from_slice-in-None.ensures.items in
    record {
      same = grown_alike _ _ _ _ c.args.piece.now _ c.in-None.ensures.grown (omega (arith, c.if-piece-before.false, c.len-before.ensures, ap length i.same)) i.same added;
      letters = c.in-None.ensures.letters;
      states_room = c.in-None.ensures.states;
      alive = search rules;
      quiet = search rules;
      short = omega (arith, c.if-piece-before.false, c.len-before.ensures, i.short, ap length added, length-append c.self.inside.letters.items c.args.piece.now);
      hit_short = i.hit_short;
      text_room = c.in-None.ensures.room;
      letters_room = omega (arith, c.extend_from_slice-in-None.ensures.capacity, i.letters_room);
      hit_room = i.hit_room;
    }
