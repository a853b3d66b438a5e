use Rattle.std.proofs.Common.{◌≡◌, length, string_bytes, sym, ap, ◌∙◌, subst, arith}
use Rattle.hub_listen.specs.Letters.{AreLetters}
use Rattle.hub_listen.specs.Alive.{AreAlive}
use Rattle.hub_listen.proofs.listener.Listener.new.Goals as goal

pub invariant_of-result : goal.invariant_of-result
invariant_of-result c =
    let (text, text_room) = c.in_ok-text.ensures.text in
    let (letters, letters_room) = c.in_ok-text.ensures.letters in
    let (hit, hit_room) = c.in_ok-text.ensures.hit in
    record {
      same = text ∙ sym letters;
      letters = subst AreLetters (sym text) (λ k d inside. absurd (omega (arith, inside)));
      states_room = c.in_ok-alive.ensures.room;
      alive = subst (λ t. AreAlive c.in_ok-pattern.pattern.nfa t (length t) c.in_ok-alive.alive.states.items) (sym text) c.in_ok-alive.ensures.alive;
      quiet = λ some. absurd (omega (arith, some, ap length text));
      short = omega (arith, ap length letters);
      hit_short = omega (arith, ap length hit);
      text_room = text_room;
      letters_room = letters_room;
      hit_room = hit_room;
    }
