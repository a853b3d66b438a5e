-- Runs of a desk.
use Rattle.std.proofs.Common.{◌≡◌, ◌≢◌, ℕ, Bool, true, false, List, [], ◌∷◌, ◌++◌, Option, None, Some, option_to_list, refl, sym, ap, subst, ◌∙◌}
use Rattle.std.proofs.lemmas.List.Elements.{All-head, All-tail}
use Rattle.hub_local.specs.DeskAnswers.{answer}
use Rattle.hub_local.specs.RunAnswers.{answer_to, answers, desk_after, pattern_in, first_read, later_reads, AreReads}
use Rattle.hub_local.specs.Representing.{RepresentsDesk, RunsAnswer, IsReadAs, over, asked}
use Rattle.hub_requests.specs.declared.reply.Reply.{Reply}
use Rattle.hub_requests.specs.declared.reply.Reply.TheVariants.{No}
use Rattle.hub_requests.specs.declared.reply.Refusal.TheVariants.{Memory}

-- with the yes or no for a request with this text before those for the later requests
with_read : Bool → Option (List ℕ) → List Bool → List Bool
with_read read None reads = reads
with_read read (Some text) reads = read ∷ reads

first_with_read : (read : Bool) (pattern : Option (List ℕ)) (reads : List Bool) (reply : Reply) → IsReadAs read pattern reply → first_read pattern (with_read read pattern reads) ≡ read
unfolding with_read
first_with_read read None reads reply is = sym is
first_with_read read (Some text) reads reply is = refl

later_with_read : (read : Bool) (pattern : Option (List ℕ)) (reads : List Bool) → later_reads pattern (with_read read pattern reads) ≡ reads
unfolding with_read
later_with_read read None reads = refl
later_with_read read (Some text) reads = refl

are_with_read : (read : Bool) (pattern : Option (List ℕ)) (reads : List Bool) (texts : List (List ℕ)) (reply : Reply) → reply ≢ No Memory → IsReadAs read pattern reply → AreReads reads texts
    → AreReads (with_read read pattern reads) (option_to_list pattern ++ texts)
unfolding with_read
are_with_read read None reads texts reply real is rest = rest
are_with_read true (Some text) reads texts reply real is rest = (is refl real, rest)
are_with_read false (Some text) reads texts reply real is rest = rest

pub runs_answer : RunsAnswer
runs_answer old new requests replies desk (over local) real st = record { reads = []; are_reads = tt; said = refl; represents = st }
runs_answer old new requests replies desk (asked first mid last request rest reply others here later) real st =
    let is_real = All-head (λ x. x ≢ No Memory) reply others real in
    let now = here.answers.answered is_real desk st in
    let then = runs_answer mid last rest others (answer desk here.read request).desk later (All-tail (λ x. x ≢ No Memory) reply others real) now.represents in
    let reads = with_read here.read (pattern_in request) then.reads in
    let one : answer_to desk reads request ≡ answer desk here.read request =
    ap (λ (read : Bool). answer desk read request) (first_with_read here.read (pattern_in request) then.reads reply here.is_read) in
    let more : later_reads (pattern_in request) reads ≡ then.reads = later_with_read here.read (pattern_in request) then.reads in record {
      reads = reads;
      are_reads = are_with_read here.read (pattern_in request) then.reads _ reply is_real here.is_read then.are_reads;
      said = (λ i. now.said i ∷ then.said i) ∙ sym (λ i. (one i).reply ∷ answers (one i).desk (more i) rest);
      represents = subst (RepresentsDesk last) (sym (λ i. desk_after (one i).desk (more i) rest)) then.represents;
    }
