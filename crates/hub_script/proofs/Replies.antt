-- The replies of a run over a local desk are the model's answers, with the refusals in the places of their lines.
use Rattle.std.proofs.Common.{◌≡◌, ◌≢◌, ℕ, suc, Bool, rules, List, [], ◌∷◌, length, Option, Result, Err, refl, sym, ap, subst, ◌∙◌}
use Rattle.std.specs.Prelude.{All, flat_map}
use Rattle.std.proofs.KnownBytes.{Appends-nil, Consumes-nil}
use Rattle.std.proofs.lemmas.List.Elements.{All-head, All-tail}
use Rattle.std.specs.List.{AllZip}
use Rattle.hub_local.specs.RunAnswers.{answers}
use Rattle.hub_local.specs.Desks.{new_desk}
use Rattle.hub_local.specs.Representing.{Local, RepresentsDesk, AsksDesk, Ended, Runs, over, asked}
use Rattle.hub_requests.specs.Texts.{text_of}
use Rattle.hub_requests.specs.declared.reply.Reply.{Reply}
use Rattle.hub_requests.specs.declared.request.Request.{Request}
use Rattle.hub_io.specs.Lines.{lines_of}
use Rattle.hub_io.specs.declared.fault.FrontError.{FrontError}
use Rattle.hub_io.specs.declared.reading.TheConstants.{MAX_READS}
use Rattle.hub_io.specs.declared.fault.FrontError.TheVariants as fault
use Rattle.hub_front.specs.Places.{AreInPlace, NoneIsMemory, in_place, requests_of}
use Rattle.hub_front.specs.Places as places
use Rattle.hub_protocol.specs.Reading.{IsReading}
use Rattle.hub_front.specs.Serving.{Finished, Stopped, Run}
use Rattle.hub_requests.specs.declared.reply.Refusal.{Refusal}
use Rattle.hub_requests.specs.declared.reply.Refusal.TheVariants.{Memory}
use Rattle.hub_local.proofs.Running.{runs_answer}
use Rattle.hub_protocol.proofs.OneReading.{one_reading}
use Rattle.hub_front.proofs.Placed.{run_in_place}
use Rattle.hub_script.specs.Output.{AreReplies, IsOutput, Serves, Stops}

abbrev IsEnough : Result Request Refusal → Type 0
IsEnough read = read ≢ Err Memory

-- each line gets one reply
run_length : (lines : List (List ℕ)) (replies : List Reply) (old new : Local) → Run AsksDesk old lines replies new → length replies ≡ length lines
run_length [] [] old new run = refl
run_length [] (reply ∷ replies) old new run = absurd run
run_length (line ∷ lines) [] old new run = absurd run
run_length (line ∷ lines) (reply ∷ replies) old new run = let (mid, answered, rest) = run in ap suc (run_length lines replies mid new rest)

-- requests that are asked one after another are a run of the desk
runs_of : (requests : List Request) (given : List Reply) (old new : Local) → places.AsksEach AsksDesk old requests given new → Runs old requests given new
runs_of [] [] old new asked_all = subst (λ local. Runs old [] [] local) (sym asked_all) (over old)
runs_of [] (reply ∷ given) old new asked_all = absurd asked_all
runs_of (request ∷ requests) [] old new asked_all = absurd asked_all
runs_of (request ∷ requests) (reply ∷ given) old new asked_all =
    let (mid, one, rest) = asked_all in asked old mid new request requests reply given one (runs_of requests given mid new rest)

-- the replies of a run over a new desk, if none is `no memory`
replies_placed : (lines : List (List ℕ)) (replies : List Reply) (old new : Local) → RepresentsDesk old new_desk
    → AreInPlace AsksDesk old lines replies new → NoneIsMemory replies → (patterns : List Bool) × AreReplies patterns lines replies
replies_placed lines replies old new represents p none =
    let models = runs_answer old new (requests_of p.reads) p.given new_desk (runs_of (requests_of p.reads) p.given old new p.asked) (p.given_whole none) represents in (
      models.reads,
      record {
        reads = p.reads;
        readings = p.readings;
        enough = p.read_whole none;
        are_patterns = models.are_reads;
        placed = p.placed ∙ ap (in_place p.reads) models.said;
      },
    )

-- the texts of these replies are an output
output_of : (input : List ℕ) (replies : List Reply) → (patterns : List Bool) × AreReplies patterns (lines_of input) replies
    → (patterns : List Bool) × IsOutput patterns input (flat_map text_of replies)
output_of input replies (patterns, answered) = (patterns, record { replies = replies; answered = answered; texts = refl })

-- a session over a new desk that ended with its input
pub session_serves : (old new : Local) (held holds had has : Option (List ℕ)) (n : ℕ) → RepresentsDesk old new_desk
    → Finished AsksDesk Ended old new held holds had has n → Serves held holds had has n
session_serves old new held holds had has n represents f = record {
  input = f.input;
  consumed = f.consumed;
  whole = f.whole;
  counted = f.counted;
  desk = old;
  is_new = represents;
  left = f.mid;
  served = f.served;
  each = run_length (lines_of f.input) f.served.replies old f.mid f.served.run ∙ sym f.counted;
  output = λ none. output_of f.input f.served.replies
      (replies_placed (lines_of f.input) f.served.replies old f.mid represents
      (run_in_place AsksDesk old f.mid (lines_of f.input) f.served.replies f.served.run) none);
}

-- a session over a new desk that stopped
pub session_stops : (old new : Local) (held holds had has : Option (List ℕ)) (e : FrontError) → RepresentsDesk old new_desk
    → Stopped MAX_READS AsksDesk Ended old new held holds had has e → Stops held holds had has e
session_stops old new held holds had has e represents s =
    record { input = s.input; consumed = s.consumed; desk = old; is_new = represents; left = s.mid; stopped = s.stopped }

-- what a new desk keeps
empty_local : Local
empty_local = record { fifodirs = []; holdings = []; given = 0; wills = [] }

empty_is_new : RepresentsDesk empty_local new_desk
unfolding empty_local
empty_is_new = search rules

-- a session that has no desk has read nothing and written nothing
pub no_session_stops : (held had : Option (List ℕ)) → Stops held held had had fault.Memory
no_session_stops held had = record {
  input = [];
  consumed = Consumes-nil had;
  desk = empty_local;
  is_new = empty_is_new;
  left = empty_local;
  stopped = (refl, record { replies = []; run = refl; written = Appends-nil held });
}

-- lines are read in one way
same_reads : (lines : List (List ℕ)) (a b : List (Result Request Refusal)) → AllZip IsReading lines a → AllZip IsReading lines b
    → All (λ read. read ≢ Err Memory) a → All (λ read. read ≢ Err Memory) b → a ≡ b
same_reads [] [] [] ra rb ea eb = refl
same_reads [] [] (y ∷ b) ra rb ea eb = absurd rb
same_reads [] (x ∷ a) b ra rb ea eb = absurd ra
same_reads (line ∷ lines) [] b ra rb ea eb = absurd ra
same_reads (line ∷ lines) (x ∷ a) [] ra rb ea eb = absurd rb
same_reads (line ∷ lines) (x ∷ a) (y ∷ b) ra rb ea eb =
    let first = one_reading line x y (All-head IsEnough x a ea) (All-head IsEnough y b eb) ra.0 rb.0 in
    let rest = same_reads lines a b ra.1 rb.1 (All-tail IsEnough x a ea) (All-tail IsEnough y b eb) in
    ap (λ r. r ∷ a) first ∙ ap (λ rs. y ∷ rs) rest

pub one_output : (patterns : List Bool) (input a b : List ℕ) → IsOutput patterns input a → IsOutput patterns input b → a ≡ b
one_output patterns input a b oa ob =
    let reads = same_reads (lines_of input) oa.answered.reads ob.answered.reads oa.answered.readings ob.answered.readings oa.answered.enough ob.answered.enough in
    oa.texts ∙ ap (flat_map text_of) (oa.answered.placed ∙ ap (λ rs. in_place rs (answers new_desk patterns (requests_of rs))) reads ∙ sym ob.answered.placed) ∙ sym ob.texts
