-- What a desk answers to runs of requests, with a yes or no for each `Listen` among them: whether its text is a pattern.
use Rattle.std.specs.Prelude.{ℕ, Bool, true, false, List, [], ◌∷◌, ◌++◌, drop, Option, Some, None, option_to_list}
use Rattle.hub_listen.specs.Hit.{IsPattern}
use Rattle.hub_local.specs.Desks.{Desk, Answer}
use Rattle.hub_local.specs.DeskAnswers.{answer}
use Rattle.hub_requests.specs.declared.request.Request.{Request}
use Rattle.hub_requests.specs.declared.request.Request.TheVariants.{Listen}
use Rattle.hub_requests.specs.declared.reply.Reply.{Reply}

-- the text that may be a pattern
abbrev pub pattern_in : Request → Option (List ℕ)
pattern_in (Listen name mode pattern) = Some pattern
pattern_in request = None

-- the yes or no for a request with this text, or with none
abbrev pub first_read : Option (List ℕ) → List Bool → Bool
first_read (Some text) (read ∷ rest) = read
first_read pattern reads = false

abbrev pub later_reads : Option (List ℕ) → List Bool → List Bool
later_reads None reads = reads
later_reads (Some text) reads = drop 1 reads

abbrev pub answer_to : Desk → List Bool → Request → Answer
answer_to d reads request = answer d (first_read (pattern_in request) reads) request

-- the replies to requests in turn, and the desk after them
abbrev pub answers : Desk → List Bool → List Request → List Reply
answers d reads [] = []
answers d reads (request ∷ rest) =
    (answer_to d reads request).reply ∷ answers (answer_to d reads request).desk (later_reads (pattern_in request) reads) rest

abbrev pub desk_after : Desk → List Bool → List Request → Desk
desk_after d reads [] = d
desk_after d reads (request ∷ rest) = desk_after (answer_to d reads request).desk (later_reads (pattern_in request) reads) rest

abbrev pub patterns_in : List Request → List (List ℕ)
patterns_in [] = []
patterns_in (request ∷ rest) = option_to_list (pattern_in request) ++ patterns_in rest

-- one for each text, and yes only if it is a pattern
abbrev pub AreReads : List Bool → List (List ℕ) → Type 0
AreReads [] [] = Unit {0}
AreReads (true ∷ reads) (text ∷ texts) = IsPattern text × AreReads reads texts
AreReads (false ∷ reads) (text ∷ texts) = AreReads reads texts
AreReads reads texts = ⊥
