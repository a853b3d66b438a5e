-- The places of replies: a desk's replies to the requests, and the refusals in the places of their lines.
use Rattle.std.specs.Prelude.{◌≡◌, ◌≢◌, ℕ, List, [], ◌∷◌, All, Result, Ok, Err}
use Rattle.std.specs.List.{AllZip}
use Rattle.hub_requests.specs.declared.request.Request.{Request}
use Rattle.hub_requests.specs.declared.reply.Reply.{Reply}
use Rattle.hub_requests.specs.declared.reply.Reply.TheVariants.{No}
use Rattle.hub_requests.specs.declared.reply.Refusal.{Refusal}
use Rattle.hub_requests.specs.declared.reply.Refusal.TheVariants.{Memory}
use Rattle.hub_protocol.specs.Reading.{IsReading}
use Rattle.hub_front.specs.Serving.{Asking}

-- the requests among what lines are read as, in order
abbrev pub requests_of : List (Result Request Refusal) → List Request
requests_of [] = []
requests_of (Ok request ∷ reads) = request ∷ requests_of reads
requests_of (Err refusal ∷ reads) = requests_of reads

-- the replies to the requests, with the refusals in the places of their lines
abbrev pub in_place : List (Result Request Refusal) → List Reply → List Reply
in_place [] given = []
in_place (Ok request ∷ reads) [] = []
in_place (Ok request ∷ reads) (reply ∷ given) = reply ∷ in_place reads given
in_place (Err refusal ∷ reads) given = No refusal ∷ in_place reads given

-- a desk gives these replies to the requests, one after another
abbrev pub AsksEach : {D : Type 0} → Asking D → D → List Request → List Reply → D → Type 0
AsksEach asks old [] [] new = new ≡ old
AsksEach {D} asks old (request ∷ requests) (reply ∷ replies) new =
    (mid : D) × asks old request reply mid × AsksEach asks mid requests replies new
AsksEach asks old [] (reply ∷ replies) new = ⊥
AsksEach asks old (request ∷ requests) [] new = ⊥

-- no reply is `no memory`
abbrev pub NoneIsMemory : List Reply → Type 0
NoneIsMemory replies = All (λ reply. reply ≢ No Memory) replies

-- The lines are read, the desk is asked the requests among them, and each refusal is in the place of its line.
pub record AreInPlace {D : Type 0} (asks : Asking D) (old : D) (lines : List (List ℕ)) (replies : List Reply)
    (new : D) : Type 0 where
  pub reads : List (Result Request Refusal)
  pub readings : AllZip IsReading lines reads
  pub given : List Reply
  pub asked : AsksEach asks old (requests_of reads) given new
  pub placed : replies ≡ in_place reads given
  pub read_whole : NoneIsMemory replies → All (λ read. read ≢ Err Memory) reads
  pub given_whole : NoneIsMemory replies → NoneIsMemory given

-- unless memory runs out, a desk has one reply to a request, and one desk afterwards
abbrev pub IsFunction : {D : Type 0} → Asking D → Type 0
IsFunction {D} asks = (old new new' : D) (request : Request) (reply reply' : Reply)
    → reply ≢ No Memory → reply' ≢ No Memory
    → asks old request reply new → asks old request reply' new' → (reply ≡ reply') × (new ≡ new')
