-- What a client has sent to a hub, heard of it, and told people.
use Rattle.std.specs.Prelude.{◌≡◌, ◌⊎◌, ℕ, List, [], ◌∷◌, ◌++◌, codes, Option}
use Rattle.std.specs.Io.KnownBytes.{Appends}
use Rattle.hub_io.specs.Faults.{AppendsPart}
use Rattle.hub_io.specs.Counted.{Writing}
use Rattle.hub_io.specs.Telling.{Rises}
use Rattle.hub_requests.specs.Texts.{text_of}
use Rattle.hub_requests.specs.declared.request.Request.{Request}
use Rattle.hub_requests.specs.declared.reply.Reply.{Reply}
use Rattle.hub_protocol.specs.Replies.{IsOfHub}
use Rattle.hub_protocol.specs.Spelling.{form_of, spelling}
use Rattle.hub_ask.specs.Asking.{IsAnswered}
use Rattle.hub_ask.specs.declared.client.Client.{Client}

-- what was sent to the hub, what is left of its replies, the notes, and how many writes of notes failed
pub record Streams : Type 0 where
  pub sent : Option (List ℕ)
  pub had : Option (List ℕ)
  pub noted : Option (List ℕ)
  pub faults : Option ℕ

-- those of a client, and of what the notes are written to; the first four say how these are seen
abbrev pub streams : {SR SW F : Type 0} → (sent : SW → Option (List ℕ)) → (had : SR → Option (List ℕ)) → (noted : F → Option (List ℕ))
    → (faults : F → Option ℕ) → Client SR SW → F → Streams
streams sent had noted faults client notes =
    record { sent = sent client.sender; had = had client.receiver; noted = noted notes; faults = faults notes }

-- The request was sent once, as its one line, and the first line that came then is that of the reply, which is one of a hub. There is no
-- note of it.
pub record IsReplied (before after : Streams) (request : Request) (reply : Reply) : Type 0 where
  pub of_hub : IsOfHub reply
  pub answered : IsAnswered before.sent after.sent before.had after.had (spelling (form_of request)) (text_of reply)
  pub noted : after.noted ≡ before.noted
  pub faults : after.faults ≡ before.faults

-- The request was sent once, as its one line, and then this line came first. There is no note of it.
pub record IsHeard (before after : Streams) (request : Request) (line : List ℕ) : Type 0 where
  pub answered : IsAnswered before.sent after.sent before.had after.had (spelling (form_of request)) line
  pub noted : after.noted ≡ before.noted
  pub faults : after.faults ≡ before.faults

-- The note was written whole, or a write failed and a part of it was written.
abbrev pub IsToldTo : (noted notes : Option (List ℕ)) (faults failed : Option ℕ) (note : List ℕ) → Type 0
IsToldTo noted notes faults failed note =
    (Appends noted notes note × Rises faults failed 0) ⊎ (AppendsPart noted notes note × Rises faults failed 1)

-- The note was told, and nothing was sent or heard.
pub record IsNoted (before after : Streams) (note : List ℕ) : Type 0 where
  pub sent : after.sent ≡ before.sent
  pub had : after.had ≡ before.had
  pub noted : IsToldTo before.noted after.noted before.faults after.faults note

-- the line about a name
abbrev pub note_of : (name reason : List ℕ) → List ℕ
note_of name reason = name ++ (codes ": " ++ (reason ++ 10 ∷ []))

-- what goes over a connection: what had been sent before and after, and what was left of the peer's bytes before and after
abbrev pub Going : Type 1
Going = (sent sends had has : Option (List ℕ)) → Type 0

-- the streams of a command: what goes over its connection, and its notes before and after
abbrev pub Told : {F : Type 0} → Writing F → (notes note : F) → ((before after : Streams) → Type 0) → Going
Told n notes note holds sent sends had has = holds
    (record { sent = sent; had = had; noted = n.contents notes; faults = n.faults notes })
    (record { sent = sends; had = has; noted = n.contents note; faults = n.faults note })
