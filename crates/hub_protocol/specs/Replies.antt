-- The replies of a hub, and what a line is read as.
use Rattle.std.specs.Prelude.{◌≡◌, ◌≢◌, ℕ, ◌<◌, ◌≤◌, ◌^◌, List, length, map, All, Option, MatchOption}
use Rattle.std.specs.List.{join_with_byte}
use Rattle.hub_requests.specs.declared.bounds.TheConstants.{LONGEST_REPLY, MOST_SERVICES}
use Rattle.hub_requests.specs.declared.about.About as abouts
use Rattle.hub_requests.specs.declared.reply.Reply.{Reply}
use Rattle.hub_requests.specs.declared.reply.Reply.TheVariants.{Done, Number, State, About, Got, Hit, Nothing, End, Evicted, Yes, Never, Late, Listed, No}
use Rattle.hub_requests.specs.declared.reply.Refusal.{Refusal}
use Rattle.hub_requests.specs.declared.reply.Refusal.TheVariants.{Unlawful}
use Rattle.hub_requests.specs.Texts.{number_or_dash, text_of}
use Rattle.hub_protocol.specs.declared.replies.BorrowedReply.{BorrowedReply}
use Rattle.hub_protocol.specs.declared.replies.BorrowedReply.TheVariants as shown
use Rattle.hub_protocol.specs.Spelling.{IsName}

-- a byte that is a letter
abbrev pub IsLetter : ℕ → Type 0
IsLetter b = (33 ≤ b) × (b ≤ 126)

-- a number of 64 bits
abbrev pub IsCount : ℕ → Type 0
IsCount n = n < 2 ^ 64

abbrev pub IsCountOrNone : Option ℕ → Type 0
IsCountOrNone number = MatchOption number (Unit {0}) IsCount

-- at most one for each service of a wait
pub record AreCounts (numbers : List (Option ℕ)) : Type 0 where
  pub few : length numbers ≤ MOST_SERVICES
  pub each : All IsCountOrNone numbers

pub record IsSoundAbout (about : abouts.About) : Type 0 where
  pub waiting : IsCount about.waiting
  pub total : IsCount about.total
  pub subscriptions : IsCount about.subscriptions
  pub publishers : IsCount about.publishers
  pub pending : IsCount about.pending

abbrev pub IsSoundRefusal : Refusal → Type 0
IsSoundRefusal (Unlawful place) = IsCount place
IsSoundRefusal refusal = Unit {0}

-- letters are letters, names are names, and numbers have 64 bits
abbrev pub IsSoundReply : Reply → Type 0
IsSoundReply (Number n) = IsCount n
IsSoundReply (State status) = IsCount status.number
IsSoundReply (About about) = IsSoundAbout about
IsSoundReply (Got letters) = All IsLetter letters
IsSoundReply (Hit letters) = All IsLetter letters
IsSoundReply (Yes numbers) = AreCounts numbers
IsSoundReply (Listed names) = All IsName names
IsSoundReply (No refusal) = IsSoundRefusal refusal
IsSoundReply reply = Unit {0}

-- a reply that a hub may write
pub record IsOfHub (reply : Reply) : Type 0 where
  pub sound : IsSoundReply reply
  pub short : length (text_of reply) ≤ LONGEST_REPLY

-- It shows the reply. Letters, numbers and names are as in the line, with one space between two numbers or names.
abbrev pub Shows : BorrowedReply → Reply → Type 0
Shows shown.Done Done = Unit {0}
Shows (shown.Number n) (Number m) = n ≡ m
Shows (shown.State status) (State other) = status ≡ other
Shows (shown.About about) (About other) = about ≡ other
Shows (shown.Got text) (Got letters) = text.now ≡ letters
Shows (shown.Hit text) (Hit letters) = text.now ≡ letters
Shows shown.Nothing Nothing = Unit {0}
Shows shown.End End = Unit {0}
Shows shown.Evicted Evicted = Unit {0}
Shows (shown.Yes text) (Yes numbers) = text.now ≡ join_with_byte 32 (map number_or_dash numbers)
Shows shown.Never Never = Unit {0}
Shows shown.Late Late = Unit {0}
Shows (shown.Listed text) (Listed names) = text.now ≡ join_with_byte 32 names
Shows (shown.No refusal) (No other) = refusal ≡ other
Shows read reply = ⊥

-- the text is that of this reply of a hub, which is shown
pub record IsShown (text : List ℕ) (read : BorrowedReply) : Type 0 where
  pub reply : Reply
  pub of_hub : IsOfHub reply
  pub spelled : text ≡ text_of reply
  pub shows : Shows read reply

-- the reply of a hub whose text this is, or none if it is that of no reply of one
abbrev pub IsReadReply : List ℕ → Option BorrowedReply → Type 0
IsReadReply text read = MatchOption read ((reply : Reply) → IsOfHub reply → text ≢ text_of reply) (IsShown text)
