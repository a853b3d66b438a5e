-- The pieces of a reply's line: its first word, and what is behind it.
use Rattle.std.specs.Prelude.{◌≡◌, ◌≢◌, ℕ, List, [], ◌∷◌, length, map, codes, All, Option, MatchOption, ◌≤◌}
use Rattle.std.specs.Fmt.{decimal}
use Rattle.hub_letters.specs.Flags.{code_of}
use Rattle.hub_requests.specs.declared.bounds.TheConstants.{MOST_SERVICES}
use Rattle.hub_requests.specs.declared.reply.Reply.{Reply}
use Rattle.hub_requests.specs.declared.reply.Reply.TheVariants.{Done, Number, State, About, Got, Hit, Nothing, End, Evicted, Yes, Never, Late, Listed, No}
use Rattle.hub_requests.specs.declared.reply.Refusal.{Refusal}
use Rattle.hub_requests.specs.declared.reply.Refusal.TheVariants.{Unlawful}
use Rattle.hub_requests.specs.Texts.{number_or_dash, openness, pieces_about, word_of}
use Rattle.hub_protocol.specs.declared.replies.BorrowedReply.{BorrowedReply}
use Rattle.hub_protocol.specs.declared.reply_pieces.Head as heads
use Rattle.hub_protocol.specs.declared.reply_pieces.Head.TheVariants as head
use Rattle.hub_protocol.specs.Replies.{IsCount, IsCountOrNone, IsSoundRefusal, IsSoundReply, Shows}

-- the pieces of a refusal
abbrev pub words_of : Refusal → List (List ℕ)
words_of (Unlawful place) = codes "unlawful" ∷ decimal place ∷ []
words_of refusal = word_of refusal ∷ []

-- the words that begin replies
abbrev pub text_of_head : heads.Head → List ℕ
text_of_head head.Done = codes "ok"
text_of_head head.Got = codes "got"
text_of_head head.Hit = codes "hit"
text_of_head head.Nothing = codes "none"
text_of_head head.End = codes "end"
text_of_head head.Evicted = codes "evicted"
text_of_head head.Yes = codes "yes"
text_of_head head.Never = codes "never"
text_of_head head.Late = codes "late"
text_of_head head.Listed = codes "names"
text_of_head head.No = codes "no"

-- the first word of a reply's line
abbrev pub head_of : Reply → List ℕ
head_of Done = codes "ok"
head_of (Number n) = codes "ok"
head_of (State status) = codes "ok"
head_of (About about) = codes "ok"
head_of (Got letters) = codes "got"
head_of (Hit letters) = codes "hit"
head_of Nothing = codes "none"
head_of End = codes "end"
head_of Evicted = codes "evicted"
head_of (Yes numbers) = codes "yes"
head_of Never = codes "never"
head_of Late = codes "late"
head_of (Listed names) = codes "names"
head_of (No refusal) = codes "no"

-- the pieces behind it
abbrev pub behind_of : Reply → List (List ℕ)
behind_of (Number n) = decimal n ∷ []
behind_of (State status) = decimal status.number ∷ decimal (code_of status.flags) ∷ openness status.closed ∷ []
behind_of (About about) = pieces_about about
behind_of (Got letters) = letters ∷ []
behind_of (Hit letters) = letters ∷ []
behind_of (Yes numbers) = map number_or_dash numbers
behind_of (Listed names) = names
behind_of (No refusal) = words_of refusal
behind_of reply = []

-- the number whose numeral the text is, if it is one
abbrev pub IsCountOf : List ℕ → Option ℕ → Type 0
IsCountOf text found = MatchOption found ((n : ℕ) → IsCount n → text ≢ decimal n) (λ n. IsCount n × (text ≡ decimal n))

-- a number, or a dash
abbrev pub IsCountText : List ℕ → Type 0
IsCountText text = (number : Option ℕ) × IsCountOrNone number × (text ≡ number_or_dash number)

pub record AreCountTexts (pieces : List (List ℕ)) : Type 0 where
  pub few : length pieces ≤ MOST_SERVICES
  pub each : All IsCountText pieces

-- a refusal that is one word
abbrev pub IsPlain : Refusal → Type 0
IsPlain (Unlawful place) = ⊥
IsPlain refusal = Unit {0}

-- the refusal that is this word, if there is one
abbrev pub IsPlainOf : List ℕ → Option Refusal → Type 0
IsPlainOf word found = MatchOption found ((refusal : Refusal) → IsPlain refusal → word ≢ word_of refusal) (λ refusal. IsPlain refusal × (word ≡ word_of refusal))

-- the refusal with these pieces, if there is one
abbrev pub IsRefusalOf : List (List ℕ) → Option Refusal → Type 0
IsRefusalOf pieces found = MatchOption found ((refusal : Refusal) → IsSoundRefusal refusal → pieces ≢ words_of refusal) (λ refusal. IsSoundRefusal refusal × (pieces ≡ words_of refusal))

-- a sound reply begins with this word, and has these pieces behind it; it is shown
pub record IsSaid (word : List ℕ) (pieces : List (List ℕ)) (read : BorrowedReply) : Type 0 where
  pub reply : Reply
  pub sound : IsSoundReply reply
  pub head : head_of reply ≡ word
  pub behind : pieces ≡ behind_of reply
  pub shows : Shows read reply

-- the sound reply that begins with this word and has these pieces behind it, if there is one
abbrev pub IsBehind : List ℕ → List (List ℕ) → Option BorrowedReply → Type 0
IsBehind word pieces read = MatchOption read ((reply : Reply) → IsSoundReply reply → head_of reply ≡ word → pieces ≢ behind_of reply) (IsSaid word pieces)
