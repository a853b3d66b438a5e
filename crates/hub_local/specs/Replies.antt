-- What a record answers, as a function of its world.
use Rattle.std.specs.Prelude.{ℕ, ◌≡◌, ◌≢◌, ◌==◌, ◌+◌, Bool, true, false, if◌then◌else◌, List, [], ◌∷◌, ◌++◌, length, nat_le, nat_lt, Option, Some, None, is_some, Result, Ok, Err}
use Rattle.std.specs.Option.{option_map}
use Rattle.hub_letters.specs.Stages.{stage_by_code}
use Rattle.hub_letters.specs.declared.stage.Stage.TheVariants.{Off}
use Rattle.hub_record.specs.declared.limits.TheConstants.{MOST_PASSES}
use Rattle.hub_record.specs.World.{World, current, active, letters, needed, IsLawfulIn, SubscribeReply, PublishReply}
use Rattle.hub_record.specs.declared.Kind.{Kind}
use Rattle.hub_record.specs.declared.Kind.TheVariants.{Plain, Service}
use Rattle.hub_record.specs.declared.SubError.{SubError}
use Rattle.hub_record.specs.declared.SubError.TheVariants as sub
use Rattle.hub_record.specs.declared.PubError.{PubError}
use Rattle.hub_record.specs.declared.PubError.TheVariants as post

abbrev pub subscribe_reply : World → Result (ℕ × ℕ) SubError
subscribe_reply w =
    if w.closed then Err sub.Closed else
    if nat_le MOST_PASSES (length (current w)) then Err sub.Many else
    if nat_le w.limits.ids (length w.subscriptions) then Err sub.Spent else
    Ok (length w.subscriptions + 1, length w.events)

-- ---- publish

-- a plain record takes any word, and a service's takes those that the stages follow
abbrev pub is_lawful_in : Kind → List ℕ → Bool
is_lawful_in Plain word = true
is_lawful_in Service word = is_some (stage_by_code Off word)

-- the least place of the message for which the word, followed by the message up to and including it, isn't lawful
abbrev pub first_unlawful : Kind → List ℕ → List ℕ → Option ℕ
first_unlawful kind word [] = None
first_unlawful kind word (letter ∷ rest) =
    if is_lawful_in kind (word ++ letter ∷ []) then option_map (λ place. place + 1) (first_unlawful kind (word ++ letter ∷ []) rest) else Some 0

-- a subscription is active, and n more events need more room than there is
abbrev pub is_full : World → ℕ → Bool
is_full w n = if length (active w) == 0 then false else nat_lt w.limits.waiting (needed w n)

-- the reply to a message of n letters that is lawful
abbrev pub lawful_reply : World → ℕ → Result ℕ PubError
lawful_reply w n =
    if nat_lt w.limits.total (length w.events + n) then Err post.Spent else
    if is_full w n then Err post.Full else
    Ok (length w.events)

abbrev pub open_reply : World → ℕ → Option ℕ → Result ℕ PubError
open_reply w n (Some place) = Err (post.Unlawful place)
open_reply w n None = lawful_reply w n

abbrev pub publish_reply : World → List ℕ → Result ℕ PubError
publish_reply w message =
    if w.closed then Err post.Closed else open_reply w (length message) (first_unlawful w.kind (letters w.events) message)

-- ---- laws

-- the function gives a reply of the record, and the record has no other unless memory runs out
abbrev pub SubscribeIsOf : Type 0
SubscribeIsOf = (w : World) → SubscribeReply w (subscribe_reply w) × ((reply : Result (ℕ × ℕ) SubError) → SubscribeReply w reply → reply ≢ Err sub.Memory → reply ≡ subscribe_reply w)

-- the same, if the letters so far are lawful
abbrev pub PublishIsOf : Type 0
PublishIsOf = (w : World) (message : List ℕ) → IsLawfulIn w.kind (letters w.events)
    → PublishReply w message (publish_reply w message) × ((reply : Result ℕ PubError) → PublishReply w message reply → reply ≡ publish_reply w message)
