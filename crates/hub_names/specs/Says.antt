-- What a publisher is answered, and what is told about a fifodir.
use Rattle.std.specs.Prelude.{◌≡◌, ◌≢◌, ℕ, Bool, List, true}
use Rattle.hub_letters.specs.declared.state.State.{State}
use Rattle.hub_letters.specs.States.{is_at_end}
use Rattle.hub_record.specs.World.{letters}
use Rattle.hub_requests.specs.Refusals.{refusal_of_pub}
use Rattle.hub_requests.specs.declared.about.About as abouts
use Rattle.hub_requests.specs.declared.reply.Refusal.TheVariants as no
use Rattle.hub_requests.specs.declared.reply.Reply.{Reply}
use Rattle.hub_requests.specs.declared.reply.Reply.TheVariants.{Done, Number, No}
use Rattle.hub_requests.specs.declared.reply.Reply.TheVariants as reply
use Rattle.hub_fifodir.specs.declared.fifodir.Fifodir.{Fifodir}
use Rattle.hub_fifodir.specs.declared.publisher.Publisher.{Publisher}
use Rattle.hub_fifodir.specs.declared.usage.Usage.{Usage}
use Rattle.hub_fifodir.specs.Passes.{IsStatusOf, IsRefusedAt, HasPublished, KnewOwnClose, kind_of, limits_of, closed_mark, mine, seen_by, publisher_number, publisher_sight, word_told, word_to_tell}
use Rattle.hub_record.specs.declared.PubError.{PubError}

-- ---- a publisher that was `p` is now `q`

-- a message is accepted whole, or refused by what the publisher has then seen
abbrev pub says_published : List ℕ → Publisher → Reply → Publisher → Type 0
says_published letters p (Number n) q = HasPublished p letters n q
says_published letters p (No refusal) q =
    (error : PubError) × (refusal ≡ refusal_of_pub error) × IsRefusedAt q letters error × (mine q ≡ mine p) × KnewOwnClose p q
says_published letters p _ q = ⊥

-- the word for a state, behind what it has then seen before it, is accepted whole, and the service is there; or it is refused
abbrev pub says_told : State → Publisher → Reply → Publisher → Type 0
says_told state p (Number n) q = HasPublished p (word_told state n q) n q × (is_at_end state (letters (seen_by q)) ≡ true)
says_told state p (No refusal) q =
    (error : PubError) × (refusal ≡ refusal_of_pub error) × IsRefusedAt q (word_to_tell state q) error × (mine q ≡ mine p) × KnewOwnClose p q
says_told state p _ q = ⊥

-- it closes what it hadn't seen closed, or sees who did
abbrev pub says_closed : Publisher → Reply → Publisher → Type 0
says_closed p Done q = (closed_mark p ≡ 0) × (closed_mark q ≡ publisher_number p) × (mine q ≡ mine p)
says_closed p (No refusal) q = (refusal ≡ no.Closed) × (closed_mark q ≢ 0) × KnewOwnClose p q × (mine q ≡ mine p)
says_closed p _ q = ⊥

-- the status of what it has then seen
abbrev pub says_status : Publisher → Reply → Publisher → Type 0
says_status p (reply.State status) q = IsStatusOf status (publisher_sight q) × KnewOwnClose p q × (mine q ≡ mine p)
says_status p _ q = ⊥

-- ---- a fifodir

-- what it is, and how much is there
abbrev pub about_of : Fifodir → Bool → Usage → abouts.About
about_of dir notifies usage = record {
  kind = kind_of dir;
  notifies = notifies;
  waiting = (limits_of dir).waiting;
  total = (limits_of dir).total;
  policy = (limits_of dir).policy;
  subscriptions = usage.subscriptions;
  publishers = usage.publishers;
  pending = usage.pending;
}
