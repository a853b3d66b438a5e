-- How a desk names what a record refuses.
use Rattle.std.specs.Prelude.{ℕ, Result, Ok, Err}
use Rattle.hub_record.specs.declared.SubError.{SubError}
use Rattle.hub_record.specs.declared.SubError.TheVariants as sub
use Rattle.hub_record.specs.declared.PubError.{PubError}
use Rattle.hub_record.specs.declared.PubError.TheVariants as post
use Rattle.hub_requests.specs.declared.reply.Reply.{Reply}
use Rattle.hub_requests.specs.declared.reply.Reply.TheVariants.{Number, No}
use Rattle.hub_requests.specs.declared.reply.Refusal.{Refusal}
use Rattle.hub_requests.specs.declared.reply.Refusal.TheVariants as no

abbrev pub refusal_of_sub : SubError → Refusal
refusal_of_sub sub.Closed = no.Closed
refusal_of_sub sub.Many = no.Many
refusal_of_sub sub.Spent = no.Spent
refusal_of_sub sub.Memory = no.Memory

abbrev pub refusal_of_pub : PubError → Refusal
refusal_of_pub post.Closed = no.Closed
refusal_of_pub (post.Unlawful place) = no.Unlawful place
refusal_of_pub post.Spent = no.Spent
refusal_of_pub post.Full = no.Full

-- a message was accepted, or why it wasn't
abbrev pub reply_to_publish : Result ℕ PubError → Reply
reply_to_publish (Ok first) = Number first
reply_to_publish (Err error) = No (refusal_of_pub error)
