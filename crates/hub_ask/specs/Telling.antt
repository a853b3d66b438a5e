-- Texts that are those of a reply.
use Rattle.std.specs.Prelude.{◌≡◌, ◌≢◌, ℕ, List}
use Rattle.hub_requests.specs.Texts.{text_of}
use Rattle.hub_requests.specs.declared.reply.Reply.{Reply}
use Rattle.hub_protocol.specs.Replies.{IsOfHub}

-- the text is that of a reply of a hub
pub record IsReply (text : List ℕ) : Type 0 where
  pub reply : Reply
  pub of_hub : IsOfHub reply
  pub spelled : text ≡ text_of reply

-- the text is that of no reply of a hub
abbrev pub IsNoReply : List ℕ → Type 0
IsNoReply text = (reply : Reply) → IsOfHub reply → text ≢ text_of reply
