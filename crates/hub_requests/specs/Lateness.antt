-- What a request is answered that waits for something to take or to hear.
use Rattle.hub_requests.specs.declared.reply.Reply.{Reply}
use Rattle.hub_requests.specs.declared.reply.Reply.TheVariants.{Nothing, Late}

-- the reply that it waited for; it is late where that is `none`
abbrev pub or_late : Reply → Reply
or_late Nothing = Late
or_late reply = reply
