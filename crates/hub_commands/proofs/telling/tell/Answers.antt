use Rattle.std.proofs.Common.{◌∙◌, refl, sym}
use Rattle.hub_commands.specs.Telling.{RepliesToTell}
use Rattle.hub_commands.proofs.Compared.{left_unknown}
use Rattle.hub_commands.proofs.Replied.{refused_by}
use Rattle.hub_commands.proofs.Told.{is_refusal, none_to_tell}
use Rattle.hub_commands.proofs.telling.tell.Goals as goal

pub returns-in-Some-Err-clause-ok : goal.returns-in-Some-Err-clause-ok
returns-in-Some-Err-clause-ok g c = (
  c.in-Some-Err.refusal,
  refused_by _ _ _ _ _ _ _ _ c.args.request _ c.args.name.now c.as_bytes.result.now c.reply.result c.in-Some-Err.refusal c.reply.ensures
      (is_refusal c.reply.result c.in-Some-Err.refusal (cc)) c.in_ok-heard.ensures.ok c.as_bytes.ensures.value c.in_ok-note_refusal-in-Some-Err.ensures.ok,
)

pub returns-clause-err : goal.returns-clause-err
returns-clause-err g c =
    left_unknown RepliesToTell _ _ _ _ _ _ c.args.request c.args.request _ c.reply.result c.reply.ensures refl c.in_ok-heard.ensures.ok
    (none_to_tell c.reply.result c.reply.ensures.reply (sym c.verdict_of.ensures ∙ c.in-None.is) c.reply.ensures.shows)
