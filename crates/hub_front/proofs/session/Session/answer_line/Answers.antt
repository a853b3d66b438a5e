use Rattle.std.proofs.Common.{◌≡◌, rules, subst}
use Rattle.std.specs.Io.KnownBytes.{Appends}
use Rattle.hub_requests.specs.Texts.{text_of}
use Rattle.hub_io.specs.Faults.{AppendsPart}
use Rattle.hub_io.proofs.Outcomes.{OnErr-known}
use Rattle.hub_front.proofs.Runs.{answers_same, served_one, breaks_at_once}
use Rattle.hub_front.proofs.session.Session.answer_line.Goals as goal

pub returns-in_err-write_whole-clause-err : goal.returns-in_err-write_whole-clause-err
returns-in_err-write_whole-clause-err g c =
    let line : c.deref.result.now ≡ c.args.self.now.line.items = search rules in
    let shown : c.deref-2.result.now ≡ text_of c.reply_to-reply.result = search rules in
    OnErr-known _ (breaks_at_once c.reply_to-reply.result (answers_same line c.reply_to-reply.ensures) (subst (AppendsPart _ _) shown c.in_err-write_whole.ensures.err))

pub returns-clause-ok : goal.returns-clause-ok
returns-clause-ok g c =
    let line : c.deref.result.now ≡ c.args.self.now.line.items = search rules in
    let shown : c.deref-2.result.now ≡ text_of c.reply_to-reply.result = search rules in
    served_one c.reply_to-reply.result (answers_same line c.reply_to-reply.ensures) (subst (Appends _ _) shown c.in_ok-write_whole.ensures.ok)
