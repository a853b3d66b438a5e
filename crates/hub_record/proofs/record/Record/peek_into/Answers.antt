use Rattle.std.proofs.Common.{Bool, if◌then◌else◌, Ok, sym, ap, ◌∙◌, subst}
use Rattle.hub_record.specs.declared.Taken.TheVariants.{End, Nothing}
use Rattle.hub_record.specs.Kept.{Represents}
use Rattle.hub_record.proofs.Taking.{tells_some, tells_nothing, tells_lost, tells_none}
use Rattle.hub_record.proofs.record.Record.peek_into.Goals as goal

pub returns-in-Ok-Copied-clause-reply : goal.returns-in-Ok-Copied-clause-reply
returns-in-Ok-Copied-clause-reply c = λ w s. let e = rw c.in-Ok-Copied.field-0-is at c.in-Ok-Copied.ensures in (tells_some _ w c.args.id _ _ _ _ (subst (λ r. Represents r w) (sym c.self.view_is) s) c.self.invariant.room e).0

pub returns-in-Ok-Copied-clause-filled : goal.returns-in-Ok-Copied-clause-filled
returns-in-Ok-Copied-clause-filled c = λ w s. let e = rw c.in-Ok-Copied.field-0-is at c.in-Ok-Copied.ensures in (tells_some _ w c.args.id _ _ _ _ (subst (λ r. Represents r w) (sym c.self.view_is) s) c.self.invariant.room e).1

pub returns-in-Ok-Nothing-clause-reply : goal.returns-in-Ok-Nothing-clause-reply
returns-in-Ok-Nothing-clause-reply c = λ w s. let e = rw c.in-Ok-Nothing.field-0-is at c.in-Ok-Nothing.ensures in ap (λ (b : Bool). if b then Ok End else Ok Nothing) (sym c.if-self.true) ∙ (tells_nothing _ w c.args.id _ _ _ (subst (λ r. Represents r w) (sym c.self.view_is) s) c.self.invariant.room e.0 e.1).0

pub returns-in-Ok-Nothing-clause-filled : goal.returns-in-Ok-Nothing-clause-filled
returns-in-Ok-Nothing-clause-filled c = λ w s. let e = rw c.in-Ok-Nothing.field-0-is at c.in-Ok-Nothing.ensures in (tells_nothing _ w c.args.id _ _ _ (subst (λ r. Represents r w) (sym c.self.view_is) s) c.self.invariant.room e.0 e.1).1

pub returns-in-Ok-Nothing-2-clause-reply : goal.returns-in-Ok-Nothing-2-clause-reply
returns-in-Ok-Nothing-2-clause-reply c = λ w s. let e = rw c.in-Ok-Nothing.field-0-is at c.in-Ok-Nothing.ensures in ap (λ (b : Bool). if b then Ok End else Ok Nothing) (sym c.if-self.false) ∙ (tells_nothing _ w c.args.id _ _ _ (subst (λ r. Represents r w) (sym c.self.view_is) s) c.self.invariant.room e.0 e.1).0

pub returns-in-Ok-Nothing-2-clause-filled : goal.returns-in-Ok-Nothing-2-clause-filled
returns-in-Ok-Nothing-2-clause-filled c = λ w s. let e = rw c.in-Ok-Nothing.field-0-is at c.in-Ok-Nothing.ensures in (tells_nothing _ w c.args.id _ _ _ (subst (λ r. Represents r w) (sym c.self.view_is) s) c.self.invariant.room e.0 e.1).1

pub returns-in-Ok-Lost-clause-reply : goal.returns-in-Ok-Lost-clause-reply
returns-in-Ok-Lost-clause-reply c = λ w s. let e = rw c.in-Ok-Lost.field-0-is at c.in-Ok-Lost.ensures in (tells_lost _ w c.args.id _ _ _ (subst (λ r. Represents r w) (sym c.self.view_is) s) c.self.invariant.room e.0 e.1).0

pub returns-in-Ok-Lost-clause-filled : goal.returns-in-Ok-Lost-clause-filled
returns-in-Ok-Lost-clause-filled c = λ w s. let e = rw c.in-Ok-Lost.field-0-is at c.in-Ok-Lost.ensures in (tells_lost _ w c.args.id _ _ _ (subst (λ r. Represents r w) (sym c.self.view_is) s) c.self.invariant.room e.0 e.1).1

pub returns-in-Err-clause-reply : goal.returns-in-Err-clause-reply
returns-in-Err-clause-reply c = λ w s. (tells_none _ w c.args.id _ _ (subst (λ r. Represents r w) (sym c.self.view_is) s) c.in-Err.ensures.0 c.in-Err.ensures.1).0

pub returns-in-Err-clause-filled : goal.returns-in-Err-clause-filled
returns-in-Err-clause-filled c = λ w s. (tells_none _ w c.args.id _ _ (subst (λ r. Represents r w) (sym c.self.view_is) s) c.in-Err.ensures.0 c.in-Err.ensures.1).1
