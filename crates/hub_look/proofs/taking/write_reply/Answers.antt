use Rattle.std.proofs.Common.{subst}
use Rattle.hub_protocol.specs.Replies.{Shows}
use Rattle.hub_look.specs.Follows.{manner_of}
use Rattle.hub_look.proofs.Takes.{settled_end, settled_eviction, settled_hit, settled_letters, settled_refusal}
use Rattle.hub_look.proofs.taking.write_reply.Goals as goal

pub returns-in-Got-clause-ok : goal.returns-in-Got-clause-ok
returns-in-Got-clause-ok g c = λ it shows.
    settled_letters (manner_of c.args.following.now) c.args.followed.now _ _ _ _ _ c.in-Got.letters c.written_of-letters.result.now c.write_letters.result it (subst (λ read. Shows read it) c.in-Got.is shows) c.written_of-letters.ensures c.write_letters.ensures.ok c.write_letters.ensures.moved

pub returns-in-Hit-clause-ok : goal.returns-in-Hit-clause-ok
returns-in-Hit-clause-ok g c = λ it shows.
    settled_hit (manner_of c.args.following.now) c.args.followed.now _ _ _ _ _ c.in-Hit.letters c.write_letters-in-Hit.result it (subst (λ read. Shows read it) c.in-Hit.is shows) c.write_letters-in-Hit.ensures.ok c.write_letters-in-Hit.ensures.moved

pub returns-in-End-clause-ok : goal.returns-in-End-clause-ok
returns-in-End-clause-ok g c = λ it shows. settled_end (manner_of c.args.following.now) c.args.followed.now _ _ _ it (subst (λ read. Shows read it) c.in-End.is shows)

pub returns-in_ok-tell-in-Evicted-clause-ok : goal.returns-in_ok-tell-in-Evicted-clause-ok
returns-in_ok-tell-in-Evicted-clause-ok g c = λ it shows.
    settled_eviction (manner_of c.args.following.now) c.args.followed.now _ _ _ _ _ c.as_str.result.now it (subst (λ read. Shows read it) c.in-Evicted.is shows) c.as_str.ensures.value c.in_ok-tell-in-Evicted.ensures.ok

pub returns-in_ok-tell_refusal-in-No-clause-ok : goal.returns-in_ok-tell_refusal-in-No-clause-ok
returns-in_ok-tell_refusal-in-No-clause-ok g c = λ it shows.
    settled_refusal (manner_of c.args.following.now) c.args.followed.now _ _ _ _ _ c.as_str-in-No.result.now c.in-No.refusal it (subst (λ read. Shows read it) c.in-No.is shows) c.as_str-in-No.ensures.value c.in_ok-tell_refusal-in-No.ensures.ok
