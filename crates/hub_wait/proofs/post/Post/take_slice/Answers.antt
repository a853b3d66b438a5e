use Rattle.std.proofs.Common.{rules, sym, subst}
use Rattle.hub_wait.specs.Reading.{Reads}
use Rattle.hub_wait.proofs.Takes.{Reads-stepped, Reads-evicted}
use Rattle.hub_wait.proofs.post.Post.take_slice.Goals as goal

pub invariant_of-self : goal.invariant_of-self
invariant_of-self g c =
    let p = c.in-Got.ensures.remains.of in let d = c.deref.ensures in let q = c.args.self.now.of in
    record {
      of = search (rules, p, d);
      waits = c.args.self.now.waits;
      sound = ∣ c.in-Got.ensures.remains.sound ∣₁;
      reads = Reads-stepped _ _ _ _ _ _ _ _ _ c.args.self.now.reads c.in-Got.ensures.remains.seen c.in-Got.ensures.mark (search (rules, p, d, q)) c.in-Got.ensures.took c.in-Got.ensures.filled c.next-first.ensures c.step_by_events.ensures;
    }

pub invariant_of-self-in-Evicted-clause-reads : goal.invariant_of-self-in-Evicted-clause-reads
invariant_of-self-in-Evicted-clause-reads g c =
    let p = c.in-Evicted.ensures.remains.of in let d = c.deref.ensures in let q = c.args.self.now.of in
    subst (Reads c.status.new.me) (sym c.renew.ensures)
    (Reads-evicted c.args.self.now.ticket c.take_into.new.me c.status.new.me _ _ c.args.self.now.reads c.in-Evicted.ensures.remains.seen c.in-Evicted.ensures.mark (search (rules, p, d, q)) c.in-Evicted.ensures.took c.status.ensures.remains.seen c.status.ensures.looks c.status.ensures.status)
