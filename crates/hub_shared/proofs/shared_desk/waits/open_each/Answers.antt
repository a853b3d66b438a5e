use Rattle.std.proofs.Common.{◌++◌, ◌∷◌, [], List, sym, subst, arith}
use Rattle.std.proofs.lemmas.Grind.{common_steps}
use Rattle.std.specs.Arc.{arc_value}
use Rattle.hub_names.specs.declared.hub.Made.{Made}
use Rattle.hub_wait.specs.declared.post.Post.{Post}
use Rattle.hub_wait.specs.Posts.{HasOpened}
use Rattle.hub_shared.specs.Waits.{AreOpened}
use Rattle.hub_shared.proofs.WaitedNames.{AllZip-push, next_found, next_taken, one_refuses, post_refused}
use Rattle.hub_shared.proofs.shared_desk.waits.open_each.Goals as goal

pub loop-made-preserved : goal.loop-made-preserved
loop-made-preserved g c =
    let it = c.loop-made in
    let made = c.in-Some.made in
    let post = c.in_ok-post.post in
    record {
      all = next_taken c.args.found.items it.yielded it.made-iterator.rest.items c.next.new.self.rest.items made it.invariant.all c.in-Some.ensures.steps.0;
      opened = subst (λ (posts : List Post). AreOpened c.args.want (it.yielded ++ made ∷ []) posts) (sym {A = List Post} c.push_reserved.ensures.items)
          (AllZip-push (λ (m : Made) (p : Post). HasOpened (arc_value m.dir) c.args.want m.notifies p) it.yielded it.posts.items made post it.invariant.opened c.in_ok-post.ensures.ok);
      count = grind (arith, common_steps);
      room = grind (arith, common_steps);
    }

pub returns-in_err-post-clause-refused : goal.returns-in_err-post-clause-refused
returns-in_err-post-clause-refused g c =
    let it = c.loop-made in
    let made = c.in-Some.made in
    let error = c.in_err-post.field-0.0 in
    let all = next_found c.args.found.items it.yielded it.made-iterator.rest.items c.next.new.self.rest.items made it.invariant.all c.in-Some.ensures.steps.0 in
    post_refused c.args.found.items error c.from_residual.result c.from_residual.ensures.1 (one_refuses it.yielded c.next.new.self.rest.items c.args.found.items made error all c.in_err-post.ensures.refused)
