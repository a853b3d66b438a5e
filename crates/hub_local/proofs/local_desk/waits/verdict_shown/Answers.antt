use Rattle.std.proofs.Common.{◌++◌, ◌∷◌, [], List, ℕ, Option, map, take, ap, sym, ◌∙◌, arith}
use Rattle.hub_local.specs.Waits.{number_of}
use Rattle.hub_local.proofs.Posts.{map_more, tallied_more}
use Rattle.hub_local.proofs.local_desk.waits.verdict_shown.Goals as goal

pub loop-post-preserved : goal.loop-post-preserved
loop-post-preserved c =
    let i = c.loop-post.post-index in
    let xs = c.args.posts.now in
    let post = c.post-item.result in
    record {
      tally = tallied_more c.args.span xs i post c.add.new.self c.loop-post-test.true c.post-item.is (c.add.ensures c.args.span _ c.loop-post.invariant.tally);
      shown = c.push_reserved.ensures.items
          ∙ ap (λ (ns : List (Option ℕ)). ns ++ c.number_of.result ∷ []) c.loop-post.invariant.shown
          ∙ ap (λ (n : Option ℕ). map number_of (take i xs) ++ n ∷ []) c.number_of.ensures
          ∙ sym (map_more number_of xs i post c.loop-post-test.true c.post-item.is);
      count = (let l = c.push_reserved.ensures.len in let n = c.loop-post.invariant.count in omega arith);
      room = (let l = c.push_reserved.ensures.capacity in let n = c.loop-post.invariant.room in omega arith);
    }
