use Rattle.std.proofs.Common.{rules}
use Rattle.hub_shared.proofs.WaitedNames.{posts_found, wait_refused}
use Rattle.hub_shared.proofs.shared_desk.waits.Posts.open.Goals as goal

pub returns-in-Ok-open_each-clause-opened : goal.returns-in-Ok-open_each-clause-opened
returns-in-Ok-open_each-clause-opened g c =
    posts_found c.find_each.new.fifodirs c.args.want c.args.names.now c.find_each.new.found.items c.open_each.new.posts.items c.in_ok-find_each.ensures.found c.in-Ok-open_each.ensures.opened

pub returns-in-Err-clause-refused : goal.returns-in-Err-clause-refused
returns-in-Err-clause-refused g c =
    let fifodirs = c.find_each.new.fifodirs in
    let found = c.find_each.new.found.items in
    wait_refused c.args.hub.now fifodirs c.args.names.now found c.in-Err.refusal c.in_ok-find_each.ensures.found c.in-Err.ensures.refused (search rules)
