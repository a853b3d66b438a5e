use Rattle.std.proofs.Common.{◌∙◌, length, sym, subst, rules, tests}
use Rattle.std.proofs.lemmas.Iterator.Consumers.{YieldsList-turn, YieldsList-end}
use Rattle.std.proofs.lemmas.Iterator.Splits.{YieldsList-from_slice_split}
use Rattle.hub_protocol.specs.Spelling.{IsName}
use Rattle.hub_protocol.specs.Spelling.{is_space}
use Rattle.hub_protocol.proofs.requests.names_of.Goals as goal

pub name_of-requires : goal.name_of-requires
name_of-requires c =
    let turn = YieldsList-turn
    (YieldsList-from_slice_split {s = c.into_iter-name-iterator.result} _ is_space c.args.text.now (search rules) (search rules) (search rules) (λ x r q k. search (rules, tests)))
    c.loop-name.yielded c.loop-name.name-iterator c.loop-name.yielded_by c.next.result c.next.new.self c.in-Some.name c.in-Some.is c.next.ensures.steps in
    subst IsName (sym turn.1) (c.requires.each (length c.loop-name.yielded) c.in-Some.name.now turn.0)

pub returns : goal.returns
returns c =
    let end = YieldsList-end
    (YieldsList-from_slice_split {s = c.into_iter-name-iterator.result} _ is_space c.args.text.now (search rules) (search rules) (search rules) (λ x r q k. search (rules, tests)))
    c.loop-name.yielded c.loop-name.name-iterator c.loop-name.yielded_by c.next.result c.next.new.self c.in-None.is c.next.ensures.steps in
    c.of.ensures ∙ c.loop-name.invariant.2 ∙ end.0
