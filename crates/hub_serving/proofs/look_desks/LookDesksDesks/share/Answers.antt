use Rattle.hub_serving.proofs.look_desks.LookDesksDesks.share.Goals as goal

pub returns : goal.returns
returns g c = record {
  opened = λ desk begun. c.in_ok-desks.ensures.opened desk.below begun;
  as_long = c.in_ok-desks.ensures.as_long;
}
