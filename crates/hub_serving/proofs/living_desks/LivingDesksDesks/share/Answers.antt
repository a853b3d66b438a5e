use Rattle.hub_serving.proofs.living_desks.LivingDesksDesks.share.Goals as goal

pub returns : goal.returns
returns g c = record {
  opened = λ desk opened. (c.in_ok-desks.ensures.opened desk.below.below opened.0, opened.1);
  as_long = c.in_ok-desks.ensures.as_long;
}
