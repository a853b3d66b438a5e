use Rattle.std.proofs.Common.{map}
use Rattle.hub_letters.specs.Marks.{mark}
use Rattle.hub_letters.proofs.Lawful.{lawful_from_followed, followed_from_lawful}
use Rattle.hub_letters.proofs.stage.Stage.accept_just_the_lawful_words.Goals as goal

pub returns : goal.returns
returns c = record {
  all = λ word l. followed_from_lawful (map mark word) l;
  only = λ word stage e. lawful_from_followed (map mark word) stage e;
}
