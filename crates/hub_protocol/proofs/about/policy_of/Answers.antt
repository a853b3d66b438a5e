use Rattle.std.proofs.Common.{ℕ, List, map, refl, rules}
use Rattle.hub_record.specs.declared.limits.Policy.{Policy}
use Rattle.hub_record.specs.declared.limits.Policy.TheVariants as policy
use Rattle.hub_requests.specs.Texts.{word_of_policy}
use Rattle.hub_protocol.specs.declared.about.TheConstants.{POLICIES}
use Rattle.hub_protocol.specs.Meanings.{HasWord}
use Rattle.hub_protocol.proofs.WordMeanings.{meant}
use Rattle.hub_protocol.proofs.about.policy_of.Goals as goal

abbrev policies : List (List ℕ × Policy)
policies = map (λ entry. (entry.0.now, entry.1)) POLICIES.now

has_word : (x : Policy) → HasWord policies (word_of_policy x)
has_word policy.Hold = refl
has_word x = refl

pub returns : goal.returns
returns c = meant word_of_policy policies c.args.word.now c.meaning_of.result has_word (search rules) c.meaning_of.ensures
