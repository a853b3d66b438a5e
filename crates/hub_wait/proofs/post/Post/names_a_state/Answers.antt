use Rattle.hub_wait.proofs.KeptPosts.{names_states}
use Rattle.hub_wait.proofs.post.Post.names_a_state.Goals as goal

pub returns : goal.returns
returns c = names_states
