-- The posts that a wait has opened.
use Rattle.std.specs.Prelude.{List}
use Rattle.hub_wait.specs.declared.post.Post.{Post}
use Rattle.hub_shared.specs.declared.shared_desk.waits.Posts.{Posts}

abbrev pub posts_of : Posts → List Post
posts_of opened = opened.posts.items
