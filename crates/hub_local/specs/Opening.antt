-- What begins at a fifodir, compared with the model: the posts that a wait opens, and the subscription of a new handle.
use Rattle.std.specs.Prelude.{ℕ, Bool, ◌≡◌, ◌≢◌, if◌then◌else◌, List, [], ◌∷◌, ◌++◌, take, Option, Some, None, is_some, Result, Ok, Err, length}
use Rattle.std.specs.List.{list_all}
use Rattle.std.specs.Map.{lookup}
use Rattle.std.specs.Option.{option_and_then}
use Rattle.std.specs.Str.{bytes_eq}
use Rattle.hub_letters.specs.declared.want.Want.{Want}
use Rattle.hub_local.specs.Desks.{Fifodir, with_world}
use Rattle.hub_local.specs.Representing.{AreKept}
use Rattle.hub_local.specs.Waits.{so_far, opening_refused, with_post, opening_of}
use Rattle.hub_local.specs.declared.local_desk.LocalFifodir.{LocalFifodir}
use Rattle.hub_local.specs.declared.local_desk.waits.LocalPost.{LocalPost}
use Rattle.hub_requests.specs.declared.reply.Refusal.{Refusal}
use Rattle.hub_requests.specs.declared.reply.Refusal.TheVariants.{Name, Kind, Memory}
use Rattle.hub_record.specs.World.{World, after_subscribe}
use Rattle.hub_record.specs.declared.SubError.{SubError}
use Rattle.hub_local.specs.Replies.{subscribe_reply}
use Rattle.hub_requests.specs.Refusals.{refusal_of_sub}

-- ---- by name, among a desk's own fifodirs

abbrev pub is_there : List (List ℕ × LocalFifodir) → List ℕ → Bool
is_there entries name = is_some (lookup (bytes_eq name) entries)

abbrev pub is_service : List (List ℕ × LocalFifodir) → List ℕ → Bool
is_service entries name = is_some (option_and_then (λ f. f.reports) (lookup (bytes_eq name) entries))

-- the refusal that comes before those of the posts
abbrev pub refusal_among : List (List ℕ × LocalFifodir) → List (List ℕ) → Option Refusal
refusal_among entries names =
    if list_all (is_there entries) names then (if list_all (is_service entries) names then None else Some Kind) else Some Name

-- ---- posts

-- one more post is the model's; a refusal changes nothing, and is the model's unless memory ran out
abbrev pub OpensPost : Want → List ℕ → List Fifodir → Result LocalPost Refusal → List (List ℕ × LocalFifodir) → Type 0
OpensPost want name model (Ok post) new =
    (now : List Fifodir) × AreKept new now × ((posts : List LocalPost) → with_post want (so_far model posts) name ≡ so_far now (posts ++ post ∷ []))
OpensPost want name model (Err refusal) new =
    AreKept new model × (refusal ≢ Memory → (posts : List LocalPost) → with_post want (so_far model posts) name ≡ opening_refused model posts refusal)

-- the current posts are the model's for some of the names, from the first on
pub record OpensSome (want : Want) (names : List (List ℕ)) (model now : List Fifodir) (posts : List LocalPost) : Type 0 where
  pub count : ℕ
  pub opened : opening_of want model (take count names) ≡ so_far now posts

-- the posts are the model's; if memory ran out they are those for some of the names
abbrev pub OpensAll : Want → List (List ℕ) → List Fifodir → Result (Unit {0}) Refusal → List (List ℕ × LocalFifodir) → List LocalPost → Type 0
OpensAll want names model (Ok done) new posts = (now : List Fifodir) × AreKept new now × (opening_of want model names ≡ so_far now posts)
OpensAll want names model (Err refusal) new posts =
    (now : List Fifodir) × AreKept new now × OpensSome want names model now posts × (refusal ≢ Memory → opening_of want model names ≡ opening_refused now posts refusal)

-- ---- the subscription that a new handle is for, compared with the model's

pub record IsBegun (name : List ℕ) (model : List Fifodir) (w : World) (id : ℕ) (new : List (List ℕ × LocalFifodir)) : Type 0 where
  pub said : subscribe_reply w ≡ Ok (id, length w.events)
  pub kept : AreKept new (with_world model name (after_subscribe w (subscribe_reply w)))

pub record IsModelsRefusal (w : World) (refusal : Refusal) : Type 0 where
  pub error : SubError
  pub said : subscribe_reply w ≡ Err error
  pub named : refusal ≡ refusal_of_sub error

-- a new subscription is the model's; a refusal changes nothing, and is the model's unless memory ran out
abbrev pub Begins : List ℕ → World → List Fifodir → Result (List ℕ × ℕ) Refusal → List (List ℕ × LocalFifodir) → Type 0
Begins name w model (Ok begun) new = IsBegun name model w begun.1 new
Begins name w model (Err refusal) new = AreKept new model × (refusal ≢ Memory → IsModelsRefusal w refusal)
