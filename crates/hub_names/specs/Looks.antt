-- What a session saw of its hub's names, and the reply that lists them.
use Rattle.std.specs.Prelude.{◌≡◌, ◌≢◌, ◌≤◌, ℕ, List, [], length, drop, Some, ◌⊎◌}
use Rattle.std.specs.Str.{bytes_eq}
use Rattle.std.specs.Sync.RwLock.{read_guard_value}
use Rattle.indexmap.specs.IndexMap.{IsUnique, keys}
use Rattle.hub_requests.specs.Listings.{fitting, names_reply}
use Rattle.hub_requests.specs.declared.bounds.TheConstants.{MOST_NAMES}
use Rattle.hub_requests.specs.declared.reply.Refusal.TheVariants as no
use Rattle.hub_requests.specs.declared.reply.Reply.{Reply}
use Rattle.hub_requests.specs.declared.reply.Reply.TheVariants.{No}
use Rattle.hub_names.specs.declared.hub.Hub.{Hub}
use Rattle.hub_names.specs.declared.hub.named.Named.{Named}
use Rattle.hub_names.specs.declared.hub.looking.Looking.{Looking}
use Rattle.hub_names.specs.declared.hub.looking.NamesLook.{NamesLook}
use Rattle.hub_names.specs.declared.fifodirs.Fifodirs.{Fifodirs}

-- what the lock gave
abbrev pub given_by : NamesLook → Named
given_by look = look.named.value

-- the names that were seen, in the order in which they were made
abbrev pub names_seen : NamesLook → List (List ℕ)
names_seen look = keys (given_by look).fifodirs

-- at this hub at most 256 names were seen, and none twice
pub record IsLookAt (hub : Hub) (look : NamesLook) : Type 0 where
  pub hub_is : look.hub.value ≡ hub
  pub few : length (names_seen look) ≤ MOST_NAMES
  pub unlike : IsUnique bytes_eq (given_by look).fifodirs

-- ---- a lock that was taken for a look

abbrev pub hub_of : Looking → Hub
hub_of locked = locked.hub.now

abbrev pub locked_by : Looking → Named
locked_by locked = read_guard_value locked.named

-- ---- the list of names

-- the names from place `from` on, as many as fit; if there is one, memory may run out
abbrev pub Lists : List (List ℕ) → ℕ → Reply → Type 0
Lists names from reply = (reply ≡ names_reply names from) ⊎ ((reply ≡ No no.Memory) × (fitting (drop from names) ≢ []))

-- the session has looked at its hub, is told what it saw there, and keeps what it kept
pub record AsksNames (hub : Hub) (old : Fifodirs) (from : ℕ) (reply : Reply) (new : Fifodirs) : Type 0 where
  pub look : NamesLook
  pub looked : IsLookAt hub look
  pub lists : Lists (names_seen look) from reply
  pub kept : new ≡ record old { look = Some look }
