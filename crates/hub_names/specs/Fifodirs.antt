-- The fifodirs that a session keeps, by name.
use Rattle.std.specs.Prelude.{◌≡◌, List, [], ℕ, Option, None, Some, false, ◌⊎◌}
use Rattle.std.specs.Arc.{arc_value}
use Rattle.std.specs.Map.{lookup}
use Rattle.std.specs.Str.{bytes_eq}
use Rattle.hub_requests.specs.declared.reply.Refusal.{Refusal}
use Rattle.hub_requests.specs.declared.reply.Refusal.TheVariants as no
use Rattle.hub_requests.specs.declared.reply.Reply.{Reply}
use Rattle.hub_requests.specs.declared.reply.Reply.TheVariants.{No}
use Rattle.hub_letters.specs.declared.state.State.{State}
use Rattle.hub_fifodir.specs.declared.publisher.Publisher.{Publisher}
use Rattle.hub_names.specs.declared.hub.Hub.{Hub}
use Rattle.hub_names.specs.declared.hub.Made.{Made}
use Rattle.hub_names.specs.declared.fifodirs.Fifodirs.{Fifodirs}
use Rattle.hub_names.specs.declared.joined.Joined.{Joined}
use Rattle.hub_names.specs.declared.hub.looking.NamesLook.{NamesLook}
use Rattle.hub_names.specs.Hubs.{IsFoundIn, seen_under}
use Rattle.hub_names.specs.Looks.{IsLookAt}
use Rattle.hub_names.specs.Speaking.{AsksAsPublisher, Describes, Tells, fifodir_of, notifies_of, publisher_of}

-- what is kept under the name
abbrev pub joined_at : Fifodirs → List ℕ → Option Joined
joined_at fs name = lookup (bytes_eq name) fs.by_name.entries

abbrev pub KeepsNone : Fifodirs → Type 0
KeepsNone fs = fs.by_name.entries ≡ []

-- this is kept under the name, and nothing else has changed
pub record Keeps (old : Fifodirs) (name : List ℕ) (j : Joined) (new : Fifodirs) : Type 0 where
  pub here : joined_at new name ≡ Some j
  pub others : (other : List ℕ) → bytes_eq name other ≡ false → joined_at new other ≡ joined_at old other

-- it was found in the hub by this name just now, and has no publisher yet
pub record IsNewIn (hub : Hub) (name : List ℕ) (j : Joined) : Type 0 where
  pub silent : j.publisher ≡ None
  pub found : IsFoundIn hub name j.found

-- what is kept under the name, or what was found in the hub by it just now
abbrev pub IsFound : Hub → Fifodirs → List ℕ → Joined → Type 0
IsFound hub fs name j = (joined_at fs name ≡ Some j) ⊎ ((joined_at fs name ≡ None) × IsNewIn hub name j)

-- the name has a fifodir now
pub record Joins (hub : Hub) (old : Fifodirs) (name : List ℕ) (new : Fifodirs) : Type 0 where
  pub joined : Joined
  pub found : IsFound hub old name joined
  pub keeps : Keeps old name joined new

abbrev pub IsAsBefore : Fifodirs → Fifodirs → Type 0
IsAsBefore old new = new.by_name.entries ≡ old.by_name.entries

-- no publisher is kept under the name
abbrev pub IsSilent : Fifodirs → List ℕ → Type 0
IsSilent fs name = (j : Joined) → joined_at fs name ≡ Some j → publisher_of j ≡ None

-- a copy of what is kept under the name
pub record IsKeptAs (fs : Fifodirs) (name : List ℕ) (found : Made) : Type 0 where
  pub joined : Joined
  pub kept_is : joined_at fs name ≡ Some joined
  pub dir : arc_value found.dir ≡ fifodir_of joined
  pub notifies : found.notifies ≡ notifies_of joined

-- the session's last look at the hub saw no fifodir under the name
pub record HasMissed (hub : Hub) (name : List ℕ) (fs : Fifodirs) : Type 0 where
  pub look : NamesLook
  pub last : fs.look ≡ Some look
  pub looked : IsLookAt hub look
  pub none : seen_under look name ≡ None

-- the name has no fifodir, or there is no memory to find it
abbrev pub IsSoughtBy : Hub → List ℕ → Fifodirs → Refusal → Type 0
IsSoughtBy hub name fs refusal = ((refusal ≡ no.Name) × HasMissed hub name fs) ⊎ (refusal ≡ no.Memory)

-- the name wasn't known before, and isn't now
pub record IsFinding (hub : Hub) (old : Fifodirs) (name : List ℕ) (new : Fifodirs) (refusal : Refusal) : Type 0 where
  pub unknown : joined_at old name ≡ None
  pub before : IsAsBefore old new
  pub refused : IsSoughtBy hub name new refusal

abbrev pub IsMissed : Hub → Fifodirs → List ℕ → Type 0
IsMissed hub fs name = (joined_at fs name ≡ None) × HasMissed hub name fs

-- the name isn't known, and was missed; or there is no memory to find it
abbrev pub IsMissing : Hub → Fifodirs → List ℕ → Refusal → Type 0
IsMissing hub fs name refusal = ((refusal ≡ no.Name) × IsMissed hub fs name) ⊎ (refusal ≡ no.Memory)

-- asked of what is kept under the name
pub record AsksKept (hub : Hub) (asks : Joined → Reply → Joined → Type 0) (old : Fifodirs) (name : List ℕ) (reply : Reply) (new : Fifodirs) : Type 0 where
  pub before : Joined
  pub after : Joined
  pub found : IsFound hub old name before
  pub asked : asks before reply after
  pub keeps : Keeps old name after new

pub record IsUnfound (hub : Hub) (old : Fifodirs) (name : List ℕ) (reply : Reply) (new : Fifodirs) : Type 0 where
  pub refusal : Refusal
  pub said : reply ≡ No refusal
  pub finding : IsFinding hub old name new refusal

abbrev pub AsksUnder : Hub → (Joined → Reply → Joined → Type 0) → Fifodirs → List ℕ → Reply → Fifodirs → Type 0
AsksUnder hub asks old name reply new = AsksKept hub asks old name reply new ⊎ IsUnfound hub old name reply new

-- asked of the publisher under the name
abbrev pub AsksByName : Hub → (Publisher → Reply → Publisher → Type 0) → Fifodirs → List ℕ → Reply → Fifodirs → Type 0
AsksByName hub says old name reply new = AsksUnder hub (AsksAsPublisher says) old name reply new

-- the service under the name is told where it is
abbrev pub TellsByName : Hub → State → Fifodirs → List ℕ → Reply → Fifodirs → Type 0
TellsByName hub state old name reply new = AsksUnder hub (Tells state) old name reply new

-- the session is told about the fifodir under the name
abbrev pub DescribesByName : Hub → Fifodirs → List ℕ → Reply → Fifodirs → Type 0
DescribesByName hub old name reply new = AsksUnder hub Describes old name reply new

-- whatever was kept is kept still
pub record KeepsAll (hub : Hub) (old new : Fifodirs) : Type 0 where
  pub each : (name : List ℕ) (j : Joined) → joined_at old name ≡ Some j → joined_at new name ≡ Some j
  -- and what is new was found in the hub by its name
  pub fresh : (name : List ℕ) (j : Joined) → joined_at new name ≡ Some j → joined_at old name ≡ None → IsNewIn hub name j
