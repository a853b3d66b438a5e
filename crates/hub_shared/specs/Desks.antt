-- What a session is answered, and what it leaves.
use Rattle.std.specs.Prelude.{◌≡◌, ℕ, List, [], Bool, false, Option, Some, ◌⊎◌}
use Rattle.std.specs.Arc.{arc_value}
use Rattle.hub_io.specs.declared.client.Client.{Client}
use Rattle.hub_record.specs.declared.Kind.{Kind}
use Rattle.hub_record.specs.declared.Kind.TheVariants.{Plain, Service}
use Rattle.hub_record.specs.declared.limits.Limits.{Limits}
use Rattle.hub_record.specs.LimitsOf.{limits_of}
use Rattle.hub_record.specs.declared.limits.TheConstants.{MOST_IDS}
use Rattle.hub_requests.specs.Room.{policy_of}
use Rattle.hub_requests.specs.declared.reply.Reply.{Reply}
use Rattle.hub_requests.specs.declared.reply.Reply.TheVariants.{No}
use Rattle.hub_requests.specs.declared.request.Request.{Request}
use Rattle.hub_requests.specs.declared.request.Request.TheVariants.{Dir, Svc, Sub, Pub, Tell, Will, Close, Status, About, Listen, Wait, Names}
use Rattle.hub_names.specs.declared.hub.Hub.{Hub}
use Rattle.hub_names.specs.declared.fifodirs.Fifodirs.{Fifodirs}
use Rattle.hub_letters.specs.declared.mode.Mode.{Mode}
use Rattle.hub_handles.specs.declared.handles.Handles.{Handles}
use Rattle.hub_names.specs.declared.joined.Joined.{Joined}
use Rattle.hub_shared.specs.declared.shared_desk.SharedDesk.{SharedDesk}
use Rattle.hub_names.specs.Speaking.{fifodir_of}
use Rattle.hub_names.specs.Says.{says_published, says_closed, says_status}
use Rattle.hub_names.specs.Fifodirs.{joined_at, AsksByName, DescribesByName, TellsByName, IsMissing, KeepsAll, KeepsNone}
use Rattle.hub_names.specs.Looks.{AsksNames}
use Rattle.hub_names.specs.Changes.{MakesName}
use Rattle.hub_names.specs.Wills.{AreCarriedOut, WillsByName, wills_after}
use Rattle.hub_requests.specs.Wills.{wills_in}
use Rattle.hub_requests.specs.declared.will.Will as wills
use Rattle.hub_handles.specs.Handles.{Subscribes, Listens, HoldsNone, given_of}
use Rattle.hub_handles.specs.Requests.{AsksHandle}
use Rattle.hub_shared.specs.Waits.{WaitsFor, IsWaitRefusal}

-- A fifodir of this kind, with the limits that were asked for, was made in the hub under the name, or why not.
abbrev pub IsMadeReply : Hub → Kind → ℕ → ℕ → Bool → Bool → Fifodirs → List ℕ → Reply → Fifodirs → Type 0
IsMadeReply hub kind waiting total notifies evict fs name reply gs =
    (limits : Limits) × (limits_of waiting total MOST_IDS (policy_of evict) ≡ Some limits) × MakesName hub kind limits notifies fs name reply gs

-- no fifodir was found by the name
abbrev pub IsUnfoundReply : Hub → Fifodirs → List ℕ → Reply → Type 0
IsUnfoundReply hub fs name (No refusal) = IsMissing hub fs name refusal
IsUnfoundReply hub fs name _ = ⊥

-- a handle on the fifodir that is kept under the name; where it isn't found, or refuses, no handle is given
abbrev pub SubscribesTo : Hub → Fifodirs → List ℕ → Handles → Reply → Handles → Type 0
SubscribesTo hub fs name old reply new = ((j : Joined) × (joined_at fs name ≡ Some j) × Subscribes name (fifodir_of j) old reply new) ⊎ (IsUnfoundReply hub fs name reply × (new ≡ old))

abbrev pub ListensTo : Hub → Fifodirs → List ℕ → Mode → List ℕ → Handles → Reply → Handles → Type 0
ListensTo hub fs name mode pattern old reply new = ((j : Joined) × (joined_at fs name ≡ Some j) × Listens name (fifodir_of j) mode pattern old reply new) ⊎ (IsUnfoundReply hub fs name reply × (new ≡ old))

-- What a request leads to. Of what the hub has, which other sessions change, nothing can be said but by what the
-- session's own passes see, and by what the hub's lock gave when the session looked or made a name.
abbrev pub CarriesOut : Hub → Fifodirs → Handles → Request → Reply → Fifodirs → Handles → Type 0
CarriesOut hub fs hs (Dir name waiting total evict) reply gs ks = IsMadeReply hub Plain waiting total false evict fs name reply gs × (ks ≡ hs)
CarriesOut hub fs hs (Svc name waiting total notifies evict) reply gs ks = IsMadeReply hub Service waiting total notifies evict fs name reply gs × (ks ≡ hs)
CarriesOut hub fs hs (Sub name) reply gs ks = KeepsAll hub fs gs × SubscribesTo hub gs name hs reply ks
CarriesOut hub fs hs (Pub name letters) reply gs ks = AsksByName hub (says_published letters) fs name reply gs × (ks ≡ hs)
CarriesOut hub fs hs (Tell name state) reply gs ks = TellsByName hub state fs name reply gs × (ks ≡ hs)
CarriesOut hub fs hs (Will name will) reply gs ks = WillsByName hub fs name reply gs × (ks ≡ hs)
CarriesOut hub fs hs (Close name) reply gs ks = AsksByName hub says_closed fs name reply gs × (ks ≡ hs)
CarriesOut hub fs hs (Status name) reply gs ks = AsksByName hub says_status fs name reply gs × (ks ≡ hs)
CarriesOut hub fs hs (About name) reply gs ks = DescribesByName hub fs name reply gs × (ks ≡ hs)
CarriesOut hub fs hs (Listen name mode pattern) reply gs ks = KeepsAll hub fs gs × ListensTo hub gs name mode pattern hs reply ks
CarriesOut hub fs hs (Wait span want turns names) reply gs ks = KeepsAll hub fs gs × (WaitsFor gs span want names reply ⊎ IsWaitRefusal hub gs names reply) × (ks ≡ hs)
CarriesOut hub fs hs (Names from) reply gs ks = AsksNames hub fs from reply gs × (ks ≡ hs)
CarriesOut hub fs hs request reply gs ks = (gs ≡ fs) × AsksHandle hs request reply ks

-- the wills that the session has after a request: only one for a will that is accepted changes them
abbrev pub wills_left : Request → Reply → List (List ℕ × wills.Will) → List (List ℕ × wills.Will)
wills_left (Will name will) reply given = wills_after name will reply given
wills_left request reply given = given

-- all is given back: no handle and no publisher is kept, and no number is given again
pub record Ends (old : Handles) (fs : Fifodirs) (hs : Handles) : Type 0 where
  pub fifodirs : KeepsNone fs
  pub handles : HoldsNone hs
  pub given : given_of hs ≡ given_of old

-- the wills were carried out one after the other, of which so many were refused at fifodirs that are open
abbrev pub FollowsWills : Fifodirs → List (List ℕ × wills.Will) → ℕ → Type 0
FollowsWills fs given lost = (left : Fifodirs) × AreCarriedOut fs given lost left

-- ---- what contracts see of a desk

-- how many wills its last end couldn't carry out
abbrev pub lost_by : {P : Type 0} → SharedDesk P → ℕ
lost_by desk = desk.lost

-- A desk over the hub, with this pause for its waits, that has found no fifodir and given no handle. `over` tells hubs
-- apart by the mark that each has. No contract says which mark it is, so the marks of two hubs are never shown to be equal.
pub record IsNewDesk {P : Type 0} (hub : Hub) (pause : P) (desk : SharedDesk P) : Type 0 where
  pub over : arc_value desk.hub ≡ hub
  pub waits : desk.pause ≡ pause
  pub fifodirs : KeepsNone desk.fifodirs
  pub handles : HoldsNone desk.handles
  pub given : given_of desk.handles ≡ 0
  pub wills : wills_in desk.wills ≡ []
  pub lost : desk.lost ≡ 0

-- the desk looks at this client from now on, and nothing else has changed
pub record Watches {P : Type 0} (old : SharedDesk P) (client : Option Client) (new : SharedDesk P) : Type 0 where
  pub hub : new.hub ≡ old.hub
  pub pause : new.pause ≡ old.pause
  pub client_is : new.client ≡ client
  pub fifodirs : new.fifodirs ≡ old.fifodirs
  pub handles : new.handles ≡ old.handles
  pub wills : new.wills ≡ old.wills
  pub lost : new.lost ≡ old.lost

-- the desk answers so and goes on, over the same hub, with the same pause and for the same client; no will is carried out
pub record Asks {P : Type 0} (old : SharedDesk P) (request : Request) (reply : Reply) (new : SharedDesk P) : Type 0 where
  pub hub : new.hub ≡ old.hub
  pub pause : new.pause ≡ old.pause
  pub client : new.client ≡ old.client
  pub lost : new.lost ≡ old.lost
  pub answers : CarriesOut (arc_value old.hub) old.fifodirs old.handles request reply new.fifodirs new.handles
  pub wills : wills_in new.wills ≡ wills_left request reply (wills_in old.wills)

pub record IsEnded {P : Type 0} (old new : SharedDesk P) : Type 0 where
  pub hub : new.hub ≡ old.hub
  pub pause : new.pause ≡ old.pause
  pub client : new.client ≡ old.client
  pub ends : Ends old.handles new.fifodirs new.handles
  pub wills : FollowsWills old.fifodirs (wills_in old.wills) new.lost
  pub none_left : wills_in new.wills ≡ []
