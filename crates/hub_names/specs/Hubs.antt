-- What a hub has under its names.
use Rattle.std.specs.Prelude.{◌≡◌, ℕ, List, Bool, Option, option_map}
use Rattle.std.specs.Prelude.{Some}
use Rattle.std.specs.Arc.{arc_value}
use Rattle.std.specs.Str.{bytes_eq}
use Rattle.indexmap.specs.IndexMap.{get}
use Rattle.hub_fifodir.specs.declared.fifodir.Fifodir.{Fifodir}
use Rattle.hub_fifodir.specs.Passes.{kind_of, limits_of}
use Rattle.hub_record.specs.declared.Kind.{Kind}
use Rattle.hub_record.specs.declared.limits.Limits.{Limits}
use Rattle.hub_names.specs.declared.hub.Found.{Found}
use Rattle.hub_names.specs.declared.hub.Hub.{Hub}
use Rattle.hub_names.specs.declared.hub.Made.{Made}
use Rattle.hub_names.specs.declared.hub.looking.NamesLook.{NamesLook}
use Rattle.hub_names.specs.Looks.{IsLookAt, given_by}

-- the fifodir, and whether its service reports readiness
abbrev pub found_as : Made → Fifodir × Bool
found_as made = (arc_value made.dir, made.notifies)

abbrev pub given_as : Found → Fifodir × Bool
given_as found = (arc_value found.dir, found.notifies)

-- it is of this kind, has these limits, and its service reports readiness where this is so
pub record IsMadeAs (kind : Kind) (limits : Limits) (notifies : Bool) (made : Made) : Type 0 where
  pub kind_is : kind_of (arc_value made.dir) ≡ kind
  pub limits_are : limits_of (arc_value made.dir) ≡ limits
  pub notifies_is : made.notifies ≡ notifies

-- such a fifodir has the name
abbrev pub HasMade : Kind → Limits → Bool → Option Made → Type 0
HasMade kind limits notifies under = (made : Made) × (under ≡ Some made) × IsMadeAs kind limits notifies made

-- what the hub then had under exactly this name
abbrev pub seen_under : NamesLook → List ℕ → Option (Fifodir × Bool)
seen_under look name = option_map found_as (get bytes_eq (given_by look).fifodirs name)

-- a look at the hub saw it under this name
pub record IsFoundIn (hub : Hub) (name : List ℕ) (found : Found) : Type 0 where
  pub looked : IsLookAt hub found.look
  pub seen : seen_under found.look name ≡ Some (given_as found)
