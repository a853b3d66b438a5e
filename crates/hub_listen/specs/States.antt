-- Lists of states, and what their fields keep.
use Rattle.std.specs.Prelude.{ℕ, List, ◌≡◌, ◌<◌, ◌≤◌, length, vec_capacity, All}
use Rattle.regex_vm.specs.Bits.{members}
use Rattle.regex_dfa.specs.Walks.{Tracks}
use Rattle.hub_listen.specs.declared.states.States.TheInside.{Inside}

-- some of the states below a count
pub record StateList : Type 0 where
  pub count : ℕ
  pub items : List ℕ

-- ---- what the fields of a list of states keep

abbrev pub list_of : Inside → StateList
list_of a = record { count = length a.set; items = a.list.items }

-- The set has the states of the list, each is in the list once, and there is room for all of them, and for no more.
pub record IsListed (a : Inside) : Type 0 where
  pub tracks : Tracks a.set a.list.items
  pub within : All (λ q. q < length a.set) a.list.items
  pub counted : members a.set ≡ length a.list.items
  pub few : length a.list.items ≤ length a.set
  pub room : vec_capacity a.list ≡ length a.set
