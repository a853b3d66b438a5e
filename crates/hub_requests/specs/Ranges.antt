-- The ranges of a request's numbers.
use Rattle.std.specs.Prelude.{ℕ, ◌≤◌, List, length}
use Rattle.hub_record.specs.declared.limits.TheConstants.{MOST_EVENTS, MOST_WAITING}
use Rattle.hub_requests.specs.declared.bounds.TheConstants.{MOST_SERVICES, MOST_TAKEN, MOST_TURNS}
use Rattle.hub_requests.specs.declared.request.Request.{Request}
use Rattle.hub_requests.specs.declared.request.Request.TheVariants.{Dir, Svc, Take, Await, Next, Wait}

pub record AreLimits (waiting total : ℕ) : Type 0 where
  pub some_wait : 1 ≤ waiting
  pub few_wait : waiting ≤ MOST_WAITING
  pub some : 1 ≤ total
  pub within : total ≤ MOST_EVENTS

pub record IsTake (max : ℕ) : Type 0 where
  pub some : 1 ≤ max
  pub few : max ≤ MOST_TAKEN

pub record IsWait (turns : ℕ) (names : List (List ℕ)) : Type 0 where
  pub patient : turns ≤ MOST_TURNS
  pub some : 1 ≤ length names
  pub few : length names ≤ MOST_SERVICES

-- each number of the request is in its range
abbrev pub IsInRange : Request → Type 0
IsInRange (Dir name waiting total evict) = AreLimits waiting total
IsInRange (Svc name waiting total notifies evict) = AreLimits waiting total
IsInRange (Take id max) = IsTake max
IsInRange (Await id turns) = turns ≤ MOST_TURNS
IsInRange (Next id turns) = turns ≤ MOST_TURNS
IsInRange (Wait span want turns names) = IsWait turns names
IsInRange request = Unit {0}
