-- How a session ends whose replies were written in batches.
use Rattle.std.specs.Prelude.{◌≡◌, ◌<◌, ℕ, List, [], ◌++◌, length, flat_map, Option}
use Rattle.std.specs.Io.KnownBytes.{Appends, Consumes}
use Rattle.hub_requests.specs.declared.reply.Reply.{Reply}
use Rattle.hub_requests.specs.Texts.{text_of}
use Rattle.hub_io.specs.declared.fault.FrontError.{FrontError}
use Rattle.hub_io.specs.declared.fault.FrontError.TheVariants.{Write}
use Rattle.hub_front.specs.Serving.{Asking, Run, AreDue, StopsAt, Stopped, most_reads}
use Rattle.hub_front.specs.declared.stay.Stay.{Stay}
use Rattle.hub_front.specs.declared.stay.Stay.TheVariants.{Short, Long}

-- A write failed. The lines of a front were answered, and what was written is the beginning of what was held back before and of the
-- texts of their replies: some of it is lost.
pub record Loses {D : Type 0} (asks : Asking D) (old : D) (lines : List (List ℕ)) (held : List ℕ)
    (had has : Option (List ℕ)) (new : D) : Type 0 where
  pub front : List (List ℕ)
  pub after : List (List ℕ)
  pub among : lines ≡ front ++ after
  pub replies : List Reply
  pub run : Run asks old front replies new
  pub sent : List ℕ
  pub written : Appends had has sent
  pub lost : List ℕ
  pub some : 0 < length lost
  pub texts : held ++ flat_map text_of replies ≡ sent ++ lost

-- What a session did before it stopped, if its replies were written in batches. But for a write that failed it is what a session did that
-- wrote each by itself.
abbrev pub HaltsAt : {D : Type 0} → (most : ℕ) → Asking D → D → List ℕ → (held holds has : Option (List ℕ)) → D → FrontError → Type 0
HaltsAt most asks old input held holds has mid Write =
    (lines : List (List ℕ)) × AreDue input has lines × Loses asks old lines [] held holds mid
HaltsAt most asks old input held holds has mid e = StopsAt most asks old input held holds has mid e

-- a session that stopped so, and then ended its desk
pub record Halted {D : Type 0} (most : ℕ) (asks : Asking D) (ends : D → D → Type 0) (old new : D)
    (held holds had has : Option (List ℕ)) (e : FrontError) : Type 0 where
  pub input : List ℕ
  pub consumed : Consumes had has input
  pub mid : D
  pub halted : HaltsAt most asks old input held holds has mid e
  pub ended : ends mid new

-- A session that may stay short writes each reply by itself, and one that may stay long writes them in batches.
abbrev pub StoppedIn : {D : Type 0} → Stay → Asking D → (D → D → Type 0) → (old new : D) → (held holds had has : Option (List ℕ)) → FrontError → Type 0
StoppedIn Short asks ends old new held holds had has e = Stopped (most_reads Short) asks ends old new held holds had has e
StoppedIn Long asks ends old new held holds had has e = Halted (most_reads Long) asks ends old new held holds had has e
