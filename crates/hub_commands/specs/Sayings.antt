-- The lines that say for what a wait waits, if it isn't for a service yet.
use Rattle.std.specs.Prelude.{◌≡◌, ◌⊎◌, ℕ, List, [], ◌∷◌, ◌++◌, length, All, ◌==◌, if◌then◌else◌, codes, true, false, Option}
use Rattle.hub_ask.specs.Lines.{joined}
use Rattle.hub_ask.specs.Streams.{IsToldTo}
use Rattle.hub_commands.specs.Missing.{IsMissing}
use Rattle.hub_commands.specs.declared.saying.Sayings.{Sayings}

-- about the hub at this socket
abbrev pub hub_line : (socket : List ℕ) → List ℕ
hub_line socket = codes "ftrighub: waiting for the hub at " ++ (socket ++ codes "\n")

abbrev pub are : (names : ℕ) → List ℕ
are names = if names == 1 then codes "is" else codes "are"

abbrev pub there_text : (there : List ℕ) → List ℕ
there_text [] = codes "no names"
there_text (byte ∷ bytes) = byte ∷ bytes

-- what is said of names that a hub lacks; text gives the bytes of one
abbrev pub missing_text : {Name : Type 0} → (text : Name → List ℕ) → (missing : List Name) → List ℕ
missing_text text missing = joined text missing ++ (codes " " ++ are (length missing))

-- and of those that it has
abbrev pub has_text : (there : List ℕ) → List ℕ
has_text there = codes " made (the hub has " ++ (there_text there ++ codes ")\n")

-- about both
abbrev pub names_line : {Name : Type 0} → (text : Name → List ℕ) → (missing : List Name) → (there : List ℕ) → List ℕ
names_line text missing there = codes "ftrighub: waiting until " ++ (missing_text text missing ++ has_text there)

-- a line that was said stays said
abbrev pub AreSaid : (old new : Sayings) → Type 0
AreSaid old new = (old.hub.is_said ≡ true → new.hub.is_said ≡ true) × (old.names.is_said ≡ true → new.names.is_said ≡ true)

-- The line about the hub was written, which wasn't said before and is now; or none.
abbrev pub HubIsSaid : (old new : Sayings) → (socket : List ℕ) → (noted notes : Option (List ℕ)) → (faults failed : Option ℕ) → Type 0
HubIsSaid old new socket noted notes faults failed = ((notes ≡ noted) × (failed ≡ faults))
    ⊎ ((old.hub.is_said ≡ false) × (new.hub.is_said ≡ true) × IsToldTo noted notes faults failed (hub_line socket))

-- The line about names was written, which wasn't said before and is now, and none of those that it names as missing is there; or no line.
abbrev pub NamesAreSaid : {Name : Type 0} → (text : Name → List ℕ) → (old new : Sayings) → (noted notes : Option (List ℕ)) → (faults failed : Option ℕ) → Type 0
NamesAreSaid {Name} text old new noted notes faults failed = ((notes ≡ noted) × (failed ≡ faults))
    ⊎ ((old.names.is_said ≡ false) × (new.names.is_said ≡ true) × (missing : List Name) × (there : List ℕ)
    × All (λ name. IsMissing there (text name)) missing × IsToldTo noted notes faults failed (names_line text missing there))
