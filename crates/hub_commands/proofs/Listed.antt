-- The names of a hub that were asked for.
use Rattle.std.proofs.Common.{◌≡◌, ◌∙◌, ℕ, List, [], ◌∷◌, ◌++◌, map, All, Bool, true, false, Option, Result, Ok, Err, OnOk, OnErr, inl, inr, ap, sym, subst, append-nil, refl}
use Rattle.std.proofs.KnownBytes.{Appends-nil}
use Rattle.std.proofs.lemmas.List.{map-append}
use Rattle.std.specs.Io.KnownBytes.{Appends}
use Rattle.hub_ask.specs.Asking.{FailsToHear, Hears}
use Rattle.hub_ask.specs.Sending.{SendsFront, lines_of_requests}
use Rattle.hub_ask.specs.declared.fault.AskError.{AskError}
use Rattle.hub_ask.specs.declared.heard.Heard.{Heard}
use Rattle.hub_ask.proofs.Sent.{asks_more, fails_more, fronts_none}
use Rattle.hub_ask.specs.Streams.{IsToldTo}
use Rattle.hub_commands.specs.Missing.{AsksNames, IsMissing}
use Rattle.hub_commands.specs.Sayings.{NamesAreSaid, names_line}
use Rattle.hub_commands.specs.Waiting.{AsksAfterTry}
use Rattle.hub_commands.specs.declared.saying.Sayings.{Sayings}
use Rattle.hub_ask.specs.declared.client.Client.{Client}
use Rattle.hub_endings.specs.declared.fault.Fault.{Fault}
use Rattle.hub_protocol.specs.Spelling.{form_of, spelling}
use Rattle.hub_requests.specs.declared.request.Request.TheVariants as request

-- the names from some places on were asked for, each whole
abbrev pub AskedNames : (sent sends : Option (List ℕ)) → Type 0
AskedNames sent sends = (places : List ℕ) × Appends sent sends (lines_of_requests (map request.Names places))

-- nothing was sent yet
pub none_asked : (sent sends : Option (List ℕ)) → sends ≡ sent → AskedNames sent sends
none_asked sent sends same = ([], subst (λ s. Appends sent s []) (sym same) (Appends-nil sent))

-- those that were asked for whole are asked for
pub asked_so : (sent sends : Option (List ℕ)) → AskedNames sent sends → AsksNames sent sends
asked_so sent sends asked = (asked.0, subst (SendsFront sent sends) (append-nil (map request.Names asked.0)) (fronts_none sent sends (map request.Names asked.0) [] asked.1))

-- one more was asked for
pub one_asked : (sent mid sends had has : Option (List ℕ)) (from : ℕ) (heard : Option Heard) → AskedNames sent mid → Hears mid sends had has (spelling (form_of (request.Names from))) heard
    → AskedNames sent sends
one_asked sent mid sends had has from heard asked hears = (
  asked.0 ++ from ∷ [],
  subst (λ l. Appends sent sends (lines_of_requests l)) (sym (map-append request.Names asked.0 (from ∷ [])))
      (asks_more sent mid sends had has (map request.Names asked.0) (request.Names from) heard asked.1 hears),
)

-- or in vain
pub asked_in_vain : (sent mid sends had has : Option (List ℕ)) (from : ℕ) (broken : Bool) (error : AskError) → AskedNames sent mid
    → FailsToHear mid sends had has (spelling (form_of (request.Names from))) broken error → AsksNames sent sends
asked_in_vain sent mid sends had has from broken error asked fails = (
  asked.0 ++ from ∷ [],
  subst (SendsFront sent sends) (sym (map-append request.Names asked.0 (from ∷ [])))
      (fails_more sent mid sends had has (map request.Names asked.0) (request.Names from) [] broken error asked.1 fails),
)

-- after a try at which nothing was asked
pub asks_nothing : {SR SW T : Type 0} (contents : SW → Option (List ℕ)) (tried : Result (Client SR SW × T) Fault) → AsksAfterTry contents tried tried
asks_nothing contents (Ok it) = asked_so (contents it.0.sender) (contents it.0.sender) (none_asked (contents it.0.sender) (contents it.0.sender) refl)
asks_nothing contents (Err fault) = tt

-- ---- what was said of them

pub names_said : {F N E : Type 0} (text : N → List ℕ) (old new : Sayings) (contents : F → Option (List ℕ)) (faults : F → Option ℕ) (notes note : F)
    (named missing : List N) (there bytes has : List ℕ) (result : Result (Unit {0}) E)
    → named ≡ missing → there ≡ has → bytes ≡ has → All (λ name. IsMissing bytes (text name)) missing → old.names.is_said ≡ false → new.names.is_said ≡ true
    → OnOk result (IsToldTo (contents notes) (contents note) (faults notes) (faults note) (names_line text named there)) → OnErr result (note ≡ notes)
    → NamesAreSaid text old new (contents notes) (contents note) (faults notes) (faults note)
names_said text old new contents faults notes note named missing there bytes has (Ok it) same listed at all before after ok err = inr (
  before,
  after,
  missing,
  has,
  subst (λ h. All (λ name. IsMissing h (text name)) missing) at all,
  subst (λ h. IsToldTo (contents notes) (contents note) (faults notes) (faults note) (names_line text missing h)) listed
      (subst (λ m. IsToldTo (contents notes) (contents note) (faults notes) (faults note) (names_line text m there)) same ok),
)
names_said text old new contents faults notes note named missing there bytes has (Err e) same listed at all before after ok err =
    inl (ap contents err, ap faults err)
