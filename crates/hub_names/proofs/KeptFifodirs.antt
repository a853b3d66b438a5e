-- What stays and what comes in the fifodirs that a session keeps.
use Rattle.std.proofs.Common.{◌≡◌, ℕ, List, Option, None, Some, false, option_map, Result, Ok, Err, IfOk, IfNone, IfSome, refl, sym, subst, inl, inr}
use Rattle.std.specs.Arc.{arc_value}
use Rattle.std.specs.Str.{bytes_eq}
use Rattle.hub_requests.specs.declared.reply.Refusal.{Refusal}
use Rattle.hub_requests.specs.declared.reply.Reply.{Reply}
use Rattle.hub_names.specs.declared.hub.Found.{Found}
use Rattle.hub_names.specs.declared.hub.Hub.{Hub}
use Rattle.hub_names.specs.declared.hub.Made.{Made}
use Rattle.hub_names.specs.declared.hub.looking.NamesLook.{NamesLook}
use Rattle.hub_names.specs.declared.fifodirs.Fifodirs.{Fifodirs}
use Rattle.hub_names.specs.declared.joined.Joined.{Joined}
use Rattle.hub_names.specs.Hubs.{IsFoundIn, given_as, seen_under}
use Rattle.hub_names.specs.Looks.{IsLookAt}
use Rattle.hub_names.specs.Says.{says_status}
use Rattle.hub_names.specs.Speaking.{AsksAsPublisher, found_of, fifodir_of, publisher_of}
use Rattle.hub_names.specs.Fifodirs.{joined_at, HasMissed, IsFound, IsKeptAs, IsNewIn, IsSilent, Joins, Keeps, IsAsBefore, AsksByName, AsksUnder, KeepsAll}

pub one_of : {A : Type 0} (a b : A) (o : Option A) → o ≡ Some a → o ≡ Some b → a ≡ b
one_of a b o e f = cc

-- a name that was found just now
pub joins_new : (hub : Hub) (old new : Fifodirs) (name key : List ℕ) (j : Joined) → joined_at old name ≡ None → j.publisher ≡ None → IsFoundIn hub name j.found → key ≡ name
    → joined_at new key ≡ Some j → ((other : List ℕ) → bytes_eq key other ≡ false → joined_at new other ≡ joined_at old other) → Joins hub old name new
joins_new hub old new name key j unknown silent found same here others = record {
  joined = j;
  found = inr (unknown, record { silent = silent; found = found });
  keeps = record {
    here = subst (λ (n : List ℕ). joined_at new n ≡ Some j) same here;
    others = subst (λ (n : List ℕ). (other : List ℕ) → bytes_eq n other ≡ false → joined_at new other ≡ joined_at old other) same others;
  };
}

-- ---- a look at the hub

module _ {E : Type 0} (hub : Hub) (name : List ℕ) (look : NamesLook) (found : Result (Option Found) E) where
  -- that found a fifodir
  pub finds : (f : Found) → found ≡ Ok (Some f) → IfOk found (λ f. IfSome f (IsFoundIn hub name)) → IsFoundIn hub name f
  finds f is each = subst (λ (r : Result (Option Found) E). IfOk r (λ f. IfSome f (IsFoundIn hub name))) is each

  -- that found none
  pub misses : (fs : Fifodirs) → fs.look ≡ Some look → IsLookAt hub look → found ≡ Ok None → IfOk found (λ f. option_map given_as f ≡ seen_under look name) → HasMissed hub name fs
  misses fs last looked is seen = record {
    look = look;
    last = last;
    looked = looked;
    none = sym (subst (λ (r : Result (Option Found) E). IfOk r (λ f. option_map given_as f ≡ seen_under look name)) is seen);
  }

-- ---- what is asked

-- what is kept under a name, or was found by it, was asked and is kept as it then is
pub asks_kept : (hub : Hub) (asks : Joined → Reply → Joined → Type 0) (old new : Fifodirs) (name : List ℕ) (was now : Joined) (reply : Reply)
    → IsFound hub old name was → Keeps old name now new → asks was reply now → AsksUnder hub asks old name reply new
asks_kept hub asks old new name was now reply found keeps asked = inl (record { before = was; after = now; found = found; asked = asked; keeps = keeps })

-- ---- a status without the lock

-- told by the publisher that is kept
pub status_known : (old new : Fifodirs) (name : List ℕ) (was now : Joined) (told : Option Reply) → joined_at old name ≡ Some was → joined_at new name ≡ Some now
    → ((other : List ℕ) → bytes_eq name other ≡ false → joined_at new other ≡ joined_at old other) → IfSome told (λ reply. AsksAsPublisher says_status was reply now)
    → IfSome told (λ reply. (hub : Hub) → AsksByName hub says_status old name reply new)
status_known old new name was now (Some reply) at here others asked = λ hub. asks_kept hub (AsksAsPublisher says_status) old new name was now reply (inl at) (record { here = here; others = others }) asked
status_known old new name was now None at here others asked = tt

-- or not told, where none is kept
pub status_silent : (old new : Fifodirs) (name : List ℕ) (was now : Joined) (told : Option Reply) → joined_at old name ≡ Some was → (now ≡ was → IsAsBefore old new)
    → IfNone told ((publisher_of was ≡ None) × (now ≡ was)) → IfNone told (IsSilent old name × IsAsBefore old new)
status_silent old new name was now (Some reply) at before h = tt
status_silent old new name was now None at before (silent, same) =
    (λ j here. subst (λ (k : Joined). publisher_of k ≡ None) (one_of was j (joined_at old name) at here) silent, before same)

-- ---- a copy of what is kept

pub kept_copy : (fs : Fifodirs) (name : List ℕ) (j : Joined) (copy : Result Made Refusal) → joined_at fs name ≡ Some j → IfOk copy (λ made. arc_value made.dir ≡ fifodir_of j)
    → IfOk copy (λ made. made.notifies ≡ (found_of j).notifies) → IfOk copy (IsKeptAs fs name)
kept_copy fs name j (Ok made) at dir notifies = record { joined = j; kept_is = at; dir = dir; notifies = notifies }
kept_copy fs name j (Err refusal) at dir notifies = tt

-- ---- all are kept

pub KeepsAll-trans : (hub : Hub) (a b c : Fifodirs) → KeepsAll hub a b → KeepsAll hub b c → KeepsAll hub a c
KeepsAll-trans hub a b c f g = record {
  each = λ name j e. g.each name j (f.each name j e);
  fresh = λ name j e none. between name j e none (joined_at b name) refl;
}
  where
    between : (name : List ℕ) (j : Joined) → joined_at c name ≡ Some j → joined_at a name ≡ None → (o : Option Joined) → joined_at b name ≡ o → IsNewIn hub name j
    between name j e none None at = g.fresh name j e at
    between name j e none (Some k) at =
        subst (IsNewIn hub name) (one_of k j (joined_at c name) (g.each name k at) e) (f.fresh name k at none)
