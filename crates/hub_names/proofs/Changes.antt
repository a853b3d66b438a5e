-- A name that was made, from what the lock gave before and after.
use Rattle.std.proofs.Common.{◌≡◌, ℕ, List, [], ◌∷◌, ◌++◌, Bool, true, false, Option, None, Some, is_some, option_map, Result, Ok, Err, OnOk, IfErr, refl, sym, ap, subst, ◌∙◌}
use Rattle.std.specs.Str.{bytes_eq}
use Rattle.indexmap.specs.IndexMap.{get, keys}
use Rattle.hub_record.specs.declared.Kind.{Kind}
use Rattle.hub_record.specs.declared.limits.Limits.{Limits}
use Rattle.hub_requests.specs.declared.reply.Refusal.{Refusal}
use Rattle.hub_requests.specs.declared.reply.Reply.TheVariants.{Done, No}
use Rattle.hub_names.specs.declared.hub.HubError.{HubError}
use Rattle.hub_names.specs.declared.hub.HubError.TheVariants.{Exists}
use Rattle.hub_names.specs.declared.hub.Made.{Made}
use Rattle.hub_names.specs.declared.hub.named.Named.{Named}
use Rattle.hub_names.specs.declared.hub.looking.NamesChange.{NamesChange}
use Rattle.hub_names.specs.Hubs.{HasMade, found_as}
use Rattle.hub_names.specs.Looks.{given_by}
use Rattle.hub_names.specs.Changes.{HasMadeUnder, IsWhyUnmade, TellsMade}
use Rattle.hub_names.specs.Refusals.{refusal_of_hub}

not_refused : {A : Type 0} (a : A) (error : HubError) → Ok a ≡ Err error → ⊥
not_refused a error e = cc

-- what was made had no fifodir before
free_before : {A : Type 0} (a : A) (under : Option Made) → (is_some under ≡ true → Ok a ≡ Err Exists) → under ≡ None
free_before a None exists = refl
free_before a (Some made) exists = absurd (not_refused a Exists (exists refl))

pub made_under : {A : Type 0} (kind : Kind) (limits : Limits) (notifies : Bool) (name : List ℕ) (change : NamesChange) (old new : Named) (result : Result A HubError)
    → given_by change.before ≡ old → given_by change.after ≡ new → (is_some (get bytes_eq old.fifodirs name) ≡ true → result ≡ Err Exists)
    → OnOk result (HasMade kind limits notifies (get bytes_eq new.fifodirs name))
    → OnOk result ((other : List ℕ) → bytes_eq name other ≡ false → get bytes_eq new.fifodirs other ≡ get bytes_eq old.fifodirs other)
    → OnOk result (keys new.fifodirs ≡ keys old.fifodirs ++ name ∷ [])
    → OnOk result (HasMadeUnder kind limits notifies name change)
made_under kind limits notifies name change old new (Ok a) before after exists made others last = record {
  free = ap (λ (n : Named). option_map found_as (get bytes_eq n.fifodirs name)) before ∙ ap (option_map found_as) (free_before a (get bytes_eq old.fifodirs name) exists);
  made = subst (λ (n : Named). HasMade kind limits notifies (get bytes_eq n.fifodirs name)) (sym after) made;
  others = λ other apart. ap (λ (n : Named). get bytes_eq n.fifodirs other) after ∙ others other apart ∙ sym (ap (λ (n : Named). get bytes_eq n.fifodirs other) before);
  last = ap (λ (n : Named). keys n.fifodirs) after ∙ last ∙ sym (ap (λ (n : Named). keys n.fifodirs ++ name ∷ []) before);
}
made_under kind limits notifies name change old new (Err e) before after exists made others last = tt

-- ---- what the session is told

module _ {A : Type 0} (kind : Kind) (limits : Limits) (notifies : Bool) (name : List ℕ) (change : NamesChange) (result : Result A HubError) where
  pub tells_made : (a : A) → result ≡ Ok a → OnOk result (HasMadeUnder kind limits notifies name change) → TellsMade kind limits notifies name change Done
  tells_made a is made = subst (λ (r : Result A HubError). OnOk r (HasMadeUnder kind limits notifies name change)) is made

  pub tells_unmade : (error : HubError) (refusal : Refusal) → result ≡ Err error → refusal ≡ refusal_of_hub error → IfErr result (IsWhyUnmade name change)
      → TellsMade kind limits notifies name change (No refusal)
  tells_unmade error refusal is told why = (error, told, subst (λ (r : Result A HubError). IfErr r (IsWhyUnmade name change)) is why)
