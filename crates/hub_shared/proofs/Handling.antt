-- A handle on the fifodir that is kept under a name, and a publisher's first status there.
use Rattle.std.proofs.Common.{◌≡◌, ℕ, List, subst, inl, inr, sym, ap, ◌∙◌}
use Rattle.std.specs.Map.{lookup}
use Rattle.std.specs.Str.{bytes_eq}
use Rattle.hub_fifodir.specs.declared.publisher.Publisher.{Publisher}
use Rattle.hub_names.specs.declared.hub.Hub.{Hub}
use Rattle.std.specs.Arc.{arc_value}
use Rattle.hub_requests.specs.declared.reply.Reply.{Reply}
use Rattle.hub_fifodir.specs.declared.fifodir.Fifodir.{Fifodir}
use Rattle.hub_letters.specs.declared.mode.Mode.{Mode}
use Rattle.hub_names.specs.declared.hub.Made.{Made}
use Rattle.hub_names.specs.declared.fifodirs.Fifodirs.{Fifodirs}
use Rattle.hub_handles.specs.declared.handles.Handles.{Handles}
use Rattle.hub_names.specs.Fifodirs.{AsksByName, IsAsBefore, IsKeptAs, joined_at}
use Rattle.hub_handles.specs.Handles.{Subscribes, Listens}
use Rattle.hub_shared.specs.Desks.{SubscribesTo, ListensTo}

pub subscribes_to : (hub : Hub) (fs : Fifodirs) (name : List ℕ) (found : Made) (old new : Handles) (reply : Reply) → IsKeptAs fs name found
    → Subscribes name (arc_value found.dir) old reply new → SubscribesTo hub fs name old reply new
subscribes_to hub fs name found old new reply kept step =
    inl (kept.joined, kept.kept_is, subst (λ (dir : Fifodir). Subscribes name dir old reply new) kept.dir step)

pub listens_to : (hub : Hub) (fs : Fifodirs) (name : List ℕ) (found : Made) (mode : Mode) (pattern : List ℕ) (old new : Handles) (reply : Reply) → IsKeptAs fs name found
    → Listens name (arc_value found.dir) mode pattern old reply new → ListensTo hub fs name mode pattern old reply new
listens_to hub fs name found mode pattern old new reply kept step =
    inl (kept.joined, kept.kept_is, subst (λ (dir : Fifodir). Listens name dir mode pattern old reply new) kept.dir step)

-- what is asked of fifodirs that are as before
pub asks_as_before : (hub : Hub) (says : Publisher → Reply → Publisher → Type 0) (old mid new : Fifodirs) (name : List ℕ) (reply : Reply) → IsAsBefore old mid
    → AsksByName hub says mid name reply new → AsksByName hub says old name reply new
asks_as_before hub says old mid new name reply same (inl a) =
    let at : (key : List ℕ) → joined_at mid key ≡ joined_at old key = λ key. ap (lookup (bytes_eq key)) same in
    inl (record {
      before = a.before;
      after = a.after;
      found = elim a.found [ inl here ↦ inl (sym (at name) ∙ here) | inr new ↦ inr (sym (at name) ∙ new.0, new.1) ];
      asked = a.asked;
      keeps = record { here = a.keeps.here; others = λ other e. a.keeps.others other e ∙ at other };
    })
asks_as_before hub says old mid new name reply same (inr u) =
    inr (record {
      refusal = u.refusal;
      said = u.said;
      finding = record { unknown = sym (ap (lookup (bytes_eq name)) same) ∙ u.finding.unknown; before = u.finding.before ∙ same; refused = u.finding.refused };
    })
