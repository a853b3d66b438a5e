-- A crew, one worker after the other.
use Rattle.std.proofs.Common.{◌≡◌, ℕ, ◌+◌, List, [], ◌∷◌, ◌++◌, length, ap, sym, subst, ◌∙◌}
use Rattle.std.specs.Prelude.{All, IsSome}
use Rattle.std.proofs.lemmas.List.{length_push}
use Rattle.std.proofs.lemmas.List.Elements.{All-push}
use Rattle.hub_server.specs.Crews.{IsCrew}
use Rattle.hub_server.specs.declared.crew.Place.{Place}

-- one worker more
pub one_worker_more : (count : ℕ) (places roomy more : List Place) (place : Place) → roomy ≡ places → more ≡ roomy ++ place ∷ [] → IsSome place.thread
    → IsCrew count places → IsCrew (count + 1) more
one_worker_more count places roomy more place same added here crew = let pushed : more ≡ places ++ place ∷ [] = added ∙ ap (λ items. items ++ place ∷ []) same in record {
  many = ap length pushed ∙ length_push places place ∙ ap (λ n. n + 1) crew.many;
  threads = subst (All (λ it. IsSome it.thread)) (sym pushed) (All-push (λ it. IsSome it.thread) places place crew.threads here);
}
