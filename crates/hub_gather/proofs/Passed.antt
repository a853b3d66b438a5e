-- Steps one after the other, and how far a session is meanwhile.
use Rattle.std.proofs.Common.{◌≡◌, ℕ, ◌≤◌, ◌+◌, true, false, List, [], ◌∷◌, ◌++◌, length, take, drop, Option, None, Some, Result, Ok, Err, OnOk, OnErr, IfErr, refl, sym, ap, ◌∙◌, subst, append_assoc, append-nil, length-append, take-append-drop, arith}
use Rattle.std.proofs.lemmas.List.{length-map}
use Rattle.hub_io.specs.Lines.{complete_of, complete_after, onto_first}
use Rattle.hub_front.specs.Pieces.{cut, complete_pieces}
use Rattle.hub_requests.specs.declared.request.Request.{Request}
use Rattle.hub_requests.specs.declared.reply.Reply.{Reply}
use Rattle.hub_requests.specs.declared.reply.Refusal.{Refusal}
use Rattle.hub_requests.specs.Texts.{text_of}
use Rattle.hub_io.specs.declared.fault.FrontError.{FrontError}
use Rattle.hub_io.specs.declared.fault.FrontError.TheVariants.{Write}
use Rattle.hub_gather.specs.Steps.{Step, Read, Answered, Wrote, Broke, ended_of, answered_of, texts_of, written_of, MayWait, MaySleep, IsPrompt, Adds, AddsPart, EndsPrompt}
use Rattle.hub_gather.specs.Passing.{At, at, Passes, PassesEach, Paces, PacesUntil, Works, WorksOut, WorksUntil}
use Rattle.hub_gather.specs.declared.batch.TheConstants.{MOST_HELD}

pub Adds-nil : (a : Option (List Step)) → Adds a a []
Adds-nil None = tt
Adds-nil (Some x) = sym (append-nil x)

pub Adds-trans : (a b c : Option (List Step)) (s t : List Step) → Adds a b s → Adds b c t → Adds a c (s ++ t)
Adds-trans None b c s t p q = tt
Adds-trans (Some x) None c s t p q = absurd p
Adds-trans (Some x) (Some y) None s t p q = absurd q
Adds-trans (Some x) (Some y) (Some z) s t p q = q ∙ ap (λ l. l ++ t) p ∙ append_assoc x s t

-- ---- how far a session is from one step to the next

passes_then : (s mid t : At) (x y : List Step) → PassesEach s x mid → PassesEach mid y t → PassesEach s (x ++ y) t
passes_then s mid t [] y p q = subst (λ h. PassesEach h y t) p q
passes_then s mid t (step ∷ x) y (next, on, p, more) q = (next, on, p, passes_then next mid t x y more q)

passes_apart : (s t : At) (x y : List Step) → PassesEach s (x ++ y) t → (mid : At) × PassesEach s x mid × PassesEach mid y t
passes_apart s t [] y p = (s, refl, p)
passes_apart s t (step ∷ x) y (next, on, p, more) = let (mid, q, r) = passes_apart next t x y more in (mid, (next, on, p, q), r)

-- the texts are what was written and what is still held
even_of : (s : At) (steps : List Step) (t : At) → PassesEach s steps t → s.held ++ texts_of steps ≡ written_of steps ++ t.held
even_of s [] t p = append-nil s.held ∙ sym (ap (λ x. x.held) p)
even_of s (Read bytes ∷ steps) t (mid, on, (even, none, next), p) =
    ap (λ l. l ++ texts_of steps) (none ∙ sym (ap (λ x. x.held) next)) ∙ even_of mid steps t p
even_of s (Answered line reply ∷ steps) t (mid, on, (awake, few, next), p) =
    sym (append_assoc s.held (text_of reply) (texts_of steps)) ∙ ap (λ l. l ++ texts_of steps) (sym (ap (λ x. x.held) next)) ∙ even_of mid steps t p
even_of s (Wrote bytes ∷ steps) t (mid, on, (all, next), p) =
    ap (λ l. l ++ texts_of steps) (sym all)
    ∙ ap (λ l. bytes ++ (l ++ texts_of steps)) (sym (ap (λ x. x.held) next))
    ∙ ap (λ l. bytes ++ l) (even_of mid steps t p)
    ∙ sym (append_assoc bytes (written_of steps) t.held)
even_of s (Broke bytes ∷ steps) t (mid, on, (part, same, still, over), p) =
    ap (λ l. l ++ texts_of steps) part ∙ append_assoc bytes mid.held (texts_of steps) ∙ ap (λ l. bytes ++ l) (even_of mid steps t p) ∙ sym (append_assoc bytes (written_of steps) t.held)

few_of : (s : At) (steps : List Step) (t : At) → length s.held ≤ MOST_HELD → PassesEach s steps t → length t.held ≤ MOST_HELD
few_of s [] t few p = subst (λ x. length x.held ≤ MOST_HELD) (sym p) few
few_of s (Read bytes ∷ steps) t few (mid, on, (even, none, next), p) = few_of mid steps t (subst (λ x. length x.held ≤ MOST_HELD) (sym next) (omega arith)) p
few_of s (Answered line reply ∷ steps) t few (mid, on, (awake, less, next), p) = few_of mid steps t (subst (λ x. length x.held ≤ MOST_HELD) (sym next) less) p
few_of s (Wrote bytes ∷ steps) t few (mid, on, (all, next), p) = few_of mid steps t (subst (λ x. length x.held ≤ MOST_HELD) (sym next) (omega arith)) p
few_of s (Broke bytes ∷ steps) t few (mid, on, (part, same, still, over), p) = few_of mid steps t (omega (arith, few, ap length part, length-append bytes mid.held)) p

ended_by : (s : At) (steps : List Step) (t : At) → PassesEach s steps t → t.ended ≡ s.ended + ended_of steps
ended_by s [] t p = ap (λ x. x.ended) p ∙ omega arith
ended_by s (Read bytes ∷ steps) t (mid, on, (even, none, next), p) = omega (arith, ap (λ x. x.ended) next, ended_by mid steps t p)
ended_by s (Answered line reply ∷ steps) t (mid, on, (awake, few, next), p) = omega (arith, ap (λ x. x.ended) next, ended_by mid steps t p)
ended_by s (Wrote bytes ∷ steps) t (mid, on, (all, next), p) = omega (arith, ap (λ x. x.ended) next, ended_by mid steps t p)
ended_by s (Broke bytes ∷ steps) t (mid, on, (part, same, still, over), p) = omega (arith, same, ended_by mid steps t p)

done_by : (s : At) (steps : List Step) (t : At) → PassesEach s steps t → t.done ≡ s.done + answered_of steps
done_by s [] t p = ap (λ x. x.done) p ∙ omega arith
done_by s (Read bytes ∷ steps) t (mid, on, (even, none, next), p) = omega (arith, ap (λ x. x.done) next, done_by mid steps t p)
done_by s (Answered line reply ∷ steps) t (mid, on, (awake, few, next), p) = omega (arith, ap (λ x. x.done) next, done_by mid steps t p)
done_by s (Wrote bytes ∷ steps) t (mid, on, (all, next), p) = omega (arith, ap (λ x. x.done) next, done_by mid steps t p)
done_by s (Broke bytes ∷ steps) t (mid, on, (part, same, still, over), p) = omega (arith, still, done_by mid steps t p)

none_held : (s : At) (step : Step) (t : At) → Passes s step t → MayWait step → s.held ≡ []
none_held s (Read bytes) t p waits = p.1
none_held s (Answered line reply) t p waits = p.0 waits
none_held s (Wrote bytes) t p waits = absurd waits
none_held s (Broke bytes) t p waits = absurd waits

none_after : (s : At) (steps : List Step) (t : At) → s.over ≡ true → PassesEach s steps t → steps ≡ []
none_after s [] t over p = refl
none_after s (step ∷ steps) t over (mid, on, p, more) = let no : true ≡ false = sym over ∙ on in cc

-- from the beginning on, the texts are what was written and what is held
even_since : (steps : List Step) (t : At) → PassesEach (at 0 0 []) steps t → texts_of steps ≡ written_of steps ++ t.held
even_since steps t p = even_of (at 0 0 []) steps t p

-- what was written is all texts, if nothing is held
whole_of : (steps : List Step) (t : At) → PassesEach (at 0 0 []) steps t → t.held ≡ [] → written_of steps ≡ texts_of steps
whole_of steps t p none = sym (append-nil (written_of steps)) ∙ ap (λ l. written_of steps ++ l) (sym none) ∙ sym (even_since steps t p)

prompt_of : (steps : List Step) (t : At) → PassesEach (at 0 0 []) steps t → IsPrompt steps
prompt_of steps t p = record {
  answered = λ before after bytes e.
      let (mid, q, r) = passes_apart (at 0 0 []) t before (Read bytes ∷ after) (subst (λ s. PassesEach (at 0 0 []) s t) e p) in
      omega (arith, ended_by (at 0 0 []) before mid q, done_by (at 0 0 []) before mid q, r.2.0);
  written = λ before after step e waits.
      let (mid, q, r) = passes_apart (at 0 0 []) t before (step ∷ after) (subst (λ s. PassesEach (at 0 0 []) s t) e p) in
      whole_of before mid q (none_held mid step r.0 r.2 waits);
  whole = λ before after bytes e.
      let (mid, q, r) = passes_apart (at 0 0 []) t before (Wrote bytes ∷ after) (subst (λ s. PassesEach (at 0 0 []) s t) e p) in
      ap (λ l. written_of before ++ l) r.2.0 ∙ sym (even_since before mid q);
  held = λ before after e.
      let (mid, q, r) = passes_apart (at 0 0 []) t before after (subst (λ s. PassesEach (at 0 0 []) s t) e p) in
      (mid.held, even_since before mid q, few_of (at 0 0 []) before mid (omega arith) q);
  last = λ before after bytes e.
      let (mid, q, r) = passes_apart (at 0 0 []) t before (Broke bytes ∷ after) (subst (λ s. PassesEach (at 0 0 []) s t) e p) in
      none_after r.0 after t r.2.3 r.3;
}

-- ---- paces

pub paces_none : (history : Option (List Step)) (s : At) → Paces history history s s
paces_none history s = record { steps = []; added = Adds-nil history; passed = refl }

paces_one : {old new : Option (List Step)} (step : Step) (s t : At) → s.over ≡ false → Adds old new (step ∷ []) → Passes s step t → Paces old new s t
paces_one step s t on added passed = record { steps = step ∷ []; added = added; passed = (t, on, passed, refl) }

pub paces_then : {old between new : Option (List Step)} {s mid t : At} → Paces old between s mid → Paces between new mid t → Paces old new s t
paces_then {old} {between} {new} {s} {mid} {t} p q = record {
  steps = p.steps ++ q.steps;
  added = Adds-trans old between new p.steps q.steps p.added q.added;
  passed = passes_then s mid t p.steps q.steps p.passed q.passed;
}

-- all lines were answered, nothing was held, and one read was made
pub paces_read : {old new : Option (List Step)} (done : ℕ) (bytes : List ℕ) → Adds old new (Read bytes ∷ []) → Paces old new (at done done []) (at (done + length (complete_of bytes)) done [])
paces_read done bytes added =
    paces_one (Read bytes) (at done done []) (at (done + length (complete_of bytes)) done []) refl added (omega arith, refl, refl)

pub paces_at : {old new : Option (List Step)} {s : At} {ended ended' done done' : ℕ} {held : List ℕ} → ended ≡ ended' → done ≡ done' → Paces old new s (at ended done held) → Paces old new s (at ended' done' held)
paces_at {old} {new} {s} {ended} {ended'} {done} {done'} {held} e d p =
    subst (λ n. Paces old new s (at ended' n held)) d (subst (λ n. Paces old new s (at n done held)) e p)

-- it gave nothing
pub paces_read_none : {old new : Option (List Step)} (done : ℕ) (bytes : List ℕ) → bytes ≡ [] → Adds old new (Read bytes ∷ []) → Paces old new (at done done []) (at done done [])
paces_read_none {old} {new} done bytes none added =
    paces_at {s = at done done []} (omega arith) refl (paces_read done [] (subst (λ b. Adds old new (Read b ∷ [])) none added))

-- as many lines end within the bytes, whatever was kept before
onto_same : (prefix : List ℕ) (lines : List (List ℕ)) → length (onto_first prefix lines) ≡ length lines
onto_same prefix [] = refl
onto_same prefix (line ∷ lines) = refl

pub ended_pieces : (bytes kept : List ℕ) → length (complete_pieces bytes kept) ≡ length (complete_of bytes)
ended_pieces bytes kept = length-map (complete_after kept bytes) cut ∙ onto_same kept (complete_of bytes)

-- ---- works

pub works_none : (history : Option (List Step)) (done : ℕ) (held : List ℕ) → Works history history done held done held
works_none history done held = λ ended. paces_none history (at ended done held)

pub works_then : {old between new : Option (List Step)} {done mid did : ℕ} {held holding holds : List ℕ}
    → Works old between done held mid holding → Works between new mid holding did holds → Works old new done held did holds
works_then p q = λ ended. paces_then (p ended) (q ended)

pub out_then : {old between new : Option (List Step)} {done mid : ℕ} {held holding : List ℕ} → Works old between done held mid holding → WorksOut between new mid holding → WorksOut old new done held
out_then p q = λ ended. let (lost, out) = q ended in (lost, paces_then (p ended) out)

-- all that is held was written
pub works_wrote : {old new : Option (List Step)} (done : ℕ) (held : List ℕ) → Adds old new (Wrote held ∷ []) → Works old new done held done []
works_wrote done held added = λ ended. paces_one (Wrote held) (at ended done held) (at ended done []) refl added (refl, refl)

-- a part of it was
pub out_part : {old new : Option (List Step)} (done : ℕ) (held : List ℕ) → AddsPart old new held → WorksOut old new done held
out_part done held p = λ ended.
    let lost : At = record { ended = ended; done = done; held = drop p.count held; over = true } in
    (lost, paces_one (Broke (take p.count held)) (at ended done held) lost refl p.added (sym (take-append-drop p.count held), refl, refl, refl))

-- a line was answered, whose reply is held
pub works_answer : {old new : Option (List Step)} (line : Result Request Refusal) (reply : Reply) (done : ℕ) (held holds : List ℕ) → Adds old new (Answered line reply ∷ [])
    → (MaySleep line → held ≡ []) → holds ≡ held ++ text_of reply → length holds ≤ MOST_HELD → Works old new done held (done + 1) holds
works_answer line reply done held holds added awake next few = λ ended.
    paces_one (Answered line reply) (at ended done held) (at ended (done + 1) holds) refl added
    (awake, subst (λ l. length l ≤ MOST_HELD) next few, ap (at ended (done + 1)) next)

-- ---- what is held, and how many lines were answered, is named otherwise

pub works_from : {old new : Option (List Step)} {done done' did : ℕ} {held held' holds : List ℕ} → done ≡ done' → held ≡ held' → Works old new done held did holds → Works old new done' held' did holds
works_from {old} {new} {done} {done'} {did} {held} {held'} {holds} c e p =
    subst (λ h. Works old new done' h did holds) e (subst (λ n. Works old new n held did holds) c p)

pub works_to : {old new : Option (List Step)} {done did did' : ℕ} {held holds holds' : List ℕ} → did ≡ did' → holds ≡ holds' → Works old new done held did holds → Works old new done held did' holds'
works_to {old} {new} {done} {did} {did'} {held} {holds} {holds'} c e p =
    subst (λ h. Works old new done held did' h) e (subst (λ n. Works old new done held n holds) c p)

pub out_from : {old new : Option (List Step)} {done done' : ℕ} {held held' : List ℕ} → done ≡ done' → held ≡ held' → WorksOut old new done held → WorksOut old new done' held'
out_from {old} {new} {done} {done'} {held} {held'} c e p = subst (λ h. WorksOut old new done' h) e (subst (λ n. WorksOut old new n held) c p)

-- ---- until a write fails

pub until_whole : {T : Type 0} {old new : Option (List Step)} {s t : At} (result : Result T FrontError) → Paces old new s t → PacesUntil old new s t result
until_whole {t = t} result p = record { last = t; paces = p; whole = λ other. refl }

pub until_ok : {T : Type 0} {old new : Option (List Step)} {done did : ℕ} (result : Result T FrontError) → Works old new done [] did [] → WorksUntil old new done did result
until_ok result p = λ ended. until_whole result (p ended)

pub until_lost : {T : Type 0} {old new : Option (List Step)} {done : ℕ} (did : ℕ) (result : Result T FrontError) → result ≡ Err Write → WorksOut old new done [] → WorksUntil old new done did result
until_lost did result is p = λ ended. let (lost, out) = p ended in record { last = lost; paces = out; whole = λ other. absurd (other is) }

-- all that was held is written, or a part of it
pub until_wrote : {T : Type 0} {old between new : Option (List Step)} {done did : ℕ} {held : List ℕ} (result : Result T FrontError) → IfErr result (λ e. e ≡ Write)
    → OnOk result (Works between new did held did []) → OnErr result (WorksOut between new did held) → Works old between done [] did held → WorksUntil old new done did result
until_wrote (Ok x) fault ok err p = until_ok (Ok x) (works_then p ok)
until_wrote {did = did} (Err e) fault ok err p = until_lost did (Err e) (ap Err fault) (out_then p err)

pub until_then : {T : Type 0} {old between new : Option (List Step)} {s mid t : At} (result : Result T FrontError) → Paces old between s mid → PacesUntil between new mid t result → PacesUntil old new s t result
until_then result p q = record { last = q.last; paces = paces_then p q.paces; whole = q.whole }

-- the same of another result, at the same fault
pub until_as : {T U : Type 0} {old new : Option (List Step)} {s t : At} (result : Result T FrontError) (e : FrontError) (other : Result U FrontError) → result ≡ Err e → other ≡ Err e
    → PacesUntil old new s t result → PacesUntil old new s t other
until_as result e other was is p = record {
  last = p.last;
  paces = p.paces;
  whole = λ written. p.whole (λ failed. let it : e ≡ Write = cc in written (is ∙ ap Err it));
}

-- a write failed: how far a session would have come is of no matter
pub until_out : {T : Type 0} {old new : Option (List Step)} {s t : At} (t' : At) (result : Result T FrontError) → result ≡ Err Write → PacesUntil old new s t result → PacesUntil old new s t' result
until_out t' result is p = record { last = p.last; paces = p.paces; whole = λ other. absurd (other is) }

-- it came so far if no write failed
pub paces_of_ok : {T : Type 0} {old new : Option (List Step)} {s t : At} (result : Result T FrontError) (x : T) → result ≡ Ok x → PacesUntil old new s t result → Paces old new s t
paces_of_ok {old} {new} {s} {t} result x is p = subst (λ l. Paces old new s l) (p.whole (λ failed. cc)) p.paces

pub ends_prompt : {T : Type 0} {old new : Option (List Step)} {ended did : ℕ} (result : Result T FrontError) → PacesUntil old new (at 0 0 []) (at ended did []) result → EndsPrompt old new result
ends_prompt result p = record {
  steps = p.paces.steps;
  added = p.paces.added;
  prompt = prompt_of p.paces.steps p.last p.paces.passed;
  whole = λ other. whole_of p.paces.steps p.last p.paces.passed (ap (λ x. x.held) (p.whole other));
}
