use Rattle.std.proofs.Common.{◌≡◌, ◌≢◌, ◌++◌, ℕ, [], refl, sym, ap, subst, ◌∙◌, append-nil, arith}
use Rattle.std.proofs.lemmas.Grind.{common_steps}
use Rattle.hub_requests.specs.declared.reply.Refusal.{Refusal}
use Rattle.hub_requests.specs.declared.reply.Refusal.TheVariants.{Unlawful}
use Rattle.hub_requests.specs.declared.reply.Reply.TheVariants.{No}
use Rattle.hub_requests.specs.Texts.{line_of}
use Rattle.hub_protocol.specs.Writing.{Appends, place_text}
use Rattle.hub_protocol.proofs.writing.append_refusal.Goals as goal

no_place : (refusal : Refusal) → ((place : ℕ) → refusal ≢ Unlawful place) → place_text refusal ≡ []
no_place (Unlawful place) plain = absurd (plain place refl)
no_place refusal plain = refl

pub returns-in_default : goal.returns-in_default
returns-in_default c =
    let text = c.refusal_text-text.result.now in
    let whole : line_of (No c.args.refusal) ≡ text =
    c.refusal_text-text.ensures ∙ ap (λ place. text ++ place) (no_place c.args.refusal c.in_default.not-Unlawful) ∙ append-nil text in
    let written : Appends c.args.out.now c.extend_from_slice.new.self c.extend_from_slice.result text = grind (arith, common_steps) in
    subst (Appends c.args.out.now c.extend_from_slice.new.self c.extend_from_slice.result) (sym whole) written
