-- Outcomes that are drawn from a script.
use Rattle.std.proofs.Common.{◌≡◌, List, [], ◌∷◌, ◌++◌, drop, sym, ◌∙◌, refl, subst}
use Rattle.backend_core.specs.declared.outcome.Outcome.{Outcome}
use Rattle.gate_walk.specs.Acts.{Draws}

-- some were drawn, and then others
pub draws_apart : (first more script left : List Outcome) → Draws script (first ++ more) left → (mid : List Outcome) × Draws script first mid × Draws mid more left
draws_apart [] more script left d = (script, refl, d)
draws_apart (outcome ∷ first) more script left (is, d) = let then = draws_apart first more (drop 1 script) left d in (then.0, (is, then.1), then.2)

pub draws_both : (first more script mid left : List Outcome) → Draws script first mid → Draws mid more left → Draws script (first ++ more) left
draws_both [] more script mid left d e = subst (λ s. Draws s more left) d e
draws_both (outcome ∷ first) more script mid left (is, d) e = (is, draws_both first more (drop 1 script) mid left d e)

-- one script is left
pub one_left : (outcomes script a b : List Outcome) → Draws script outcomes a → Draws script outcomes b → a ≡ b
one_left [] script a b d e = d ∙ sym e
one_left (outcome ∷ outcomes) script a b d e = one_left outcomes (drop 1 script) a b d.1 e.1
