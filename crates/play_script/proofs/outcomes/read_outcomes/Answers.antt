use Rattle.std.proofs.Common.{◌≡◌, ◌<◌, ℕ, List, [], ◌∷◌, length, map, append-nil, subst, refl, rules, arith}
use Rattle.backend_core.specs.Script.{outcome_of}
use Rattle.play_script.specs.Calls.{AreOutcomes}
use Rattle.play_script.proofs.outcomes.read_outcomes.Goals as goal

-- where no field is left, none is to be told
none_left : (fields : List (List ℕ)) → length fields < 1 → AreOutcomes fields []
none_left [] few = refl
none_left (field ∷ fields) few = absurd (more few)
  where
    more : length (field ∷ fields) < 1 → ⊥
    more h = omega (arith, h)

pub returns : goal.returns
returns c = (
  subst (AreOutcomes c.args.fields.now) (append-nil (map outcome_of c.loop-rest.made.items)) (c.loop-rest.invariant.are [] (none_left c.loop-rest.rest.now (search rules))),
  c.loop-rest.invariant.statuses,
)
