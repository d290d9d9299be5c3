use Rattle.std.proofs.Common.{◌≡◌, ℕ, List, ◌++◌, map, drop}
use Rattle.std.specs.Borrow.{Bor}
use Rattle.std.specs.Option.{option_map}
use Rattle.book_rules.specs.PlanStages.{all_stages}
use Rattle.book_opening.proofs.plan_stages.read_all.Given as goal

-- the stages so far, and those of the fields that are left, are those of all
abbrev pub invariant-loop-field : goal.invariant-loop-field
invariant-loop-field l =
    option_map (λ rest. l.stages.items ++ rest) (all_stages (map (λ (field : Bor (List ℕ)). field.now) (drop l.field-index l.fields)))
    ≡ all_stages (map (λ (field : Bor (List ℕ)). field.now) l.fields)
