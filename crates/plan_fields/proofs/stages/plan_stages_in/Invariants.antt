use Rattle.std.proofs.Common.{◌≡◌, ◌++◌, drop}
use Rattle.std.specs.Option.{option_map}
use Rattle.plan_fields.specs.Fields.{plan_stages_of}
use Rattle.plan_fields.proofs.stages.plan_stages_in.Given as goal

-- the stages so far, and those of the fields that are left, are those of all
abbrev pub invariant-loop-field : goal.invariant-loop-field
invariant-loop-field l = option_map (λ rest. l.stages.items ++ rest) (plan_stages_of (drop l.field-index l.fields)) ≡ plan_stages_of l.fields
