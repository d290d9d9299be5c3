-- The stages of usage plans, as the columns of rows name them.
use Rattle.std.specs.Prelude.{ℕ, ◌+◌, ◌==◌, Bool, true, not, ◌&&◌, List, [], ◌∷◌, ◌++◌, map, take, drop, position, Option, Some, None, option_map, if◌then◌else◌}
use Rattle.std.specs.List.{join_with_byte, list_all, list_any}
use Rattle.std.specs.Option.{option_and_then}
use Rattle.std.specs.Str.{bytes_eq}
use Rattle.gw_base.specs.Lists.{last_of_each}
use Rattle.gw_base.specs.Names.{is_name}
use Rattle.record_fields.specs.Coding.{parts_of}
use Rattle.call_facts.specs.Pairs.{Pairs}
use Rattle.keeper_core.specs.declared.rows.PlanRow.{PlanRow}

-- the stages of a plan: fields API/STAGE, both of which are names, parted by one space
abbrev pub stage_in : List ℕ → Option (List ℕ × List ℕ)
stage_in field =
    option_and_then (λ at. if is_name (take at field) && is_name (drop (at + 1) field) then Some (take at field, drop (at + 1) field) else None)
    (position (λ b. b == 47) field)

abbrev pub before_each_stage : List ℕ × List ℕ → Option Pairs → Option Pairs
before_each_stage stage rest = option_map (λ stages. stage ∷ stages) rest

abbrev pub all_stages : List (List ℕ) → Option Pairs
all_stages [] = Some []
all_stages (field ∷ fields) = option_and_then (λ stage. before_each_stage stage (all_stages fields)) (stage_in field)

unfoldable pub stages_in : List ℕ → Option Pairs
stages_in [] = Some []
stages_in (b ∷ bs) = all_stages (parts_of (b ∷ bs))

abbrev pub same_stage : List ℕ × List ℕ → List ℕ × List ℕ → Bool
same_stage a b = bytes_eq a.0 b.0 && bytes_eq a.1 b.1

abbrev pub stages_differ : Pairs → Bool
stages_differ [] = true
stages_differ (stage ∷ stages) = not (list_any (same_stage stage) stages) && stages_differ stages

-- both parts of each stage are names
abbrev pub are_stage_names : Pairs → Bool
are_stage_names stages = list_all (λ (stage : List ℕ × List ℕ). is_name stage.0 && is_name stage.1) stages

-- the stages of a plan's row
abbrev pub or_none : Option Pairs → Pairs
or_none None = []
or_none (Some stages) = stages

abbrev pub stages_of : PlanRow → Pairs
stages_of plan = or_none (stages_in plan.stages)

abbrev pub share_a_stage : Pairs → Pairs → Bool
share_a_stage stages others = list_any (λ stage. list_any (same_stage stage) others) stages

-- each stage once: of a repeated one the last stays
abbrev pub each_stage_once : Pairs → Pairs
each_stage_once stages = last_of_each same_stage stages

-- the column of some stages
abbrev pub stage_field : List ℕ × List ℕ → List ℕ
stage_field stage = stage.0 ++ 47 ∷ stage.1

abbrev pub stages_column : Pairs → List ℕ
stages_column stages = join_with_byte 32 (map stage_field stages)
