-- The fields of a plan.
use Rattle.std.specs.Prelude.{ℕ, ◌==◌, ◌+◌, List, [], ◌∷◌, take, drop, position, codes, Option, Some, None, if◌then◌else◌}
use Rattle.std.specs.Option.{option_and_then, option_map}
use Rattle.std.specs.Str.{bytes_eq}
use Rattle.record_fields.specs.Coding.{text_of}
use Rattle.record_fields.specs.Numbers.{number_of}
use Rattle.record_fields.specs.Pairs.{before_each}
use Rattle.usage_meter.specs.declared.throttle.Throttle.{Throttle}
use Rattle.usage_meter.specs.declared.allowance.Quota.{Quota}
use Rattle.usage_meter.specs.declared.period.PeriodKind.{PeriodKind}
use Rattle.usage_meter.specs.declared.period.PeriodKind.TheVariants.{Day, Week, Month}

-- what stands before the first of this byte and behind it
abbrev pub parted_at : ℕ → List ℕ → Option (List ℕ × List ℕ)
parted_at byte field = option_map (λ at. (take at field, drop (at + 1) field)) (position (λ b. b == byte) field)

-- `RATE:BURST`, both of 32 bits
abbrev pub rate_and_burst : List ℕ × List ℕ → Option Throttle
rate_and_burst p =
    option_and_then (λ rate. option_map (λ burst. record { rate = rate; burst = burst }) (number_of 32 p.1)) (number_of 32 p.0)

-- A THROTTLE: `-`, which is none, or a rate and a burst
unfoldable pub throttle_of : List ℕ → Option (Option Throttle)
throttle_of field =
    if bytes_eq field (codes "-") then Some None
    else option_map (λ throttle. Some throttle) (option_and_then rate_and_burst (parted_at 58 field))

-- the kind of a period by its name
unfoldable pub kind_of : List ℕ → Option PeriodKind
kind_of name =
    if bytes_eq name (codes "DAY") then Some Day
    else if bytes_eq name (codes "WEEK") then Some Week
    else if bytes_eq name (codes "MONTH") then Some Month
    else None

-- `OFFSET:KIND` behind a limit
abbrev pub offset_and_kind : ℕ → List ℕ × List ℕ → Option Quota
offset_and_kind limit p =
    option_and_then (λ offset. option_map (λ kind. record { limit = limit; offset = offset; kind = kind }) (kind_of p.1)) (number_of 64 p.0)

-- `LIMIT:OFFSET:KIND`, the numbers of 64 bits
abbrev pub limit_and_more : List ℕ × List ℕ → Option Quota
limit_and_more p = option_and_then (λ limit. option_and_then (offset_and_kind limit) (parted_at 58 p.1)) (number_of 64 p.0)

-- A QUOTA: `-`, which is none, or a limit, an offset and a kind
unfoldable pub quota_of : List ℕ → Option (Option Quota)
quota_of field =
    if bytes_eq field (codes "-") then Some None
    else option_map (λ quota. Some quota) (option_and_then limit_and_more (parted_at 58 field))

-- A STAGE of a plan: `API/STAGE`, both of which are texts
abbrev pub stage_of : List ℕ → Option (List ℕ × List ℕ)
stage_of field = option_and_then (λ p. option_and_then (λ api. option_map (λ stage. (api, stage)) (text_of p.1)) (text_of p.0)) (parted_at 47 field)

-- the stages of some fields, where each has its form
abbrev pub plan_stages_of : List (List ℕ) → Option (List (List ℕ × List ℕ))
plan_stages_of [] = Some []
plan_stages_of (field ∷ fields) = option_and_then (λ stage. before_each stage (plan_stages_of fields)) (stage_of field)
