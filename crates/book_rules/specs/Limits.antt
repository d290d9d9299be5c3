-- How much the tables hold.
use Rattle.std.specs.Prelude.{ℕ}

-- the most rows of the tables, the most deployments of an API, and the most variables of a stage
unfoldable pub most_apis : ℕ
most_apis = 256

unfoldable pub most_deployments : ℕ
most_deployments = 1024

unfoldable pub most_stages : ℕ
most_stages = 1024

unfoldable pub most_variables : ℕ
most_variables = 64

unfoldable pub most_keys : ℕ
most_keys = 10000

unfoldable pub most_plans : ℕ
most_plans = 256

unfoldable pub most_joins : ℕ
most_joins = 20000

-- the most stages of a plan
unfoldable pub most_plan_stages : ℕ
most_plan_stages = 64

-- the most of a rate, and of a burst
unfoldable pub most_per_second : ℕ
most_per_second = 1000000

-- the greatest version of a plan's throttle
unfoldable pub most_versions : ℕ
most_versions = 9223372036854775807
