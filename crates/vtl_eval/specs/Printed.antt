-- How a stop is printed.
use Rattle.std.specs.Prelude.{ℕ, List, codes}
use Rattle.vtl_eval.specs.declared.stop.Stop.{Stop}
use Rattle.vtl_eval.specs.declared.stop.Stop.TheVariants.{Steps, Bytes, Depth, Memory}

abbrev pub stop_name : Stop → List ℕ
stop_name Steps = codes "Steps"
stop_name Bytes = codes "Bytes"
stop_name Depth = codes "Depth"
stop_name Memory = codes "Memory"
