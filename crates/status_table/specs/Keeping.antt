-- The tables that are kept, by their patterns.
use Rattle.std.specs.Prelude.{◌≡◌, ℕ, true, List, IfSome, String}
use Rattle.std.specs.BTreeMap.{BTreeMap, get_by_text}
use Rattle.std.specs.declared.alloc.Global.{Global}
use Rattle.status_table.specs.Statuses.{is_whole_pattern}

-- each table that is kept is the one of its pattern, which can match whole texts
abbrev pub AreOfPatterns : BTreeMap (String Global) (List ℕ) → Type 0
AreOfPatterns tables = (pattern : List ℕ) → IfSome (get_by_text tables pattern) (λ table. (table ≡ pattern) × (is_whole_pattern pattern ≡ true))
