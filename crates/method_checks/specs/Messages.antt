-- The message that names what is missing.
use Rattle.std.specs.Prelude.{ℕ, List, ◌++◌, codes}
use Rattle.std.specs.List.{join_by}
use Rattle.call_facts.specs.Kinds.{kind_message}
use Rattle.call_facts.specs.declared.kind.Kind.TheVariants.{BadRequestParameters}

-- names, parted by commas
abbrev pub listed : List (List ℕ) → List ℕ
listed names = join_by (λ name. name) (codes ", ") names

-- `Missing required request parameters: [a, b]`
unfoldable pub missing_message : List (List ℕ) → List ℕ
missing_message names = kind_message BadRequestParameters ++ codes ": [" ++ listed names ++ codes "]"
