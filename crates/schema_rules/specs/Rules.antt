-- Schemas as plain data: a schema is its keywords in written order, and names other schemas by their numbers.
use Rattle.std.specs.Prelude.{ℕ, List, slice_index}
use Rattle.schema_keywords.specs.Keywords.{Test}

-- what the parts must meet that no other keyword names
pub data Others : Type 0 where
  refused : Others
  by : ℕ → Others

pub data Rule : Type 0 where
  -- a keyword that looks at the value alone
  test : Test → Rule
  -- each name with its schema
  properties : List (List ℕ × ℕ) → Rule
  -- the names that `properties` has
  additional_properties : List (List ℕ) → Others → Rule
  -- one schema for every item
  items : ℕ → Rule
  -- a schema for each item by its place
  items_each : List ℕ → Rule
  -- how many items have a schema by their place
  additional_items : ℕ → Others → Rule
  all_of : List ℕ → Rule
  any_of : List ℕ → Rule
  one_of : List ℕ → Rule
  -- `not`
  negated : ℕ → Rule
  -- `definitions`: each name with its schema
  defines : List (List ℕ × ℕ) → Rule
  -- `$ref` to the target of this number
  refer : ℕ → Rule

-- the schemas by their numbers, and the numbers of what a `$ref` can name: the root, and each of its definitions
pub record Schemas : Type 0 where
  pub rules : List (List Rule)
  pub targets : List ℕ

abbrev pub target : Schemas → ℕ → ℕ
target ss t = slice_index ss.targets t
