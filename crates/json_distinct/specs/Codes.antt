-- A number for each value: values that are the same have one number, and others hardly ever have.
use Rattle.std.specs.Prelude.{ℕ, ◌+◌, ◌%◌, ◌^◌, Bool, List, [], if◌then◌else◌}
use Rattle.std.specs.Int.{cast_unsigned, w64}
use Rattle.std.specs.List.{fold}
use Rattle.std.specs.Hash.{u8, u64}
use Rattle.std.specs.Hash.DefaultHasher.{initial, write, finish}
use Rattle.json_subset.specs.Tree.{Tree, node, Form, null, bool, number, text, list, object, Trees, no_trees, tree, Members, no_members, member, Number, whole, decimal, wide}

-- SipHash of a kind, a text and two numbers
unfoldable pub hashed : ℕ → List ℕ → ℕ → ℕ → ℕ
hashed kind bytes a b = finish (fold write (fold write (write (fold write initial (u8 kind)) bytes) (u64 a)) (u64 b))

-- a whole number by its value, others by their source
abbrev pub code_of_number : Number → List ℕ → ℕ
code_of_number (whole z) s = hashed 1 [] (cast_unsigned w64 z) 0
code_of_number decimal s = hashed 2 s 0 0
code_of_number wide s = hashed 2 s 0 0

abbrev pub code_of_bool : Bool → ℕ
code_of_bool b = if b then hashed 4 [] 0 0 else hashed 5 [] 0 0

abbrev mutual
  pub code : Tree → ℕ
  code (node a b f) = code_of_form f

  pub code_of_form : Form → ℕ
  code_of_form null = hashed 3 [] 0 0
  code_of_form (bool b) = code_of_bool b
  code_of_form (number x s) = code_of_number x s
  code_of_form (text s) = hashed 6 s 0 0
  code_of_form (list ts) = code_behind (hashed 7 [] 0 0) ts
  code_of_form (object ms) = hashed 8 [] (sum 10 ms % 2 ^ 64) (sum 11 ms % 2 ^ 64)

  -- item by item, from the number of those before
  pub code_behind : ℕ → Trees → ℕ
  code_behind before no_trees = before
  code_behind before (tree t ts) = code_behind (hashed 9 [] before (code t)) ts

  -- the members in any order: the sum of a number for each, which the kind tells from others of it
  pub sum : ℕ → Members → ℕ
  sum kind no_members = 0
  sum kind (member x t ms) = hashed kind x (code t) 0 + sum kind ms
