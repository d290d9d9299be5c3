-- The verdict of a schema on a value (JSON Schema draft 4, validation, section 5).
use Rattle.std.specs.Prelude.{ℕ, zero, suc, Bool, true, false, List, [], ◌∷◌, length, drop, Option, Some, None, slice_get, ◌==◌, if◌then◌else◌}
use Rattle.std.specs.Str.{bytes_eq}
use Rattle.json_subset.specs.Tree.{Tree, node, Form, null, bool, number, text, list, object, Trees, no_trees, tree, Members, no_members, member}
use Rattle.json_subset.specs.Reading.{named}
use Rattle.schema_keywords.specs.Keywords.{meets, keyword_of}
use Rattle.schema_keywords.specs.declared.keyword.Keyword.{Keyword}
use Rattle.schema_keywords.specs.declared.keyword.Keyword.TheVariants as keywords
use Rattle.schema_rules.specs.Rules.{Others, refused, by, Rule, test, properties, additional_properties, items, items_each, additional_items, all_of, any_of, one_of, negated, defines, refer, Schemas, target}

-- valid, or the place of the first byte of the first failing value, and its keyword
pub data Verdict : Type 0 where
  valid : Verdict
  invalid : ℕ → Keyword → Verdict

-- the first failure of two
abbrev pub first_of_two : Verdict → Verdict → Verdict
first_of_two valid v = v
first_of_two (invalid at k) v = invalid at k

-- what each schema says of one value
abbrev pub Judge : Type 0
Judge = ℕ → Verdict

-- a part of a value: where it begins, and what each schema says of it
pub record Part : Type 0 where
  pub at : ℕ
  pub judge : Judge

-- a value that begins at this place, with its parts
pub record Value : Type 0 where
  pub at : ℕ
  pub form : Form
  pub items : List Part
  pub members : List (List ℕ × Part)

-- a keyword's own failure, unless it is met
abbrev pub unless : Bool → ℕ → Keyword → Verdict
unless true at k = valid
unless false at k = invalid at k

abbrev pub find : List ℕ → List (List ℕ × Part) → Option Part
find x [] = None
find x (m ∷ ms) = if bytes_eq m.0 x then Some m.1 else find x ms

abbrev pub where_it_stands : ℕ → Option Part → Verdict
where_it_stands s None = valid
where_it_stands s (Some p) = p.judge s

-- each property that stands, in the schema's order
abbrev pub each_property : List (List ℕ × ℕ) → List (List ℕ × Part) → Verdict
each_property [] ms = valid
each_property (p ∷ ps) ms = first_of_two (where_it_stands p.1 (find p.0 ms)) (each_property ps ms)

-- a part that no other keyword names
abbrev pub additional : Others → Keyword → Part → Verdict
additional refused k p = invalid p.at k
additional (by s) k p = p.judge s

-- each member of another name, in the value's order
abbrev pub each_unnamed : List (List ℕ) → Others → List (List ℕ × Part) → Verdict
each_unnamed xs o [] = valid
each_unnamed xs o (m ∷ ms) = if named xs m.0 then each_unnamed xs o ms else first_of_two (additional o keywords.AdditionalProperties m.1) (each_unnamed xs o ms)

-- one schema for each item
abbrev pub each_item : ℕ → List Part → Verdict
each_item s [] = valid
each_item s (p ∷ ps) = first_of_two (p.judge s) (each_item s ps)

-- a schema for each item by its place
abbrev pub each_in_place : List ℕ → List Part → Verdict
each_in_place [] ps = valid
each_in_place (s ∷ ss) [] = valid
each_in_place (s ∷ ss) (p ∷ ps) = first_of_two (p.judge s) (each_in_place ss ps)

abbrev pub each_additional : Others → List Part → Verdict
each_additional o [] = valid
each_additional o (p ∷ ps) = first_of_two (additional o keywords.AdditionalItems p) (each_additional o ps)

-- all of these schemas, of one value
abbrev pub all : Judge → List ℕ → Verdict
all here [] = valid
all here (s ∷ ss) = first_of_two (here s) (all here ss)

abbrev pub is_valid : Verdict → Bool
is_valid valid = true
is_valid (invalid at k) = false

-- whether one of them or more is met
abbrev pub any : Judge → List ℕ → Bool
any here [] = false
any here (s ∷ ss) = if is_valid (here s) then true else any here ss

-- how many of them are met
abbrev pub how_many : Judge → List ℕ → ℕ
how_many here [] = 0
how_many here (s ∷ ss) = if is_valid (here s) then suc (how_many here ss) else how_many here ss

abbrev pub not_valid : Verdict → ℕ → Verdict
not_valid valid at = invalid at keywords.Not
not_valid (invalid n k) at = valid

-- one keyword; here is what the schemas say of the same value
abbrev pub one : Schemas → Judge → Value → Rule → Verdict
one ss here v (test t) = unless (meets v.form t) v.at (keyword_of t)
one ss here v (properties ps) = each_property ps v.members
one ss here v (additional_properties xs o) = each_unnamed xs o v.members
one ss here v (items s) = each_item s v.items
one ss here v (items_each xs) = each_in_place xs v.items
one ss here v (additional_items n o) = each_additional o (drop n v.items)
one ss here v (all_of xs) = all here xs
one ss here v (any_of xs) = unless (any here xs) v.at keywords.AnyOf
one ss here v (one_of xs) = unless (how_many here xs == 1) v.at keywords.OneOf
one ss here v (negated s) = not_valid (here s) v.at
one ss here v (defines ps) = valid
one ss here v (refer t) = here (target ss t)

-- the keywords in written order
abbrev pub every : Schemas → Judge → Value → List Rule → Verdict
every ss here v [] = valid
every ss here v (r ∷ rs) = first_of_two (one ss here v r) (every ss here v rs)

abbrev pub or_none : Option (List Rule) → List Rule
or_none None = []
or_none (Some rs) = rs

abbrev pub rules_of : Schemas → ℕ → List Rule
rules_of ss k = or_none (slice_get ss.rules k)

-- what a schema says of this value, through at most so many schemas of the same value
unfoldable pub within : Schemas → Value → ℕ → Judge
within ss v zero k = valid
within ss v (suc d) k = every ss (within ss v d) v (rules_of ss k)

-- no chain of schemas of one value is longer than their number, where none comes back to itself
abbrev pub judge : Schemas → Value → Judge
judge ss v k = within ss v (length ss.rules) k

-- the place of a value's first byte
abbrev pub place_of : Tree → ℕ
place_of (node first past f) = first

abbrev mutual
  pub verdict : Schemas → Tree → Judge
  verdict ss (node first past f) = judge ss (record { at = first; form = f; items = item_parts ss f; members = member_parts ss f })

  pub item_parts : Schemas → Form → List Part
  item_parts ss null = []
  item_parts ss (bool b) = []
  item_parts ss (number x s) = []
  item_parts ss (text t) = []
  item_parts ss (list ts) = tree_parts ss ts
  item_parts ss (object ms) = []

  pub member_parts : Schemas → Form → List (List ℕ × Part)
  member_parts ss null = []
  member_parts ss (bool b) = []
  member_parts ss (number x s) = []
  member_parts ss (text t) = []
  member_parts ss (list ts) = []
  member_parts ss (object ms) = named_parts ss ms

  pub tree_parts : Schemas → Trees → List Part
  tree_parts ss no_trees = []
  tree_parts ss (tree t ts) = record { at = place_of t; judge = verdict ss t } ∷ tree_parts ss ts

  pub named_parts : Schemas → Members → List (List ℕ × Part)
  named_parts ss no_members = []
  named_parts ss (member x t ms) = (x, record { at = place_of t; judge = verdict ss t }) ∷ named_parts ss ms
