-- The keywords that look at one value alone, and when a value meets them (JSON Schema draft 4, validation, section 5).
-- A keyword about another type than the value's is met.
use Rattle.std.specs.Prelude.{ℕ, ℤ, ◌%◌, Bool, true, false, List, [], ◌∷◌, length, is_some, nat_le, ◌==◌, if◌then◌else◌, unsigned_abs}
use Rattle.std.specs.Str.{chars}
use Rattle.json_subset.specs.Tree.{Tree, Form, null, bool, number, text, list, object, Trees, Members, Number, whole, decimal, wide}
use Rattle.json_subset.specs.Documents.{form, first_named, count, count_members}
use Rattle.json_values.specs.Amounts.{amount, at_least, at_most}
use Rattle.json_values.specs.Same.{same_form}
use Rattle.json_distinct.specs.Distinct.{are_distinct}
use Rattle.pattern_core.specs.Search.{matches}
use Rattle.schema_keywords.specs.declared.keyword.Keyword.{Keyword}
use Rattle.schema_keywords.specs.declared.keyword.Keyword.TheVariants as by
use Rattle.schema_keywords.specs.declared.keyword.TypeName.{TypeName}
use Rattle.schema_keywords.specs.declared.keyword.TypeName.TheVariants as names

pub data Test : Type 0 where
  type : List TypeName → Test
  required : List (List ℕ) → Test
  -- the bound, and whether it is sharp
  minimum : ℤ → Bool → Test
  maximum : ℤ → Bool → Test
  multiple_of : ℕ → Test
  min_length : ℕ → Test
  max_length : ℕ → Test
  pattern : List ℕ → Test
  enum : List Tree → Test
  min_items : ℕ → Test
  max_items : ℕ → Test
  unique_items : Test
  min_properties : ℕ → Test
  max_properties : ℕ → Test

-- the keyword that a failure is named by
abbrev pub keyword_of : Test → Keyword
keyword_of (type ts) = by.TypeIs
keyword_of (required xs) = by.Required
keyword_of (minimum b sharp) = by.Minimum
keyword_of (maximum b sharp) = by.Maximum
keyword_of (multiple_of n) = by.MultipleOf
keyword_of (min_length n) = by.MinLength
keyword_of (max_length n) = by.MaxLength
keyword_of (pattern p) = by.Pattern
keyword_of (enum es) = by.Enum
keyword_of (min_items n) = by.MinItems
keyword_of (max_items n) = by.MaxItems
keyword_of unique_items = by.UniqueItems
keyword_of (min_properties n) = by.MinProperties
keyword_of (max_properties n) = by.MaxProperties

-- the primitive types (core, section 3.5)
abbrev pub is_of : Form → TypeName → Bool
is_of null names.Null = true
is_of (bool b) names.Boolean = true
is_of (number x s) names.Number = true
is_of (number (whole z) s) names.Integer = true
is_of (text t) names.Text = true
is_of (list ts) names.Array = true
is_of (object ms) names.Object = true
is_of f t = false

-- one of these types
abbrev pub is_any : Form → List TypeName → Bool
is_any f [] = false
is_any f (t ∷ ts) = if is_of f t then true else is_any f ts

-- a test of numbers, by kind and source
abbrev pub if_number : (Number → List ℕ → Bool) → Form → Bool
if_number test null = true
if_number test (bool b) = true
if_number test (number x s) = test x s
if_number test (text t) = true
if_number test (list ts) = true
if_number test (object ms) = true

abbrev pub if_text : (List ℕ → Bool) → Form → Bool
if_text test null = true
if_text test (bool b) = true
if_text test (number x s) = true
if_text test (text t) = test t
if_text test (list ts) = true
if_text test (object ms) = true

abbrev pub if_list : (Trees → Bool) → Form → Bool
if_list test null = true
if_list test (bool b) = true
if_list test (number x s) = true
if_list test (text t) = true
if_list test (list ts) = test ts
if_list test (object ms) = true

abbrev pub if_object : (Members → Bool) → Form → Bool
if_object test null = true
if_object test (bool b) = true
if_object test (number x s) = true
if_object test (text t) = true
if_object test (list ts) = true
if_object test (object ms) = test ms

-- each of these names stands
abbrev pub has_all : List (List ℕ) → Members → Bool
has_all [] ms = true
has_all (x ∷ xs) ms = if is_some (first_named ms x) then has_all xs ms else false

-- a number that is not whole is no multiple
abbrev pub is_multiple : ℕ → Number → Bool
is_multiple n (whole z) = unsigned_abs z % n == 0
is_multiple n decimal = false
is_multiple n wide = false

-- the same as one of these
abbrev pub is_among : Form → List Tree → Bool
is_among f [] = false
is_among f (t ∷ ts) = if same_form f (form t) then true else is_among f ts

-- whether a value of this form meets the keyword
abbrev pub meets : Form → Test → Bool
meets f (type ts) = is_any f ts
meets f (required xs) = if_object (has_all xs) f
meets f (minimum b sharp) = if_number (λ x s. at_least b sharp (amount x s)) f
meets f (maximum b sharp) = if_number (λ x s. at_most b sharp (amount x s)) f
meets f (multiple_of n) = if_number (λ x s. is_multiple n x) f
meets f (min_length n) = if_text (λ t. nat_le n (length (chars t))) f
meets f (max_length n) = if_text (λ t. nat_le (length (chars t)) n) f
meets f (pattern p) = if_text (matches p) f
meets f (enum es) = is_among f es
meets f (min_items n) = if_list (λ ts. nat_le n (count ts)) f
meets f (max_items n) = if_list (λ ts. nat_le (count ts) n) f
meets f unique_items = if_list are_distinct f
meets f (min_properties n) = if_object (λ ms. nat_le n (count_members ms)) f
meets f (max_properties n) = if_object (λ ms. nat_le (count_members ms) n) f
