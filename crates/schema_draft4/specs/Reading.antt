-- Which schemas a document's value is, by their numbers, or its first fault in reading order (JSON Schema draft 4).
-- Schemas are numbered as they end: those within a schema come before it.
use Rattle.std.specs.Prelude.{ℕ, ◌+◌, Bool, true, false, ◌&&◌, ◌||◌, not, List, [], ◌∷◌, ◌++◌, length, map, Option, Some, None, is_some, Result, Ok, Err, nat_le, ◌==◌, if◌then◌else◌, ℤ, pos, unsigned_abs, option_map}
use Rattle.std.specs.Ordering.{int_cmp}
use Rattle.std.specs.declared.cmp.Ordering.{Ordering}
use Rattle.std.specs.declared.cmp.Ordering.TheVariants.{Less, Equal, Greater}
use Rattle.std.specs.Str.{bytes_eq}
use Rattle.json_subset.specs.Tree.{Tree, node, Form, null, bool, number, text, list, object, Trees, no_trees, tree, Members, no_members, member, trees_of}
use Rattle.json_subset.specs.Reading.{named}
use Rattle.json_subset.specs.Documents.{form, decoded, member_named, kind}
use Rattle.json_subset.specs.declared.doc.Kind.{Kind}
use Rattle.json_subset.specs.declared.doc.Kind.TheVariants as kinds
use Rattle.json_subset.specs.Bare.{bare}
use Rattle.json_values.specs.Parts.{trees_in}
use Rattle.pattern_core.specs.Search.{is_pattern}
use Rattle.json_distinct.specs.Distinct.{are_distinct}
use Rattle.schema_keywords.specs.Keywords.{Test, type, required, minimum, maximum, multiple_of, min_length, max_length, pattern, enum, min_items, max_items, unique_items, min_properties, max_properties}
use Rattle.schema_keywords.specs.declared.keyword.TypeName.{TypeName}
use Rattle.schema_rules.specs.Rules.{Others, refused, by, Rule, test, properties, additional_properties, items, items_each, additional_items, all_of, any_of, one_of, negated, defines, refer}
use Rattle.schema_rules.specs.Verdict.{place_of}
use Rattle.schema_draft4.specs.Words as word
use Rattle.schema_draft4.specs.declared.word.Word.{Word}
use Rattle.schema_draft4.specs.declared.word.Word.TheVariants as words

pub data Fault : Type 0 where
  bad_keyword : ℕ → Fault
  bad_pattern : ℕ → Fault
  unsupported : List ℕ → Fault
  ref_missing : List ℕ → Fault

abbrev pub and_then : {A B : Type 0} → (A → Result B Fault) → Result A Fault → Result B Fault
and_then f (Ok x) = f x
and_then f (Err e) = Err e

-- what was read, and the schemas so far
abbrev pub Reads : Type 0 → Type 0
Reads A = Result (A × List (List Rule)) Fault

-- the names of the root's definitions, each with the number by which a `$ref` names it; the root has 0
abbrev pub Definitions : Type 0
Definitions = List (List ℕ × ℕ)

abbrev pub numbered : ℕ → Members → Definitions
numbered n no_members = []
numbered n (member x t ms) = (x, n) ∷ numbered (n + 1) ms

abbrev pub numbered_form : Form → Definitions
numbered_form null = []
numbered_form (bool b) = []
numbered_form (number x s) = []
numbered_form (text t) = []
numbered_form (list ts) = []
numbered_form (object ms) = numbered 1 ms

abbrev pub defined_by : Option Tree → Definitions
defined_by None = []
defined_by (Some t) = numbered_form (form t)

abbrev pub definitions_of : Tree → Definitions
definitions_of t = defined_by (member_named (form t) word.definitions_name)

-- the value of a whole number, and of true or false
abbrev pub whole_of : Kind → Option ℤ
whole_of kinds.Null = None
whole_of (kinds.Bool b) = None
whole_of (kinds.Whole z) = Some z
whole_of kinds.Decimal = None
whole_of kinds.Wide = None
whole_of kinds.Text = None
whole_of (kinds.List n) = None
whole_of (kinds.Object n) = None

abbrev pub flag_of : Kind → Option Bool
flag_of kinds.Null = None
flag_of (kinds.Bool b) = Some b
flag_of (kinds.Whole z) = None
flag_of kinds.Decimal = None
flag_of kinds.Wide = None
flag_of kinds.Text = None
flag_of (kinds.List n) = None
flag_of (kinds.Object n) = None

abbrev pub is_list : Kind → Bool
is_list kinds.Null = false
is_list (kinds.Bool b) = false
is_list (kinds.Whole z) = false
is_list kinds.Decimal = false
is_list kinds.Wide = false
is_list kinds.Text = false
is_list (kinds.List n) = true
is_list (kinds.Object n) = false

-- a list that is not empty
abbrev pub is_full_list : Kind → Bool
is_full_list kinds.Null = false
is_full_list (kinds.Bool b) = false
is_full_list (kinds.Whole z) = false
is_full_list kinds.Decimal = false
is_full_list kinds.Wide = false
is_full_list kinds.Text = false
is_full_list (kinds.List n) = not (n == 0)
is_full_list (kinds.Object n) = false

abbrev pub is_object : Kind → Bool
is_object kinds.Null = false
is_object (kinds.Bool b) = false
is_object (kinds.Whole z) = false
is_object kinds.Decimal = false
is_object kinds.Wide = false
is_object kinds.Text = false
is_object (kinds.List n) = false
is_object (kinds.Object n) = true

abbrev pub kind_of : Tree → Kind
kind_of t = kind (form t)

-- keywords that look at one value alone

-- a sharpening keyword that is true
abbrev pub is_true : Option Bool → Bool
is_true None = false
is_true (Some b) = b

abbrev pub is_sharp : Option Tree → Bool
is_sharp None = false
is_sharp (Some t) = is_true (flag_of (kind_of t))

-- 5.2, 5.3, 5.4: a size is whole and not negative
abbrev pub size_by : Ordering → ℤ → Option ℕ
size_by Less z = None
size_by Equal z = Some 0
size_by Greater z = Some (unsigned_abs z)

abbrev pub size_of : Option ℤ → Option ℕ
size_of None = None
size_of (Some z) = size_by (int_cmp z (pos 0)) z

-- the texts of a list behind those before, none of them twice
abbrev pub one_text : List (List ℕ) → Option (List ℕ) → Option (List (List ℕ))
one_text before None = None
one_text before (Some x) = if named before x then None else Some (before ++ x ∷ [])

abbrev pub texts : Option (List (List ℕ)) → Trees → Option (List (List ℕ))
texts None ts = None
texts (Some before) no_trees = Some before
texts (Some before) (tree t ts) = texts (one_text before (decoded (form t))) ts

abbrev pub full : Option (List (List ℕ)) → Option (List (List ℕ))
full None = None
full (Some []) = None
full (Some (x ∷ xs)) = Some (x ∷ xs)

abbrev pub items_in : Form → Option Trees
items_in null = None
items_in (bool b) = None
items_in (number x s) = None
items_in (text t) = None
items_in (list ts) = Some ts
items_in (object ms) = None

abbrev pub texts_of : Option Trees → Option (List (List ℕ))
texts_of None = None
texts_of (Some ts) = full (texts (Some []) ts)

-- different texts, one at least
abbrev pub texts_in : Tree → Option (List (List ℕ))
texts_in t = texts_of (items_in (form t))

-- 5.5.2: a type, or different ones
abbrev pub one_type : List TypeName → Option TypeName → Option (List TypeName)
one_type ts None = None
one_type ts (Some t) = Some (ts ++ t ∷ [])

abbrev pub types_named : Option (List TypeName) → List (List ℕ) → Option (List TypeName)
types_named None xs = None
types_named (Some ts) [] = Some ts
types_named (Some ts) (x ∷ xs) = types_named (one_type ts (word.type_of x)) xs

abbrev pub types_of : Option (List (List ℕ)) → Option (List TypeName)
types_of None = None
types_of (Some xs) = types_named (Some []) xs

abbrev pub one_or_more : Option (List ℕ) → Option (List (List ℕ)) → Option (List (List ℕ))
one_or_more None xs = xs
one_or_more (Some x) xs = Some (x ∷ [])

-- 5.5.1: different values, one at least, without their places
abbrev pub enum_from : List Tree → Option Test
enum_from [] = None
enum_from (t ∷ ts) = if are_distinct (trees_of (t ∷ ts)) then Some (enum (t ∷ ts)) else None

abbrev pub enum_of : Option Trees → Option Test
enum_of None = None
enum_of (Some ts) = enum_from (map bare (trees_in ts))

-- 5.1: a bound is whole (a rule of this product)
abbrev pub bounded : Word → Option ℤ → Bool → Bool → Option Test
bounded w None low high = None
bounded words.Minimum (Some z) low high = Some (minimum z low)
bounded words.Maximum (Some z) low high = Some (maximum z high)
bounded w (Some z) low high = None

-- 5.1.1: a divisor is above 0, and whole (a rule of this product); the other sizes may be 0
abbrev pub sized : Word → Option ℕ → Option Test
sized w None = None
sized words.MinLength (Some n) = Some (min_length n)
sized words.MaxLength (Some n) = Some (max_length n)
sized words.MinItems (Some n) = Some (min_items n)
sized words.MaxItems (Some n) = Some (max_items n)
sized words.MinProperties (Some n) = Some (min_properties n)
sized words.MaxProperties (Some n) = Some (max_properties n)
sized words.MultipleOf (Some n) = if n == 0 then None else Some (multiple_of n)
sized w (Some n) = None

-- a keyword's test by its value; all is the object that it stands in
abbrev pub test_by : Word → Form → Tree → Option Test
test_by words.Minimum all t = bounded words.Minimum (whole_of (kind_of t)) (is_sharp (member_named all word.exclusive_minimum)) (is_sharp (member_named all word.exclusive_maximum))
test_by words.Maximum all t = bounded words.Maximum (whole_of (kind_of t)) (is_sharp (member_named all word.exclusive_minimum)) (is_sharp (member_named all word.exclusive_maximum))
test_by words.Required all t = option_map required (texts_in t)
test_by words.Type all t = option_map type (types_of (one_or_more (decoded (form t)) (texts_in t)))
test_by words.Enum all t = enum_of (items_in (form t))
test_by w all t = sized w (size_of (whole_of (kind_of t)))

abbrev pub plain_rule : ℕ → Option Test → Result (List Rule) Fault
plain_rule at None = Err (bad_keyword at)
plain_rule at (Some t) = Ok (test t ∷ [])

-- 5.2.3: a pattern of 1,024 bytes at most
abbrev pub pattern_rule : ℕ → Option (List ℕ) → Result (List Rule) Fault
pattern_rule at None = Err (bad_keyword at)
pattern_rule at (Some x) =
    if nat_le (length x) 1024 then (if is_pattern x then Ok (test (pattern x) ∷ []) else Err (bad_pattern at))
    else Err (bad_keyword at)

-- 5.1.2, 5.1.3: what sharpens a bound, and is no rule of its own
abbrev pub flag_rule : ℕ → Option Bool → Result (List Rule) Fault
flag_rule at None = Err (bad_keyword at)
flag_rule at (Some b) = Ok []

abbrev pub unique_rule : ℕ → Option Bool → Result (List Rule) Fault
unique_rule at None = Err (bad_keyword at)
unique_rule at (Some b) = if b then Ok (test unique_items ∷ []) else Ok []

-- `$ref`

-- 1 to 64 letters, digits, `_` and `-`, the first a letter or digit
abbrev pub is_letter_or_digit : ℕ → Bool
is_letter_or_digit b = (nat_le 48 b && nat_le b 57) || (nat_le 65 b && nat_le b 90) || (nat_le 97 b && nat_le b 122)

abbrev pub is_inner : ℕ → Bool
is_inner b = is_letter_or_digit b || (b == 95) || (b == 45)

abbrev pub are_inner : List ℕ → Bool
are_inner [] = true
are_inner (b ∷ bs) = if is_inner b then are_inner bs else false

abbrev pub is_name : List ℕ → Bool
is_name [] = false
is_name (b ∷ bs) = is_letter_or_digit b && are_inner bs && nat_le (length bs) 63

abbrev pub target_of : Definitions → List ℕ → Result (List Rule) Fault
target_of [] x = Err (ref_missing x)
target_of (d ∷ ds) x = if bytes_eq d.0 x then Ok (refer d.1 ∷ []) else target_of ds x

-- what stands behind this front
abbrev pub behind : List ℕ → List ℕ → Option (List ℕ)
behind [] bs = Some bs
behind (f ∷ fs) [] = None
behind (f ∷ fs) (b ∷ bs) = if b == f then behind fs bs else None

abbrev pub by_name : Definitions → Option (List ℕ) → Result (List Rule) Fault
by_name defs None = Err (unsupported word.ref)
by_name defs (Some x) = if is_name x then target_of defs x else Err (unsupported word.ref)

-- `#`, or `#/definitions/` and a name
abbrev pub reference : Definitions → List ℕ → Result (List Rule) Fault
reference defs x = if bytes_eq x word.root_name then Ok (refer 0 ∷ []) else by_name defs (behind word.definition_front x)

abbrev pub reference_rule : Definitions → ℕ → Option (List ℕ) → Result (List Rule) Fault
reference_rule defs at None = Err (bad_keyword at)
reference_rule defs at (Some x) = reference defs x

-- keywords that have schemas

abbrev pub names_in : Members → List (List ℕ)
names_in no_members = []
names_in (member x t ms) = x ∷ names_in ms

abbrev pub named_parts : Form → List (List ℕ)
named_parts null = []
named_parts (bool b) = []
named_parts (number x s) = []
named_parts (text t) = []
named_parts (list ts) = []
named_parts (object ms) = names_in ms

-- the names that `properties` has
abbrev pub property_names : Option Tree → List (List ℕ)
property_names None = []
property_names (Some t) = named_parts (form t)

-- the rules of a flag or a schema
abbrev pub others_rule : (Others → List Rule) → Bool → List Rule
others_rule make allowed = if allowed then [] else make refused

-- `additionalItems` counts where `items` is a list
abbrev pub items_count : Kind → Others → List Rule
items_count kinds.Null o = []
items_count (kinds.Bool b) o = []
items_count (kinds.Whole z) o = []
items_count kinds.Decimal o = []
items_count kinds.Wide o = []
items_count kinds.Text o = []
items_count (kinds.List n) o = additional_items n o ∷ []
items_count (kinds.Object n) o = []

abbrev pub items_rule : Option Tree → Others → List Rule
items_rule None o = []
items_rule (Some t) o = items_count (kind_of t) o

abbrev pub schema_numbers : List (List ℕ × ℕ) → List ℕ
schema_numbers ps = map (λ p. p.1) ps

-- rules that read no schema
abbrev pub as_before : List (List Rule) → Result (List Rule) Fault → Reads (List Rule)
as_before ss (Ok rs) = Ok (rs, ss)
as_before ss (Err e) = Err e

-- a value that is one schema
abbrev pub by_schema : (ℕ → List Rule) → Reads ℕ → Reads (List Rule)
by_schema make (Ok r) = Ok (make r.0, r.1)
by_schema make (Err e) = Err e

-- a value whose parts are schemas, if it is of the form
abbrev pub by_parts : (List (List ℕ × ℕ) → List Rule) → Reads (List (List ℕ × ℕ)) → Reads (List Rule)
by_parts make (Ok r) = Ok (make r.0, r.1)
by_parts make (Err e) = Err e

abbrev pub if_fits : {A : Type 0} → Bool → ℕ → Reads A → Reads A
if_fits fits at r = if fits then r else Err (bad_keyword at)

-- a value that is true, false or a schema
abbrev pub by_others : (Others → List Rule) → List (List Rule) → Option Bool → Reads ℕ → Reads (List Rule)
by_others make ss None r = by_schema (λ k. make (by k)) r
by_others make ss (Some allowed) r = Ok (others_rule make allowed, ss)

-- a keyword that has no schema
abbrev pub plain_keyword : Definitions → Form → List ℕ → Word → Tree → Result (List Rule) Fault
plain_keyword defs all x words.Ref t = reference_rule defs (place_of t) (decoded (form t))
plain_keyword defs all x words.Pattern t = pattern_rule (place_of t) (decoded (form t))
plain_keyword defs all x words.ExclusiveMinimum t = flag_rule (place_of t) (flag_of (kind_of t))
plain_keyword defs all x words.ExclusiveMaximum t = flag_rule (place_of t) (flag_of (kind_of t))
plain_keyword defs all x words.UniqueItems t = unique_rule (place_of t) (flag_of (kind_of t))
plain_keyword defs all x words.PatternProperties t = Err (unsupported x)
plain_keyword defs all x words.Dependencies t = Err (unsupported x)
plain_keyword defs all x words.Unknown t = Ok []
plain_keyword defs all x w t = plain_rule (place_of t) (test_by w all t)

-- one keyword: the object that it stands in, the schemas so far, its value as a schema, and its value's parts as schemas
abbrev pub keyword : Definitions → Form → List (List Rule) → List ℕ → Word → Tree → Reads ℕ → Reads (List (List ℕ × ℕ)) → Reads (List Rule)
keyword defs all ss x words.Properties t r ps = by_parts (λ qs. properties qs ∷ []) (if_fits (is_object (kind_of t)) (place_of t) ps)
keyword defs all ss x words.Definitions t r ps = by_parts (λ qs. defines qs ∷ []) (if_fits (is_object (kind_of t)) (place_of t) ps)
keyword defs all ss x words.AdditionalProperties t r ps = by_others (λ o. additional_properties (property_names (member_named all word.properties_name)) o ∷ []) ss (flag_of (kind_of t)) r
keyword defs all ss x words.Items t r ps = if is_list (kind_of t) then by_parts (λ qs. items_each (schema_numbers qs) ∷ []) ps else by_schema (λ k. items k ∷ []) r
keyword defs all ss x words.AdditionalItems t r ps = by_others (items_rule (member_named all word.items_name)) ss (flag_of (kind_of t)) r
keyword defs all ss x words.AllOf t r ps = by_parts (λ qs. all_of (schema_numbers qs) ∷ []) (if_fits (is_full_list (kind_of t)) (place_of t) ps)
keyword defs all ss x words.AnyOf t r ps = by_parts (λ qs. any_of (schema_numbers qs) ∷ []) (if_fits (is_full_list (kind_of t)) (place_of t) ps)
keyword defs all ss x words.OneOf t r ps = by_parts (λ qs. one_of (schema_numbers qs) ∷ []) (if_fits (is_full_list (kind_of t)) (place_of t) ps)
keyword defs all ss x words.Not t r ps = by_schema (λ k. negated k ∷ []) r
keyword defs all ss x w t r ps = as_before ss (plain_keyword defs all x w t)

-- beside a `$ref` nothing is read, but `definitions` at the root
abbrev pub is_read : Bool → Bool → Word → Bool
is_read refers root words.Ref = true
is_read refers root words.Definitions = root || not refers
is_read refers root w = not refers

abbrev pub if_read : Bool → List (List Rule) → Reads (List Rule) → Reads (List Rule)
if_read taken ss r = if taken then r else Ok ([], ss)

-- a schema ends: it comes behind the schemas within it
abbrev pub closed : Reads (List Rule) → Reads ℕ
closed (Ok r) = Ok (length r.1, r.1 ++ r.0 ∷ [])
closed (Err e) = Err e

abbrev pub refers_in : Form → Bool
refers_in f = is_some (member_named f word.ref)

abbrev mutual
  -- the number of the schema that a value is, behind the schemas so far
  pub schema : Definitions → Bool → List (List Rule) → Tree → Reads ℕ
  schema defs root ss (node first past f) = schema_form defs root ss first f

  pub schema_form : Definitions → Bool → List (List Rule) → ℕ → Form → Reads ℕ
  schema_form defs root ss first null = Err (bad_keyword first)
  schema_form defs root ss first (bool b) = Err (bad_keyword first)
  schema_form defs root ss first (number x s) = Err (bad_keyword first)
  schema_form defs root ss first (text t) = Err (bad_keyword first)
  schema_form defs root ss first (list ts) = Err (bad_keyword first)
  schema_form defs root ss first (object ms) = closed (keywords defs root (object ms) [] ss ms)

  -- the keywords from here on, behind the rules so far
  pub keywords : Definitions → Bool → Form → List Rule → List (List Rule) → Members → Reads (List Rule)
  keywords defs root all rs ss no_members = Ok (rs, ss)
  keywords defs root all rs ss (member x t ms) =
      and_then (λ r. keywords defs root all (rs ++ r.0) r.1 ms)
      (if_read (is_read (refers_in all) root (word.word_of x)) ss (keyword defs all ss x (word.word_of x) t (schema defs false ss t) (parts defs ss t)))

  -- the parts of a value as schemas, with the names of an object's
  pub parts : Definitions → List (List Rule) → Tree → Reads (List (List ℕ × ℕ))
  parts defs ss (node first past f) = parts_form defs ss f

  pub parts_form : Definitions → List (List Rule) → Form → Reads (List (List ℕ × ℕ))
  parts_form defs ss null = Ok ([], ss)
  parts_form defs ss (bool b) = Ok ([], ss)
  parts_form defs ss (number x s) = Ok ([], ss)
  parts_form defs ss (text t) = Ok ([], ss)
  parts_form defs ss (list ts) = item_schemas defs [] ss ts
  parts_form defs ss (object ms) = member_schemas defs [] ss ms

  pub item_schemas : Definitions → List (List ℕ × ℕ) → List (List Rule) → Trees → Reads (List (List ℕ × ℕ))
  item_schemas defs ps ss no_trees = Ok (ps, ss)
  item_schemas defs ps ss (tree t ts) = and_then (λ r. item_schemas defs (ps ++ ([], r.0) ∷ []) r.1 ts) (schema defs false ss t)

  pub member_schemas : Definitions → List (List ℕ × ℕ) → List (List Rule) → Members → Reads (List (List ℕ × ℕ))
  member_schemas defs ps ss no_members = Ok (ps, ss)
  member_schemas defs ps ss (member x t ms) = and_then (λ r. member_schemas defs (ps ++ (x, r.0) ∷ []) r.1 ms) (schema defs false ss t)

-- the schemas that a value is with all that it names: its own comes last
abbrev pub read_schemas : Tree → Reads ℕ
read_schemas t = schema (definitions_of t) true [] t
