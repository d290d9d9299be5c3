-- A `$ref` that leads back to itself through no properties and no items.
use Rattle.std.specs.Prelude.{◌≡◌, ℕ, zero, suc, List, [], ◌∷◌, ◌++◌, length, map, Option, Some, None, slice_index}
use Rattle.std.specs.List.{AllByRecursion}
use Rattle.schema_rules.specs.Rules.{Rule, test, properties, additional_properties, items, items_each, additional_items, all_of, any_of, one_of, negated, defines, refer, Schemas, target}
use Rattle.schema_rules.specs.Verdict.{rules_of}
use Rattle.schema_draft4.specs.Reading.{Definitions}
use Rattle.schema_draft4.specs.Words as word
use Rattle.schema_order.specs.Leads.{Leads}

-- the schemas that a rule names for the same value, where `$ref`s name these targets
abbrev pub in_place : List ℕ → Rule → List ℕ
in_place ts (test t) = []
in_place ts (properties ps) = []
in_place ts (additional_properties xs o) = []
in_place ts (items s) = []
in_place ts (items_each xs) = []
in_place ts (additional_items n o) = []
in_place ts (all_of xs) = xs
in_place ts (any_of xs) = xs
in_place ts (one_of xs) = xs
in_place ts (negated s) = s ∷ []
in_place ts (defines ps) = []
in_place ts (refer t) = slice_index ts t ∷ []

abbrev pub all_in_place : List ℕ → List Rule → List ℕ
all_in_place ts [] = []
all_in_place ts (r ∷ rs) = in_place ts r ++ all_in_place ts rs

-- for each schema those that it names for the same value
abbrev pub steps : Schemas → List (List ℕ)
steps ss = map (all_in_place ss.targets) ss.rules

abbrev pub referred : Rule → Option ℕ
referred (test t) = None
referred (properties ps) = None
referred (additional_properties xs o) = None
referred (items s) = None
referred (items_each xs) = None
referred (additional_items n o) = None
referred (all_of xs) = None
referred (any_of xs) = None
referred (one_of xs) = None
referred (negated s) = None
referred (defines ps) = None
referred (refer t) = Some t

-- a `$ref`: the schema that it is, and what it names
abbrev pub Reference : Type 0
Reference = ℕ × ℕ

abbrev pub reference_of : ℕ → Option ℕ → List Reference
reference_of k None = []
reference_of k (Some t) = (k, t) ∷ []

-- the `$ref`s among the keywords of the schema k
abbrev pub references_in : ℕ → List Rule → List Reference
references_in k [] = []
references_in k (r ∷ rs) = reference_of k (referred r) ++ references_in k rs

abbrev pub references : Schemas → List ℕ → List Reference
references ss [] = []
references ss (k ∷ ks) = references_in k (rules_of ss k) ++ references ss ks

-- what the `$ref` names leads back to it
abbrev pub ComesBack : Schemas → Reference → Type 0
ComesBack ss r = Leads (steps ss) (target ss r.1) r.0

-- none of these comes back
abbrev pub NoneBack : Schemas → List Reference → Type 0
NoneBack ss rs = AllByRecursion (λ r. ComesBack ss r → ⊥) rs

-- the first of these that comes back is a `$ref` to t
pub data FirstBack : Schemas → List Reference → ℕ → Type 0 where
  comes_back : {ss : Schemas} (k t : ℕ) (rs : List Reference) → ComesBack ss (k, t) → FirstBack ss ((k, t) ∷ rs) t
  goes_on : {ss : Schemas} (r : Reference) (t : ℕ) (rs : List Reference) → (ComesBack ss r → ⊥) → FirstBack ss rs t → FirstBack ss (r ∷ rs) t

abbrev pub first_refers : List Rule → Option ℕ
first_refers [] = None
first_refers (r ∷ rs) = referred r

abbrev pub up_from : ℕ → ℕ → List ℕ
up_from k zero = []
up_from k (suc n) = k ∷ up_from (suc k) n

abbrev pub last_or_first : Option ℕ → ℕ → List ℕ
last_or_first None n = up_from 0 (suc n)
last_or_first (Some t) n = n ∷ up_from 0 n

abbrev pub orders : Schemas → ℕ → List ℕ
orders ss zero = []
orders ss (suc n) = last_or_first (first_refers (rules_of ss n)) n

-- the `$ref`s in reading order: as their schemas end, but the root's first where it comes before the definitions
abbrev pub reading_order : Schemas → List Reference
reading_order ss = references ss (orders ss (length ss.rules))

-- the name by which a `$ref` names its target
abbrev pub name_at : Definitions → ℕ → List ℕ
name_at [] n = word.root_name
name_at (d ∷ ds) zero = d.0
name_at (d ∷ ds) (suc n) = name_at ds n

abbrev pub target_name : Definitions → ℕ → List ℕ
target_name defs zero = word.root_name
target_name defs (suc n) = name_at defs n

-- the first `$ref` in reading order that comes back has this name
pub record ComesBackBy (ss : Schemas) (defs : Definitions) (x : List ℕ) : Type 0 where
  pub target : ℕ
  pub first : FirstBack ss (reading_order ss) target
  pub names : x ≡ target_name defs target

-- the numbers that a schema's `definitions` gives
abbrev pub defined : Rule → List ℕ
defined (test t) = []
defined (properties ps) = []
defined (additional_properties xs o) = []
defined (items s) = []
defined (items_each xs) = []
defined (additional_items n o) = []
defined (all_of xs) = []
defined (any_of xs) = []
defined (one_of xs) = []
defined (negated s) = []
defined (defines ps) = map (λ p. p.1) ps
defined (refer t) = []

abbrev pub all_defined : List Rule → List ℕ
all_defined [] = []
all_defined (r ∷ rs) = defined r ++ all_defined rs

abbrev pub rules_at : List (List Rule) → ℕ → List Rule
rules_at ss k = rules_of (record { rules = ss; targets = [] }) k

-- the schemas with what their `$ref`s name: the root, and its definitions
abbrev pub linked : List (List Rule) → ℕ → Schemas
linked ss root = record { rules = ss; targets = root ∷ all_defined (rules_at ss root) }
