-- Which schemas and verdicts the program's are.
use Rattle.std.specs.Prelude.{◌≡◌, ◌<◌, ℕ, List, [], ◌∷◌, length, map, Option, Some, None, slice_get, slice_index, String}
use Rattle.std.specs.BTreeSet.{contains_text}
use Rattle.std.specs.List.{AllByRecursion}
use Rattle.std.specs.String.{string_bytes}
use Rattle.std.specs.declared.alloc.Global.{Global}
use Rattle.json_subset.specs.Nodes.{AllBelow, AllValuesBelow}
use Rattle.json_subset.specs.Reading.{named}
use Rattle.json_subset.specs.Documents.{Document, IsPart, part}
use Rattle.schema_keywords.specs.Views.{test_of, IsSoundTest}
use Rattle.schema_rules.specs.Rules as spec
use Rattle.schema_rules.specs.Rules.{Rule, Schemas, test, properties, additional_properties, items, items_each, additional_items, all_of, any_of, one_of, negated, defines, refer}
use Rattle.schema_rules.specs.Verdict as says
use Rattle.schema_rules.specs.declared.rule.Others.{Others}
use Rattle.schema_rules.specs.declared.rule.Others.TheVariants as others
use Rattle.schema_rules.specs.declared.rule.Names.{Names}
use Rattle.schema_rules.specs.declared.rule.Rule.{Rule as CodeRule}
use Rattle.schema_rules.specs.declared.rule.Rule.TheVariants as code
use Rattle.schema_rules.specs.declared.rule.Node.{Node}
use Rattle.schema_rules.specs.declared.verdict.Verdict.{Verdict}
use Rattle.schema_rules.specs.declared.verdict.Verdict.TheVariants as verdicts

abbrev pub named_schema : String Global × ℕ → List ℕ × ℕ
named_schema p = (string_bytes p.0, p.1)

abbrev pub others_of : Others → spec.Others
others_of others.Refused = spec.refused
others_of (others.By s) = spec.by s

abbrev pub names_of : Names → List (List ℕ)
names_of x = map string_bytes x.list.items

abbrev pub rule_of : CodeRule → Rule
rule_of (code.Test t) = test (test_of t)
rule_of (code.Properties ps) = properties (map named_schema ps.items)
rule_of (code.AdditionalProperties xs o) = additional_properties (names_of xs) (others_of o)
rule_of (code.Items s) = items s
rule_of (code.ItemsEach ss) = items_each ss.items
rule_of (code.AdditionalItems n o) = additional_items n (others_of o)
rule_of (code.AllOf ss) = all_of ss.items
rule_of (code.AnyOf ss) = any_of ss.items
rule_of (code.OneOf ss) = one_of ss.items
rule_of (code.Not s) = negated s
rule_of (code.Defines ps) = defines (map named_schema ps.items)
rule_of (code.Refer t) = refer t

abbrev pub rules_in : Node → List Rule
rules_in x = map rule_of x.rules.items

abbrev pub schemas_of : List Node → List ℕ → Schemas
schemas_of ns ts = record { rules = map rules_in ns; targets = ts }

abbrev pub rank_in : Option Node → ℕ
rank_in None = 0
rank_in (Some x) = x.rank

abbrev pub rank_of : List Node → ℕ → ℕ
rank_of ns k = rank_in (slice_get ns k)

-- a schema of ns that comes before the schema of this rank
pub record IsBefore (ns : List Node) (rank : ℕ) (s : ℕ) : Type 0 where
  pub stands : s < length ns
  pub earlier : rank_of ns s < rank

abbrev pub AllBefore : List Node → ℕ → List ℕ → Type 0
AllBefore ns rank ss = AllByRecursion (IsBefore ns rank) ss

abbrev pub AreOthersBelow : ℕ → Others → Type 0
AreOthersBelow n others.Refused = Unit {0}
AreOthersBelow n (others.By s) = s < n

-- the set has the names of the list
abbrev pub IsNameSet : Names → Type 0
IsNameSet x = (q : List ℕ) → contains_text x.index q ≡ named (names_of x) q

abbrev pub IsTargetBefore : List Node → List ℕ → ℕ → ℕ → Type 0
IsTargetBefore ns ts rank t = (t < length ts) × IsBefore ns rank (slice_index ts t)

-- what a rule of a schema of this rank names stands, and comes before it where it is named for the same value
abbrev pub IsSoundRule : List Node → List ℕ → ℕ → CodeRule → Type 0
IsSoundRule ns ts rank (code.Test t) = IsSoundTest t
IsSoundRule ns ts rank (code.Properties ps) = AllValuesBelow (length ns) ps.items
IsSoundRule ns ts rank (code.AdditionalProperties xs o) = IsNameSet xs × AreOthersBelow (length ns) o
IsSoundRule ns ts rank (code.Items s) = s < length ns
IsSoundRule ns ts rank (code.ItemsEach ss) = AllBelow (length ns) ss.items
IsSoundRule ns ts rank (code.AdditionalItems n o) = AreOthersBelow (length ns) o
IsSoundRule ns ts rank (code.AllOf ss) = AllBefore ns rank ss.items
IsSoundRule ns ts rank (code.AnyOf ss) = AllBefore ns rank ss.items
IsSoundRule ns ts rank (code.OneOf ss) = AllBefore ns rank ss.items
IsSoundRule ns ts rank (code.Not s) = IsBefore ns rank s
IsSoundRule ns ts rank (code.Defines ps) = Unit {0}
IsSoundRule ns ts rank (code.Refer t) = IsTargetBefore ns ts rank t

abbrev pub AreSoundRules : List Node → List ℕ → ℕ → List CodeRule → Type 0
AreSoundRules ns ts rank rs = AllByRecursion (IsSoundRule ns ts rank) rs

pub record IsSoundNode (ns : List Node) (ts : List ℕ) (x : Node) : Type 0 where
  pub rules : AreSoundRules ns ts x.rank x.rules.items
  pub rank : x.rank < length ns

abbrev pub AreSoundNodes : List Node → List ℕ → Type 0
AreSoundNodes ns ts = (k : ℕ) (x : Node) → slice_get ns k ≡ Some x → IsSoundNode ns ts x

-- a verdict names the first byte of the failing part
abbrev pub verdict_of : Document → Verdict → says.Verdict
verdict_of d verdicts.Valid = says.valid
verdict_of d (verdicts.Invalid id k) = says.invalid (says.place_of (part d id)) k

-- what a verdict names is a part of the document
abbrev pub NamesPart : Document → Verdict → Type 0
NamesPart d verdicts.Valid = Unit {0}
NamesPart d (verdicts.Invalid id k) = IsPart d id

-- the rules of a keyword that has one or none
abbrev pub rules_from : Option CodeRule → List Rule
rules_from None = []
rules_from (Some r) = rule_of r ∷ []

-- a schema of a list has no name
abbrev pub unnamed : ℕ → List ℕ × ℕ
unnamed k = ([], k)
