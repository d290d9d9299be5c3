-- What holds of each rule by itself.
use Rattle.std.specs.Prelude.{List}
use Rattle.std.specs.List.{AllByRecursion}
use Rattle.schema_keywords.specs.Views.{IsSoundTest}
use Rattle.schema_rules.specs.Views.{IsNameSet}
use Rattle.schema_rules.specs.declared.rule.Rule.{Rule}
use Rattle.schema_rules.specs.declared.rule.Rule.TheVariants as code
use Rattle.schema_rules.specs.declared.rule.Node.{Node}

-- a test is sound, and the names of a list stand in its set
abbrev pub IsWellMade : Rule → Type 0
IsWellMade (code.Test t) = IsSoundTest t
IsWellMade (code.Properties ps) = Unit {0}
IsWellMade (code.AdditionalProperties xs o) = IsNameSet xs
IsWellMade (code.Items s) = Unit {0}
IsWellMade (code.ItemsEach ss) = Unit {0}
IsWellMade (code.AdditionalItems n o) = Unit {0}
IsWellMade (code.AllOf ss) = Unit {0}
IsWellMade (code.AnyOf ss) = Unit {0}
IsWellMade (code.OneOf ss) = Unit {0}
IsWellMade (code.Not s) = Unit {0}
IsWellMade (code.Defines ps) = Unit {0}
IsWellMade (code.Refer t) = Unit {0}

abbrev pub AllWellMade : List Rule → Type 0
AllWellMade rs = AllByRecursion IsWellMade rs

abbrev pub AreWellMade : List Node → Type 0
AreWellMade ns = AllByRecursion (λ x. AllWellMade x.rules.items) ns
