-- One more schema, rule or part.
use Rattle.std.proofs.Common.{◌≡◌, ℕ, List, [], ◌∷◌, ◌++◌, map, length, refl, ap}
use Rattle.std.specs.Prelude.{String}
use Rattle.std.specs.declared.alloc.Global.{Global}
use Rattle.std.proofs.lemmas.List.{length-map}
use Rattle.schema_rules.specs.Made.{AllWellMade, AreWellMade, IsWellMade}
use Rattle.schema_rules.specs.Views.{named_schema, rule_of, rules_in, unnamed}
use Rattle.schema_rules.specs.declared.rule.Node.{Node}
use Rattle.schema_rules.specs.declared.rule.Rule.{Rule}

pub length_rules : (ns : List Node) → length (map rules_in ns) ≡ length ns
length_rules ns = length-map ns rules_in

pub rules_push : (ns : List Node) (x : Node) → map rules_in (ns ++ x ∷ []) ≡ map rules_in ns ++ rules_in x ∷ []
rules_push [] x = refl
rules_push (n ∷ ns) x = ap (λ z. rules_in n ∷ z) (rules_push ns x)

pub rule_push : (rs : List Rule) (r : Rule) → map rule_of (rs ++ r ∷ []) ≡ map rule_of rs ++ rule_of r ∷ []
rule_push [] r = refl
rule_push (x ∷ rs) r = ap (λ z. rule_of x ∷ z) (rule_push rs r)

pub named_push : (ps : List (String Global × ℕ)) (p : String Global × ℕ) → map named_schema (ps ++ p ∷ []) ≡ map named_schema ps ++ named_schema p ∷ []
named_push [] p = refl
named_push (q ∷ ps) p = ap (λ z. named_schema q ∷ z) (named_push ps p)

pub unnamed_push : (ids : List ℕ) (k : ℕ) → map unnamed (ids ++ k ∷ []) ≡ map unnamed ids ++ unnamed k ∷ []
unnamed_push [] k = refl
unnamed_push (i ∷ ids) k = ap (λ z. unnamed i ∷ z) (unnamed_push ids k)

pub made_push : (ns : List Node) (x : Node) → AreWellMade ns → AllWellMade x.rules.items → AreWellMade (ns ++ x ∷ [])
made_push [] x h here = (here, tt)
made_push (n ∷ ns) x h here = (h.0, made_push ns x h.1 here)

pub all_push : (rs : List Rule) (r : Rule) → AllWellMade rs → IsWellMade r → AllWellMade (rs ++ r ∷ [])
all_push [] r h here = (here, tt)
all_push (x ∷ rs) r h here = (h.0, all_push rs r h.1 here)
