-- Schemas one by one.
use Rattle.std.proofs.Common.{◌≡◌, ℕ, zero, suc, List, [], ◌∷◌, length, map, Some, refl, ap, sym, ◌∙◌, ◌≤◌, arith}
use Rattle.std.proofs.Math.ListN.{set}
use Rattle.schema_draft4.specs.Cycles.{rules_at}
use Rattle.std.specs.Prelude.{slice_get}
use Rattle.schema_rules.specs.Made.{AllWellMade, AreWellMade}
use Rattle.schema_rules.specs.Views.{rules_in}
use Rattle.schema_rules.specs.declared.rule.Node.{Node}

-- a schema with another rank
pub rules_set : (ns : List Node) (k : ℕ) (x y : Node) → slice_get ns k ≡ Some x → rules_in y ≡ rules_in x → map rules_in (set ns k y) ≡ map rules_in ns
rules_set [] k x y e same = refl
rules_set (n ∷ ns) zero x y e same = let is : n ≡ x = cc in ap (λ z. z ∷ map rules_in ns) (same ∙ ap rules_in (sym is))
rules_set (n ∷ ns) (suc k) x y e same = ap (λ z. rules_in n ∷ z) (rules_set ns k x y e same)

pub made_set : (ns : List Node) (k : ℕ) (y : Node) → AreWellMade ns → AllWellMade y.rules.items → AreWellMade (set ns k y)
made_set [] k y h made = tt
made_set (n ∷ ns) zero y h made = (made, h.1)
made_set (n ∷ ns) (suc k) y h made = (h.0, made_set ns k y h.1 made)

pub rules_there : (ns : List Node) (k : ℕ) (x : Node) → slice_get ns k ≡ Some x → rules_in x ≡ rules_at (map rules_in ns) k
rules_there [] k x e = cc
rules_there (n ∷ ns) zero x e = let is : n ≡ x = cc in ap rules_in (sym is)
rules_there (n ∷ ns) (suc k) x e = rules_there ns k x e

pub rules_past : (ns : List Node) (k : ℕ) → length ns ≤ k → [] ≡ rules_at (map rules_in ns) k
rules_past [] k h = refl
rules_past (n ∷ ns) zero h = absurd (omega (arith, h))
rules_past (n ∷ ns) (suc k) h = rules_past ns k (omega (arith, h))
