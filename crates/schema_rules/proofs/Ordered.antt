-- The program's schemas come in an order, by their ranks.
use Rattle.std.proofs.Common.{◌≡◌, ℕ, zero, suc, ◌<◌, List, [], ◌∷◌, length, map, option_map, Option, Some, None, refl, sym, ◌∙◌, ap, arith, subst, unwrap_or}
use Rattle.std.specs.Prelude.{slice_get}
use Rattle.std.specs.List.{AllByRecursion}
use Rattle.std.proofs.lemmas.List.{length-map}
use Rattle.schema_rules.specs.Rules.{Rule}
use Rattle.schema_rules.specs.Verdict.{or_none, rules_of, every}
use Rattle.schema_rules.specs.Order.{IsPlaced, IsOrdered}
use Rattle.schema_rules.specs.Views.{rule_of, rules_in, schemas_of, rank_in, rank_of, AllBefore, IsSoundRule, AreSoundRules, AreSoundNodes}
use Rattle.schema_rules.specs.Cases.{said, schemas_in, value_in, tree_in, IsSoundCase}
use Rattle.schema_rules.specs.declared.case.Case.{Case}
use Rattle.schema_rules.specs.declared.rule.Node.{Node}
use Rattle.schema_rules.specs.declared.rule.Rule.{Rule as CodeRule}
use Rattle.schema_rules.specs.declared.rule.Rule.TheVariants as code
use Rattle.schema_rules.proofs.Chains.{unfolds}

all_earlier : (ns : List Node) (rank : ℕ) (xs : List ℕ) → AllBefore ns rank xs → AllByRecursion (λ s. rank_of ns s < rank) xs
all_earlier ns rank [] h = tt
all_earlier ns rank (s ∷ xs) h = (h.0.earlier, all_earlier ns rank xs h.1)

placed_rule : (ns : List Node) (ts : List ℕ) (k : ℕ) (r : CodeRule) → IsSoundRule ns ts (rank_of ns k) r → IsPlaced (schemas_of ns ts) (rank_of ns) k (rule_of r)
placed_rule ns ts k (code.Test t) h = tt
placed_rule ns ts k (code.Properties ps) h = tt
placed_rule ns ts k (code.AdditionalProperties xs o) h = tt
placed_rule ns ts k (code.Items s) h = tt
placed_rule ns ts k (code.ItemsEach ss) h = tt
placed_rule ns ts k (code.AdditionalItems n o) h = tt
placed_rule ns ts k (code.AllOf ss) h = all_earlier ns (rank_of ns k) ss.items h
placed_rule ns ts k (code.AnyOf ss) h = all_earlier ns (rank_of ns k) ss.items h
placed_rule ns ts k (code.OneOf ss) h = all_earlier ns (rank_of ns k) ss.items h
placed_rule ns ts k (code.Not s) h = h.earlier
placed_rule ns ts k (code.Defines ps) h = tt
placed_rule ns ts k (code.Refer t) h = h.1.earlier

placed_rules : (ns : List Node) (ts : List ℕ) (k : ℕ) (rs : List CodeRule) → AreSoundRules ns ts (rank_of ns k) rs → AllByRecursion (IsPlaced (schemas_of ns ts) (rank_of ns) k) (map rule_of rs)
placed_rules ns ts k [] h = tt
placed_rules ns ts k (r ∷ rs) h = (placed_rule ns ts k r h.0, placed_rules ns ts k rs h.1)

get_map : (ns : List Node) (k : ℕ) → slice_get (map rules_in ns) k ≡ option_map rules_in (slice_get ns k)
get_map [] k = refl
get_map (x ∷ ns) zero = refl
get_map (x ∷ ns) (suc k) = get_map ns k

some_inj : {A : Type 0} (x y : A) → Some x ≡ Some y → x ≡ y
some_inj {A = A} x y e = let out : Option A → A = λ o. unwrap_or o x in ap out e

get_some : (ns : List Node) (k : ℕ) → k < length ns → (x : Node) × (slice_get ns k ≡ Some x)
get_some [] k h = absurd (omega (arith, h))
get_some (x ∷ ns) zero h = (x, refl)
get_some (x ∷ ns) (suc k) h = get_some ns k (omega (arith, h))

rank_at : (ns : List Node) (k : ℕ) (x : Node) → slice_get ns k ≡ Some x → rank_of ns k ≡ x.rank
rank_at ns k x at = ap rank_in at

sound_at : (ns : List Node) (ts : List ℕ) (k : ℕ) (x : Node) → AreSoundNodes ns ts → slice_get ns k ≡ Some x → AreSoundRules ns ts (rank_of ns k) x.rules.items
sound_at ns ts k x sound at = let P : ℕ → Type 0 = λ z. AreSoundRules ns ts z x.rules.items in subst P (sym (rank_at ns k x at)) (sound k x at).rules

falls : (ns : List Node) (ts : List ℕ) (k : ℕ) → AreSoundNodes ns ts → (o : Option Node) → slice_get ns k ≡ o → (rs : List Rule) → option_map rules_in o ≡ Some rs → AllByRecursion (IsPlaced (schemas_of ns ts) (rank_of ns) k) rs
falls ns ts k sound None at rs e = absurd cc
falls ns ts k sound (Some x) at rs e =
    let P : List Rule → Type 0 = λ z. AllByRecursion (IsPlaced (schemas_of ns ts) (rank_of ns) k) z in
    subst P (some_inj (rules_in x) rs e) (placed_rules ns ts k x.rules.items (sound_at ns ts k x sound at))

few : (ns : List Node) (ts : List ℕ) (k : ℕ) → AreSoundNodes ns ts → k < length (map rules_in ns) → rank_of ns k < length (map rules_in ns)
few ns ts k sound h =
    let x = get_some ns k (omega (arith, h, length-map ns rules_in)) in
    omega (arith, (sound k x.0 x.1).rank, rank_at ns k x.0 x.1, length-map ns rules_in)

pub ordered : (ns : List Node) (ts : List ℕ) → AreSoundNodes ns ts → IsOrdered (schemas_of ns ts)
ordered ns ts sound = record {
  rank = rank_of ns;
  few = λ k h. few ns ts k sound h;
  falls = λ k rs at. falls ns ts k sound (slice_get ns k) refl rs (sym (get_map ns k) ∙ at);
}

-- what a schema's keywords say of a value is what it says
pub node_says : (c : Case) (k : ℕ) (x : Node) (rs : List CodeRule) → IsSoundCase c → k < length c.nodes.now → slice_get c.nodes.now k ≡ Some x → rs ≡ x.rules.items → (i : ℕ) → every (schemas_in c) (said c i) (value_in c i) (map rule_of rs) ≡ said c i k
node_says c k x rs sound h at same i =
    let its : map rule_of rs ≡ rules_of (schemas_in c) k = ap (map rule_of) same ∙ sym (ap or_none (get_map c.nodes.now k ∙ ap (option_map rules_in) at)) in
    ap (every (schemas_in c) (said c i) (value_in c i)) its
    ∙ sym (unfolds (schemas_in c) (ordered c.nodes.now c.targets.now sound.nodes) (tree_in c i) k (omega (arith, h, length-map c.nodes.now rules_in)))
