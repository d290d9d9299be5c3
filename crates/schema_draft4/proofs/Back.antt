-- References that come back.
use Rattle.std.proofs.Common.{◌≡◌, ℕ, zero, suc, ◌<◌, ◌≤◌, ◌-◌, ◌+◌, List, [], ◌∷◌, ◌++◌, length, map, true, false, Ok, Err, Option, Some, None, refl, sym, ap, subst, arith, ◌∙◌, drop, get_or, drop-cons}
use Rattle.std.specs.Prelude.{is_some, IfErr, IfOk, Result, String}
use Rattle.std.specs.String.{string_bytes}
use Rattle.std.specs.declared.alloc.Global.{Global}
use Rattle.gw_base.specs.declared.outside.Memory.{Memory}
use Rattle.json_subset.specs.Tree.{Tree}
use Rattle.json_subset.specs.Documents.{Document}
use Rattle.schema_draft4.specs.Compiled.{linked_schemas, IsFaultOf}
use Rattle.schema_draft4.specs.Cycles.{Reference, ComesBack, ComesBackBy, FirstBack, comes_back, goes_on, NoneBack, first_refers, last_or_first, name_at, orders, reading_order, references, references_in, reference_of, referred, target_name, up_from}
use Rattle.schema_draft4.specs.Links.{IsBackFault, IsFirst}
use Rattle.schema_draft4.specs.Reading.{Definitions, definitions_of}
use Rattle.schema_rules.specs.Rules.{Schemas}
use Rattle.schema_rules.specs.Verdict.{rules_of}
use Rattle.schema_rules.specs.Views.{named_schema, rule_of}
use Rattle.schema_draft4.specs.Words.{root_name}
use Rattle.schema_draft4.specs.declared.fault.SchemaFault.{SchemaFault}
use Rattle.schema_draft4.specs.declared.fault.SchemaFault.TheVariants as faults
use Rattle.schema_rules.specs.declared.rule.Rule.{Rule}

cycle_is : (d : Document) (e : SchemaFault) (t : Tree) (ss : Schemas) (k : ℕ) (defs : Definitions) → linked_schemas t ≡ Ok (ss, k) → defs ≡ definitions_of t → IsBackFault ss defs e → IsFaultOf d e t
cycle_is d (faults.BadKeyword id) t ss k defs h same is = absurd is
cycle_is d (faults.BadPattern id) t ss k defs h same is = absurd is
cycle_is d (faults.Unsupported x) t ss k defs h same is = absurd is
cycle_is d (faults.RefMissing x) t ss k defs h same is = absurd is
cycle_is d (faults.RefCycle x) t ss k defs h same is = let P : Definitions → Type 0 = λ z. ComesBackBy ss z x in ((ss, k), h, subst P same is)
cycle_is d faults.Memory t ss k defs h same is = tt

pub cycle_or_none : {A : Type 0} (d : Document) (r : Result A SchemaFault) (t : Tree) (ss : Schemas) (k : ℕ) (defs : Definitions) → linked_schemas t ≡ Ok (ss, k) → defs ≡ definitions_of t → IfErr r (IsBackFault ss defs) → IfErr r (λ e. IsFaultOf d e t)
cycle_or_none d (Ok x) t ss k defs h same is = tt
cycle_or_none d (Err e) t ss k defs h same is = cycle_is d e t ss k defs h same is

pub one_back : (ss : Schemas) (k t : ℕ) (o : Option ℕ) → Some t ≡ o → ComesBack ss (k, t) → FirstBack ss (reference_of k o) t
one_back ss k t None e h = absurd cc
one_back ss k t (Some u) e h = let same : t ≡ u = cc in let P : ℕ → Type 0 = λ z. FirstBack ss ((k, z) ∷ []) t in subst P same (comes_back k t [] h)

-- behind references none of which comes back
pub first_behind : (ss : Schemas) (xs ys : List Reference) (o : Option ℕ) → NoneBack ss xs → IsFirst ss ys o → IsFirst ss (xs ++ ys) o
first_behind ss [] ys o none h = h
first_behind ss (x ∷ xs) ys None none h = (none.0, first_behind ss xs ys None none.1 h)
first_behind ss (x ∷ xs) ys (Some t) none h = goes_on x t (xs ++ ys) none.0 (first_behind ss xs ys (Some t) none.1 h)

first_in_front : (ss : Schemas) (xs ys : List Reference) (t : ℕ) → FirstBack ss xs t → FirstBack ss (xs ++ ys) t
first_in_front ss xs ys t (comes_back k u rs h) = comes_back k u (rs ++ ys) h
first_in_front ss xs ys t (goes_on r u rs none h) = goes_on r u (rs ++ ys) none (first_in_front ss rs ys u h)

-- one that was found stays the first
pub found_there : (ss : Schemas) (xs ys : List Reference) (o : Option ℕ) → is_some o ≡ true → IsFirst ss xs o → IsFirst ss (xs ++ ys) o
found_there ss xs ys None e h = absurd cc
found_there ss xs ys (Some t) e h = first_in_front ss xs ys t h

pub none_there : (ss : Schemas) (xs : List Reference) (o : Option ℕ) → is_some o ≡ false → IsFirst ss xs o → NoneBack ss xs
none_there ss xs None e h = h
none_there ss xs (Some t) e h = absurd cc

-- the next rule of those that are left
pub next_rule : (k : ℕ) (rules : List Rule) (i : ℕ) (r : Rule) → i < length rules → r ≡ get_or rules i r → reference_of k (referred (rule_of r)) ++ references_in k (map rule_of (drop (i + 1) rules)) ≡ references_in k (map rule_of (drop i rules))
next_rule k rules i r h is =
    let e : drop i rules ≡ r ∷ drop (i + 1) rules = grind (arith, drop-cons rules i r h, is) in
    ap (λ z. references_in k (map rule_of z)) (sym e)

-- the next schema of those that are left
pub next_schema : (ss : Schemas) (k count : ℕ) → k < count → references_in k (rules_of ss k) ++ references ss (up_from (k + 1) (count - (k + 1))) ≡ references ss (up_from k (count - k))
next_schema ss k count h =
    let one : suc k ≡ k + 1 = omega arith in
    let left : count - k ≡ suc (count - (k + 1)) = omega (arith, h) in
    ap (λ n. references_in k (rules_of ss k) ++ references ss (up_from n (count - (k + 1)))) (sym one) ∙ ap (λ n. references ss (up_from k n)) (sym left)

pub none_left : (ss : Schemas) (k count : ℕ) → count ≤ k → IsFirst ss (references ss (up_from k (count - k))) None
none_left ss k count h =
    let left : count - k ≡ 0 = omega (arith, h) in
    let P : ℕ → Type 0 = λ n. IsFirst ss (references ss (up_from k n)) None in
    subst P (sym left) tt

pub name_there : (ms : List (String Global × ℕ)) (n : ℕ) (m : String Global × ℕ) → n < length ms → m ≡ get_or ms n m → string_bytes m.0 ≡ name_at (map named_schema ms) n
name_there [] n m h is = absurd (omega (arith, h))
name_there (x ∷ ms) zero m h is = ap (λ (z : String Global × ℕ). string_bytes z.0) is
name_there (x ∷ ms) (suc n) m h is = name_there ms n m (omega (arith, h)) is

pub name_past : (ms : List (String Global × ℕ)) (n : ℕ) → length ms ≤ n → root_name ≡ name_at (map named_schema ms) n
name_past [] n h = refl
name_past (x ∷ ms) zero h = absurd (omega (arith, h))
name_past (x ∷ ms) (suc n) h = name_past ms n (omega (arith, h))

pub target_there : (ms : List (String Global × ℕ)) (t : ℕ) (m : String Global × ℕ) → 0 < t → t - 1 < length ms → m ≡ get_or ms (t - 1) m → string_bytes m.0 ≡ target_name (map named_schema ms) t
target_there ms zero m some h is = absurd (omega (arith, some))
target_there ms (suc n) m some h is =
    let less : suc n - 1 ≡ n = omega arith in
    name_there ms n m (omega (arith, h)) (is ∙ ap (λ z. get_or ms z m) less)

pub target_past : (ms : List (String Global × ℕ)) (t : ℕ) → length ms ≤ t - 1 → root_name ≡ target_name (map named_schema ms) t
target_past ms zero h = refl
target_past ms (suc n) h = name_past ms n (omega (arith, h))

pub target_root : (ms : List (String Global × ℕ)) (t : ℕ) → t ≤ 0 → root_name ≡ target_name (map named_schema ms) t
target_root ms zero h = refl
target_root ms (suc n) h = absurd (omega (arith, h))

-- the root's reference comes first
pub root_first : (ss : Schemas) (n : ℕ) → length ss.rules ≡ suc n → is_some (first_refers (rules_of ss n)) ≡ true → references_in n (rules_of ss n) ++ references ss (up_from 0 n) ≡ reading_order ss
root_first ss n e first = go (first_refers (rules_of ss n)) first ∙ ap (λ z. references ss (orders ss z)) (sym e)
  where
    go : (o : Option ℕ) → is_some o ≡ true → references_in n (rules_of ss n) ++ references ss (up_from 0 n) ≡ references ss (last_or_first o n)
    go None f = absurd cc
    go (Some t) f = refl

-- behind the root's reference, which does not come back
pub behind_root : (ss : Schemas) (here rest all : List Reference) (r : Result (Option ℕ) Memory) → here ++ rest ≡ all → NoneBack ss here → IfOk r (IsFirst ss rest) → IfOk r (IsFirst ss all)
behind_root ss here rest all (Ok o) e none h = let P : List Reference → Type 0 = λ z. IsFirst ss z o in subst P e (first_behind ss here rest o none h)
behind_root ss here rest all (Err m) e none h = tt
