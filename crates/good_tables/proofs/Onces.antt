-- Lists that keep each item once, and the columns of variables.
use Rattle.std.proofs.Common.{◌≡◌, ℕ, suc, ◌+◌, ◌<◌, ◌≤◌, Bool, true, false, not, ◌&&◌, ◌||◌, List, [], ◌∷◌, ◌++◌, length, map, filter, cond, Option, Some, None, unwrap_or, refl, sym, ap, subst, ◌∙◌, arith}
use Rattle.std.specs.Prelude.{⊤, nat_le}
use Rattle.std.specs.List.{AllByRecursion, list_all, list_any}
use Rattle.std.specs.Str.{bytes_eq}
use Rattle.std.proofs.lemmas.Bool.{and_parts}
use Rattle.std.proofs.lemmas.List.Folds.{list_all-append, list_any-append}
use Rattle.std.proofs.lemmas.Slice.Eq.{bytes_eq-Decides}
use Rattle.gw_base.specs.Lists.{last_of_each}
use Rattle.gw_base.specs.Names.{is_name}
use Rattle.call_facts.specs.Pairs.{Pairs, each_once, first_value, once}
use Rattle.call_facts.specs.declared.vars.Vars.{Vars}
use Rattle.record_fields.specs.Coding.{is_utf8}
use Rattle.record_fields.specs.Columns.{column, column_pairs}
use Rattle.stage_canary.specs.Canaries.{is_named, merged_pairs, other_pairs, overridden_pairs}
use Rattle.book_rules.proofs.Columns.{variables_back}
use Rattle.book_rules.specs.Good.{are_stage_variables, is_vars_column, names_differ}
use Rattle.book_rules.specs.Limits.{most_variables}
use Rattle.book_rules.specs.Names.{are_variables, is_variable}
use Rattle.book_rules.specs.PlanStages.{same_stage, stages_differ}
use Rattle.book_rules.specs.Stored.{column_of, variables_in}

pub is_not : (b : Bool) → not b ≡ true → b ≡ false
is_not true e = absurd cc
is_not false e = refl

pub both_are : (a b : Bool) → a ≡ true → b ≡ true → (a && b) ≡ true
both_are true b e f = f
both_are false b e f = absurd cc

pub either_no : (a b : Bool) → (a || b) ≡ false → (a ≡ false) × (b ≡ false)
either_no true b e = absurd cc
either_no false b e = (refl, e)

pub no_either : (a b : Bool) → a ≡ false → b ≡ false → (a || b) ≡ false
no_either true b e f = absurd cc
no_either false b e f = f

pub same_text : (a b : List ℕ) → bytes_eq a b ≡ true → a ≡ b
same_text a b e = (bytes_eq-Decides a b).0 e

pub itself : (a : List ℕ) → bytes_eq a a ≡ true
itself a = (bytes_eq-Decides a a).1 refl

pub turned : (a b : List ℕ) → bytes_eq a b ≡ false → bytes_eq b a ≡ false
turned a b e =
    elim (bytes_eq b a) as (λ t. bytes_eq b a ≡ t → t ≡ false) [
      | true ↦ λ s. absurd (let same : b ≡ a = same_text b a s in let other : bytes_eq a a ≡ false = subst (λ x. bytes_eq a x ≡ false) same e in let here = itself a in cc)
      | false ↦ λ s. refl
    ] refl

-- EACH ONCE
-- no item is the same as a later one
abbrev pub differ : {X : Type 0} → (X → X → Bool) → List X → Bool
differ same [] = true
differ same (x ∷ xs) = not (list_any (same x) xs) && differ same xs

module _ {X : Type 0} (same : X → X → Bool) where
  pub last_all : (p : X → Bool) (xs : List X) → list_all p xs ≡ true → list_all p (last_of_each same xs) ≡ true
  last_all p [] h = refl
  last_all p (x ∷ xs) h =
      let parts = and_parts (p x) (list_all p xs) h in
      let more = last_all p xs parts.1 in
      elim (list_any (same x) xs) as (λ b. list_all p (cond b (last_of_each same xs) (x ∷ last_of_each same xs)) ≡ true) [ true ↦ more | false ↦ both_are (p x) _ parts.0 more ]

  pub last_few : (xs : List X) → length (last_of_each same xs) ≤ length xs
  last_few [] = omega arith
  last_few (x ∷ xs) =
      let more = last_few xs in
      elim (list_any (same x) xs) as (λ b. length (cond b (last_of_each same xs) (x ∷ last_of_each same xs)) ≤ suc (length xs)) [ true ↦ omega (arith, more) | false ↦ omega (arith, more) ]

  pub last_none : (p : X → Bool) (xs : List X) → list_any p xs ≡ false → list_any p (last_of_each same xs) ≡ false
  last_none p [] h = refl
  last_none p (x ∷ xs) h =
      let parts = either_no (p x) (list_any p xs) h in
      let more = last_none p xs parts.1 in
      elim (list_any (same x) xs) as (λ b. list_any p (cond b (last_of_each same xs) (x ∷ last_of_each same xs)) ≡ false) [ true ↦ more | false ↦ no_either (p x) _ parts.0 more ]

  pub last_differ : (xs : List X) → differ same (last_of_each same xs) ≡ true
  last_differ [] = refl
  last_differ (x ∷ xs) =
      let more = last_differ xs in
      elim (list_any (same x) xs) as (λ b. list_any (same x) xs ≡ b → differ same (cond b (last_of_each same xs) (x ∷ last_of_each same xs)) ≡ true) [
        | true ↦ λ e. more
        | false ↦ λ e. both_are _ _ (ap not (last_none (same x) xs e)) more
      ] refl

  pub last_same : (xs : List X) → differ same xs ≡ true → last_of_each same xs ≡ xs
  last_same [] h = refl
  last_same (x ∷ xs) h =
      let parts = and_parts (not (list_any (same x) xs)) (differ same xs) h in
      ap (λ b. cond b (last_of_each same xs) (x ∷ last_of_each same xs)) (is_not (list_any (same x) xs) parts.0) ∙ ap (λ l. x ∷ l) (last_same xs parts.1)

abbrev same_pair : List ℕ × List ℕ → List ℕ × List ℕ → Bool
same_pair p q = bytes_eq q.0 p.0

names_are : (pairs : Pairs) → names_differ pairs ≡ differ same_pair pairs
names_are [] = refl
names_are (p ∷ ps) = ap (λ b. not (list_any (λ (other : List ℕ × List ℕ). bytes_eq other.0 p.0) ps) && b) (names_are ps)

stages_are : (stages : Pairs) → stages_differ stages ≡ differ same_stage stages
stages_are [] = refl
stages_are (s ∷ ss) = ap (λ b. not (list_any (same_stage s) ss) && b) (stages_are ss)

pub stages_once_differ : (stages : Pairs) → stages_differ (last_of_each same_stage stages) ≡ true
stages_once_differ stages = stages_are (last_of_each same_stage stages) ∙ last_differ same_stage stages

-- VARIABLES
pub record AreVars (pairs : Pairs) : Type 0 where
  pub named : are_variables pairs ≡ true
  pub differ_by : names_differ pairs ≡ true
  pub few : length pairs ≤ 64

pub once_are : (variables : Vars) → are_variables variables.pairs ≡ true → length variables.pairs ≤ 64 → AreVars (once variables).pairs
once_are variables named few =
    record {
      named = last_all same_pair is_variable variables.pairs named;
      differ_by = names_are (each_once variables.pairs) ∙ last_differ same_pair variables.pairs;
      few = let l = last_few same_pair variables.pairs in omega (arith, l, few);
    }

-- the column of variables is read
vars_read : (pairs : Pairs) → AreVars pairs → column_pairs (column pairs) ≡ Some pairs
unfolding variables_in column_pairs
vars_read pairs h = by_found (column_pairs (column pairs)) refl
  where
    vars : Vars
    vars = record { pairs = pairs }

    same : each_once pairs ≡ pairs
    same = last_same same_pair pairs (sym (names_are pairs) ∙ h.differ_by)

    back : unwrap_or (column_pairs (column pairs)) [] ≡ pairs
    back = ap (λ (ps : Pairs). unwrap_or (column_pairs (column ps)) []) (sym same) ∙ ap (λ (v : Vars). v.pairs) (variables_back vars h.named) ∙ same

    by_found : (found : Option Pairs) → column_pairs (column pairs) ≡ found → found ≡ Some pairs
    by_found None e =
        absurd
        (let none : [] ≡ pairs = sym (ap (λ f. unwrap_or f []) e) ∙ back in
        let empty : None ≡ Some [] = sym e ∙ ap (λ (ps : Pairs). column_pairs (column ps)) (sym none) in
        cc)
    by_found (Some ps) e = ap Some (sym (ap (λ f. unwrap_or f []) e) ∙ back)

pub vars_column : (pairs : Pairs) → AreVars pairs → is_vars_column (column pairs) ≡ true
unfolding most_variables
vars_column pairs h = ap are_stage_variables (vars_read pairs h) ∙ both_are _ _ (both_are _ _ (at_most (length pairs) h.few) h.named) h.differ_by
  where
    at_most : (n : ℕ) → n ≤ 64 → nat_le n 64 ≡ true
    at_most n le = grind arith

-- the variables of a column that is taken
pub vars_of : (text : List ℕ) → is_vars_column text ≡ true → AreVars (variables_in text).pairs
unfolding variables_in most_variables
vars_of text h = by_found (column_pairs text) h
  where
    at_most : (n : ℕ) → nat_le n 64 ≡ true → n ≤ 64
    at_most n e = grind arith

    by_found : (found : Option Pairs) → are_stage_variables found ≡ true → AreVars (unwrap_or found [])
    by_found None e = absurd cc
    by_found (Some pairs) e =
        let last = and_parts (nat_le (length pairs) 64 && are_variables pairs) (names_differ pairs) e in
        let first = and_parts (nat_le (length pairs) 64) (are_variables pairs) last.0 in
        record { named = first.1; differ_by = last.1; few = at_most (length pairs) first.0 }

-- MERGED VARIABLES
abbrev is_value : List ℕ → Bool
is_value text = is_utf8 text && nat_le (length text) 2048

variable_parts : (pair : List ℕ × List ℕ) → is_variable pair ≡ true → (is_name pair.0 ≡ true) × (is_value pair.1 ≡ true)
unfolding is_variable
variable_parts pair h =
    let last = and_parts (is_name pair.0 && is_utf8 pair.1) (nat_le (length pair.1) 2048) h in
    let first = and_parts (is_name pair.0) (is_utf8 pair.1) last.0 in
    (first.0, both_are _ _ first.1 last.1)

variable_of : (name value : List ℕ) → is_name name ≡ true → is_value value ≡ true → is_variable (name, value) ≡ true
unfolding is_variable
variable_of name value n v = let parts = and_parts (is_utf8 value) (nat_le (length value) 2048) v in both_are _ _ (both_are _ _ n parts.0) parts.1

value_or : (canary : Pairs) (name value : List ℕ) → are_variables canary ≡ true → is_value value ≡ true → is_value (unwrap_or (first_value canary name) value) ≡ true
value_or [] name value named v = v
value_or (p ∷ ps) name value named v =
    let parts = and_parts (is_variable p) (are_variables ps) named in
    let more = value_or ps name value parts.1 v in
    elim (bytes_eq p.0 name) as (λ b. is_value (unwrap_or (cond b (Some p.1) (first_value ps name)) value) ≡ true) [ true ↦ (variable_parts p parts.0).1 | false ↦ more ]

overridden_named : (stage canary : Pairs) → are_variables stage ≡ true → are_variables canary ≡ true → are_variables (overridden_pairs stage canary) ≡ true
overridden_named [] canary s c = refl
overridden_named (p ∷ ps) canary s c =
    let parts = and_parts (is_variable p) (are_variables ps) s in
    let is = variable_parts p parts.0 in
    both_are _ _ (variable_of p.0 (unwrap_or (first_value canary p.0) p.1) is.0 (value_or canary p.0 p.1 c is.1)) (overridden_named ps canary parts.1 c)

filter_all : {X : Type 0} (keep p : X → Bool) (xs : List X) → list_all p xs ≡ true → list_all p (filter keep xs) ≡ true
filter_all keep p [] h = refl
filter_all keep p (x ∷ xs) h =
    let parts = and_parts (p x) (list_all p xs) h in
    let more = filter_all keep p xs parts.1 in
    elim (keep x) as (λ b. list_all p (cond b (x ∷ filter keep xs) (filter keep xs)) ≡ true) [ true ↦ both_are _ _ parts.0 more | false ↦ more ]

filter_none : {X : Type 0} (keep p : X → Bool) (xs : List X) → list_any p xs ≡ false → list_any p (filter keep xs) ≡ false
filter_none keep p [] h = refl
filter_none keep p (x ∷ xs) h =
    let parts = either_no (p x) (list_any p xs) h in
    let more = filter_none keep p xs parts.1 in
    elim (keep x) as (λ b. list_any p (cond b (x ∷ filter keep xs) (filter keep xs)) ≡ false) [ true ↦ no_either _ _ parts.0 more | false ↦ more ]

filter_differ : (keep : List ℕ × List ℕ → Bool) (pairs : Pairs) → names_differ pairs ≡ true → names_differ (filter keep pairs) ≡ true
filter_differ keep [] h = refl
filter_differ keep (p ∷ ps) h =
    let parts = and_parts (not (list_any (λ (other : List ℕ × List ℕ). bytes_eq other.0 p.0) ps)) (names_differ ps) h in
    let more = filter_differ keep ps parts.1 in
    elim (keep p) as (λ b. names_differ (cond b (p ∷ filter keep ps) (filter keep ps)) ≡ true) [
      | true ↦ both_are _ _ (ap not (filter_none keep (λ (other : List ℕ × List ℕ). bytes_eq other.0 p.0) ps (is_not _ parts.0))) more
      | false ↦ more
    ]

filter_each : {X : Type 0} (keep : X → Bool) (xs : List X) → AllByRecursion (λ x. keep x ≡ true) (filter keep xs)
filter_each keep [] = tt
filter_each keep (x ∷ xs) =
    let more = filter_each keep xs in
    elim (keep x) as (λ b. keep x ≡ b → AllByRecursion (λ x. keep x ≡ true) (cond b (x ∷ filter keep xs) (filter keep xs))) [ true ↦ λ e. (e, more) | false ↦ λ e. more ] refl

same_names : (f : List ℕ → List ℕ → List ℕ) (name : List ℕ) (pairs : Pairs)
    → list_any (λ (other : List ℕ × List ℕ). bytes_eq other.0 name) (map (λ (p : List ℕ × List ℕ). (p.0, f p.0 p.1)) pairs) ≡ list_any (λ (other : List ℕ × List ℕ). bytes_eq other.0 name) pairs
same_names f name [] = refl
same_names f name (p ∷ ps) = ap (λ b. bytes_eq p.0 name || b) (same_names f name ps)

none_named : (name : List ℕ) (rest : Pairs) → AllByRecursion (λ (o : List ℕ × List ℕ). bytes_eq name o.0 ≡ false) rest → list_any (λ (other : List ℕ × List ℕ). bytes_eq other.0 name) rest ≡ false
none_named name [] all = refl
none_named name (o ∷ os) all = no_either _ _ (turned name o.0 all.0) (none_named name os all.1)

all_pairs : (P Q : List ℕ × List ℕ → Type 0) → ((o : List ℕ × List ℕ) → P o → Q o) → (rest : Pairs) → AllByRecursion P rest → AllByRecursion Q rest
all_pairs P Q f [] all = tt
all_pairs P Q f (o ∷ os) all = (f o all.0, all_pairs P Q f os all.1)

-- names of a stage, with others that are none of them
beside_differ : (f : List ℕ → List ℕ → List ℕ) (stage rest : Pairs) → names_differ stage ≡ true → names_differ rest ≡ true → AllByRecursion (λ (o : List ℕ × List ℕ). is_named stage o.0 ≡ false) rest
    → names_differ (map (λ (p : List ℕ × List ℕ). (p.0, f p.0 p.1)) stage ++ rest) ≡ true
beside_differ f [] rest s r apart = r
beside_differ f (p ∷ ps) rest s r apart =
    let parts = and_parts (not (list_any (λ (other : List ℕ × List ℕ). bytes_eq other.0 p.0) ps)) (names_differ ps) s in
    let made : Pairs = map (λ (p : List ℕ × List ℕ). (p.0, f p.0 p.1)) ps in
    let none : list_any (λ (other : List ℕ × List ℕ). bytes_eq other.0 p.0) (made ++ rest) ≡ false =
    list_any-append (λ (other : List ℕ × List ℕ). bytes_eq other.0 p.0) made rest
    ∙ no_either _ _ (same_names f p.0 ps ∙ is_not _ parts.0) (none_named p.0 rest (all_pairs _ _ (λ o e. (either_no (bytes_eq p.0 o.0) (is_named ps o.0) e).0) rest apart)) in
    both_are _ _ (ap not none) (beside_differ f ps rest parts.1 r (all_pairs _ _ (λ o e. (either_no (bytes_eq p.0 o.0) (is_named ps o.0) e).1) rest apart))

pub merged_are : (stage canary : Pairs) → AreVars stage → AreVars canary → length (merged_pairs stage canary) ≤ 64 → AreVars (merged_pairs stage canary)
merged_are stage canary s c few =
    let keep : List ℕ × List ℕ → Bool = λ p. not (is_named stage p.0) in
    record {
      named = list_all-append is_variable (overridden_pairs stage canary) (other_pairs stage canary)
          ∙ both_are _ _ (overridden_named stage canary s.named c.named) (filter_all keep is_variable canary c.named);
      differ_by = beside_differ (λ name value. unwrap_or (first_value canary name) value) stage (other_pairs stage canary) s.differ_by (filter_differ keep canary c.differ_by)
          (all_pairs _ _ (λ o e. is_not (is_named stage o.0) e) (other_pairs stage canary) (filter_each keep canary));
      few = few;
    }
