-- Look-ups of merged variables.
use Rattle.std.proofs.Common.{◌≡◌, ◌∙◌, sym, ap, subst, refl, ℕ, Bool, true, false, not, ◌||◌, List, [], ◌∷◌, ◌++◌, map, filter, cond, Option, Some, None, unwrap_or, is_some}
use Rattle.std.specs.List.{list_any}
use Rattle.std.specs.Option.{option_or}
use Rattle.std.specs.Str.{bytes_eq}
use Rattle.std.proofs.lemmas.Slice.Eq.{bytes_eq-Decides}
use Rattle.call_facts.specs.Pairs.{Pairs, first_value}
use Rattle.stage_canary.specs.Canaries.{is_named, overridden_pairs, other_pairs, merged_pairs, CanaryOverrides}

same_text : (a b : List ℕ) → bytes_eq a b ≡ true → a ≡ b
same_text a b e = (bytes_eq-Decides a b).0 e

-- the stage's part: where the stage names it, the canary's value or the stage's; where not, nothing
abbrev or-value : Option (List ℕ) → Option (List ℕ) → Option (List ℕ)
or-value canary None = None
or-value canary (Some v) = Some (unwrap_or canary v)

first-overridden : (stage canary : Pairs) (name : List ℕ)
    → first_value (overridden_pairs stage canary) name ≡ or-value (first_value canary name) (first_value stage name)
first-overridden [] canary name = refl
first-overridden (p ∷ ps) canary name = pick (bytes_eq p.0 name) refl (first-overridden ps canary name)
  where
    pick : (b : Bool) → bytes_eq p.0 name ≡ b → first_value (overridden_pairs ps canary) name ≡ or-value (first_value canary name) (first_value ps name)
        → cond b (Some (unwrap_or (first_value canary p.0) p.1)) (first_value (overridden_pairs ps canary) name)
        ≡ or-value (first_value canary name) (cond b (Some p.1) (first_value ps name))
    pick true e rest = ap (λ n. Some (unwrap_or (first_value canary n) p.1)) (same_text p.0 name e)
    pick false e rest = rest

-- what comes behind counts only where nothing was found before
first-behind : (front behind : Pairs) (name : List ℕ) → first_value (front ++ behind) name ≡ option_or (first_value front name) (first_value behind name)
first-behind [] behind name = refl
first-behind (p ∷ ps) behind name = pick (bytes_eq p.0 name) (first-behind ps behind name)
  where
    pick : (b : Bool) → first_value (ps ++ behind) name ≡ option_or (first_value ps name) (first_value behind name)
        → cond b (Some p.1) (first_value (ps ++ behind) name) ≡ option_or (cond b (Some p.1) (first_value ps name)) (first_value behind name)
    pick true rest = refl
    pick false rest = rest

named-or-not : (stage : Pairs) (name : List ℕ) → is_named stage name ≡ is_some (first_value stage name)
named-or-not [] name = refl
named-or-not (p ∷ ps) name = pick (bytes_eq p.0 name) (named-or-not ps name)
  where
    pick : (b : Bool) → is_named ps name ≡ is_some (first_value ps name) → (b || is_named ps name) ≡ is_some (cond b (Some p.1) (first_value ps name))
    pick true rest = refl
    pick false rest = rest

-- of a name that the stage lacks the canary's others have the canary's value
first-other : (stage canary : Pairs) (name : List ℕ) → is_named stage name ≡ false → first_value (other_pairs stage canary) name ≡ first_value canary name
first-other stage [] name lacks = refl
first-other stage (p ∷ ps) name lacks = pick (is_named stage p.0) (bytes_eq p.0 name) refl refl (first-other stage ps name lacks)
  where
    pick : (named here : Bool) → is_named stage p.0 ≡ named → bytes_eq p.0 name ≡ here → first_value (other_pairs stage ps) name ≡ first_value ps name
        → first_value (cond (not named) (p ∷ other_pairs stage ps) (other_pairs stage ps)) name ≡ cond here (Some p.1) (first_value ps name)
    pick false here n e rest = ap (λ b. cond b (Some p.1) (first_value (other_pairs stage ps) name)) e ∙ ap (λ r. cond here (Some p.1) r) rest
    pick true false n e rest = rest
    pick true true n e rest = absurd (apart (is_named stage name) (ap (is_named stage) (sym (same_text p.0 name e)) ∙ n) lacks)
      where
        apart : (b : Bool) → b ≡ true → b ≡ false → ⊥
        apart true e f = absurd cc
        apart false e f = absurd cc

pub overrides : CanaryOverrides
overrides stage canary name =
    first-behind (overridden_pairs stage canary) (other_pairs stage canary) name
    ∙ ap (λ o. option_or o (first_value (other_pairs stage canary) name)) (first-overridden stage canary name)
    ∙ pick (first_value stage name) refl
  where
    pick : (found : Option (List ℕ)) → first_value stage name ≡ found
        → option_or (or-value (first_value canary name) found) (first_value (other_pairs stage canary) name) ≡ option_or (first_value canary name) found
    pick (Some v) e = value (first_value canary name)
      where
        value : (c : Option (List ℕ)) → Some (unwrap_or c v) ≡ option_or c (Some v)
        value None = refl
        value (Some w) = refl
    pick None e = first-other stage canary name (named-or-not stage name ∙ ap is_some e) ∙ alone (first_value canary name)
      where
        alone : (c : Option (List ℕ)) → c ≡ option_or c None
        alone None = refl
        alone (Some w) = refl
