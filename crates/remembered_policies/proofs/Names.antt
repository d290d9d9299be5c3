-- Names, each once: where a name stands that comes behind others.
use Rattle.std.proofs.Common.{◌≡◌, ◌∙◌, ap, subst, sym, refl, ℕ, zero, suc, ◌+◌, ◌<◌, Bool, true, false, not, ◌||◌, List, [], ◌∷◌, ◌++◌, length, filter, take, cond, arith, rules}
use Rattle.std.specs.List.{list_any}
use Rattle.policy_memory.specs.Names.{same_name, same_name-equal}
use Rattle.policy_memory.specs.Remembered.{each_once}
use Rattle.policy_memory.specs.declared.names.PolicyName.{PolicyName}
use Rattle.remembered_policies.specs.Laws.{IsNoneOf}

-- names are the same both ways
differ_back : (a b : PolicyName) → same_name a b ≡ false → same_name b a ≡ false
differ_back a b e = pick (same_name b a) refl
  where
    pick : (c : Bool) → same_name b a ≡ c → same_name b a ≡ false
    pick false f = f
    pick true f =
        let is : b ≡ a = same_name-equal b a f in
        let same : same_name a b ≡ true = ap (λ x. same_name a x) is ∙ ap (λ x. same_name x a) (sym is) ∙ f in
        let no : true ≡ false = sym same ∙ e in absurd cc

pub itself : (a : PolicyName) → same_name a a ≡ true
unfolding same_name
itself a = search rules

-- a filter goes through
through_by : (b : Bool) (y : PolicyName) (l r m : List PolicyName) → l ≡ r ++ m → cond b (y ∷ l) l ≡ cond b (y ∷ r) r ++ m
through_by true y l r m e = ap (λ z. y ∷ z) e
through_by false y l r m e = e

through : (p : PolicyName → Bool) (xs : List PolicyName) (x : PolicyName) (t : List PolicyName) → p x ≡ true → filter p (xs ++ x ∷ t) ≡ filter p xs ++ x ∷ filter p t
through p [] x t e = ap (λ b. cond b (x ∷ filter p t) (filter p t)) e
through p (y ∷ ys) x t e = through_by (p y) y (filter p (ys ++ x ∷ t)) (filter p ys) (x ∷ filter p t) (through p ys x t e)

-- A name that is none of those before it stands behind them.
pub record Behind (names : List PolicyName) (name : PolicyName) (rest : List PolicyName) : Type 0 where
  pub tail : List PolicyName
  pub is : each_once (names ++ name ∷ rest) ≡ each_once names ++ name ∷ tail

pub stands_behind : (names : List PolicyName) (name : PolicyName) (rest : List PolicyName) → IsNoneOf name names → Behind names name rest
stands_behind [] name rest none = record { tail = filter (λ other. not (same_name name other)) (each_once rest); is = refl }
stands_behind (n ∷ ns) name rest (first, none) =
    let there = stands_behind ns name rest none in
    let p : PolicyName → Bool = λ other. not (same_name n other) in
    record {
      tail = filter p there.tail;
      is = ap (λ l. n ∷ filter p l) there.is ∙ ap (λ l. n ∷ l) (through p (each_once ns) name there.tail (ap not (differ_back name n first)));
    }

-- it is none of them, each once
kept_none : (b : Bool) (name y : PolicyName) (ys : List PolicyName) → same_name name y ≡ false → IsNoneOf name ys → IsNoneOf name (cond b (y ∷ ys) ys)
kept_none true name y ys first none = (first, none)
kept_none false name y ys first none = none

filtered_none : (p : PolicyName → Bool) (name : PolicyName) (names : List PolicyName) → IsNoneOf name names → IsNoneOf name (filter p names)
filtered_none p name [] none = tt
filtered_none p name (n ∷ ns) (first, none) = kept_none (p n) name n (filter p ns) first (filtered_none p name ns none)

pub once_none : (name : PolicyName) (names : List PolicyName) → IsNoneOf name names → IsNoneOf name (each_once names)
once_none name [] none = tt
once_none name (n ∷ ns) (first, none) = (first, filtered_none (λ other. not (same_name n other)) name (each_once ns) (once_none name ns none))

-- it is among the first so many just where fewer stand before it
pub among_first : (n : ℕ) (name : PolicyName) (names rest : List PolicyName) → length names < n → list_any (same_name name) (take n (names ++ name ∷ rest)) ≡ true
among_first zero name names rest few = absurd (omega arith)
among_first (suc n) name [] rest few = ap (λ b. b || list_any (same_name name) (take n rest)) (itself name)
among_first (suc n) name (other ∷ others) rest few = later (same_name name other) (among_first n name others rest (omega arith))
  where
    later : (b : Bool) → list_any (same_name name) (take n (others ++ name ∷ rest)) ≡ true → (b || list_any (same_name name) (take n (others ++ name ∷ rest))) ≡ true
    later true e = refl
    later false e = e

pub few_before : (n : ℕ) (name : PolicyName) (names rest : List PolicyName) → IsNoneOf name names → list_any (same_name name) (take n (names ++ rest)) ≡ true → length names < n
few_before zero name names rest none found = absurd cc
few_before (suc n) name [] rest none found = omega arith
few_before (suc n) name (other ∷ others) rest (first, none) found =
    let on : list_any (same_name name) (take n (others ++ rest)) ≡ true = sym (ap (λ b. b || list_any (same_name name) (take n (others ++ rest))) first) ∙ found in
    let before = few_before n name others rest none on in omega arith
