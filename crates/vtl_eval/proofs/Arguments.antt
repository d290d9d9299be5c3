-- The argument of a parameter.
use Rattle.std.proofs.Common.{◌≡◌, ℕ, zero, suc, ◌<◌, List, [], ◌∷◌, refl, Bool, true, false, ap, ◌∙◌, sym}
use Rattle.std.specs.Prelude.{Option, Some, None, option_map, bytes_eq, nat_lt, slice_get, if◌then◌else◌, ◌&&◌}
use Rattle.std.specs.List.{list_all}
use Rattle.std.proofs.lemmas.Bool.{ltb-true}
use Rattle.vtl_grammar.specs.Tree.{Expr}
use Rattle.vtl_grammar.specs.Expanded.{Arguments, arguments, expr_with, exprs_with}
use Rattle.vtl_words.specs.Names.{place_of}
use Rattle.vtl_reader.specs.Nodes.{exprs_made}
use Rattle.vtl_eval.specs.Frames.{placed_in}

-- arguments are found by the places of parameters
pub arguments_placed : (a : Arguments) (f : ℕ → Expr) (ps : List (List ℕ)) (ids : List ℕ) (x : List ℕ) → arguments ps (exprs_with a (exprs_made f ids)) x ≡ option_map (λ k. expr_with a (f k)) (placed_in ids (place_of ps x))
arguments_placed a f [] ids x = refl
arguments_placed a f (p ∷ ps) [] x = go (bytes_eq p x) (place_of ps x)
  where
    none : (n : ℕ) → None ≡ option_map (λ k. expr_with a (f k)) (slice_get [] n)
    none zero = refl
    none (suc n) = refl

    go : (b : Bool) (o : Option ℕ) → None ≡ option_map (λ k. expr_with a (f k)) (placed_in [] (elim b as (λ _. Option ℕ) [ true ↦ Some 0 | false ↦ option_map suc o ]))
    go true o = none 0
    go false None = refl
    go false (Some n) = none (suc n)
arguments_placed a f (p ∷ ps) (k ∷ ids) x = go (bytes_eq p x) (place_of ps x) (arguments_placed a f ps ids x)
  where
    go : (b : Bool) (o : Option ℕ) → arguments ps (exprs_with a (exprs_made f ids)) x ≡ option_map (λ k. expr_with a (f k)) (placed_in ids o)
        → (if b then Some (expr_with a (f k)) else arguments ps (exprs_with a (exprs_made f ids)) x) ≡ option_map (λ k. expr_with a (f k)) (placed_in (k ∷ ids) (elim b as (λ _. Option ℕ) [ true ↦ Some 0 | false ↦ option_map suc o ]))
    go true o h = refl
    go false None h = h
    go false (Some n) h = h

both : (x y : Bool) → (x && y) ≡ true → (x ≡ true) × (y ≡ true)
both true y e = (refl, e)
both false y e = absurd cc

-- an argument of a sound frame stands
pub placed_below : (n : ℕ) (ids : List ℕ) (o : Option ℕ) (k : ℕ) → list_all (λ j. nat_lt j n) ids ≡ true → placed_in ids o ≡ Some k → k < n
placed_below n ids None k all e = absurd cc
placed_below n ids (Some j) k all e = got ids j all e
  where
    got : (is : List ℕ) (j : ℕ) → list_all (λ j. nat_lt j n) is ≡ true → slice_get is j ≡ Some k → k < n
    got [] j all e = absurd cc
    got (i ∷ is) zero all e = let same : i ≡ k = ap (λ o. out o) e in ltb-true k n (ap (λ z. nat_lt z n) (sym same) ∙ (both (nat_lt i n) (list_all (λ j. nat_lt j n) is) all).0)
      where
        out : Option ℕ → ℕ
        out None = i
        out (Some z) = z
    got (i ∷ is) (suc j) all e = got is j (both (nat_lt i n) (list_all (λ j. nat_lt j n) is) all).1 e

pub front_true : (x y : Bool) → (x && y) ≡ true → x ≡ true
front_true x y e = (both x y e).0
