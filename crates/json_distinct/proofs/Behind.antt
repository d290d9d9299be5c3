-- A list of values from the last on.
use Rattle.std.proofs.Common.{◌≡◌, ℕ, zero, suc, ◌+◌, ◌<◌, Bool, true, false, List, [], ◌∷◌, length, map, drop, get_or, refl, ap, ◌∙◌, arith}
use Rattle.std.specs.Prelude.{if◌then◌else◌}
use Rattle.std.proofs.lemmas.List.{at_drop_more}
use Rattle.json_subset.specs.Tree.{Tree, trees_of}
use Rattle.json_distinct.specs.Distinct.{is_in, are_distinct, IsOnceNamed, AreOnceNamed}

-- where those behind are not distinct, all are not
pub not_behind : (f : ℕ → Tree) (n : ℕ) (ids : List ℕ) → are_distinct (trees_of (map f (drop n ids))) ≡ false → are_distinct (trees_of (map f ids)) ≡ false
not_behind f zero ids e = e
not_behind f (suc n) [] e = e
not_behind f (suc n) (k ∷ ids) e = go (is_in (f k) (trees_of (map f ids))) (not_behind f n ids e)
  where
    go : (b : Bool) → are_distinct (trees_of (map f ids)) ≡ false → (if b then false else are_distinct (trees_of (map f ids))) ≡ false
    go true h = refl
    go false h = h

-- where a value is the same as one behind it, not all are distinct
pub found_behind : (f : ℕ → Tree) (ids : List ℕ) (n left : ℕ) → n + 1 ≡ left → n < length ids → is_in (f (get_or ids n 0)) (trees_of (map f (drop left ids))) ≡ true → are_distinct (trees_of (map f ids)) ≡ false
found_behind f ids n left next small found = not_behind f n ids (
    at_drop_more (λ z. are_distinct (trees_of (map f z))) ids n 0 small
    ∙ ap (λ m. if is_in (f (get_or ids n 0)) (trees_of (map f (drop m ids))) then false else are_distinct (trees_of (map f (drop m ids)))) next
    ∙ ap (λ b. if b then false else are_distinct (trees_of (map f (drop left ids)))) found)

-- a value at its place
pub once_at : (f : ℕ → Tree) (ids : List ℕ) (n : ℕ) → n < length ids → AreOnceNamed (trees_of (map f ids)) → IsOnceNamed (f (get_or ids n 0))
once_at f [] n small once = absurd (omega (arith, small))
once_at f (k ∷ ids) zero small once = once.0
once_at f (k ∷ ids) (suc n) small once = once_at f ids n (omega (arith, small)) once.1
