-- Where a comparison of two paths ends.
use Rattle.std.proofs.Common.{◌≡◌, ℕ, suc, ◌-◌, false, min, eqb, List, [], ◌∷◌, length, drop, refl, ◌∙◌, sym, arith, length-drop}
use Rattle.std.proofs.lemmas.Bool.Decides.{nat_tests}
use Rattle.std.specs.Cmp.Lexicographic.{slice_cmp}
use Rattle.std.specs.Ordering.{nat_cmp}
use Rattle.std.specs.declared.cmp.Ordering.TheVariants.{Less, Greater}
use Rattle.resource_tree.specs.declared.part.Part.{Part}
use Rattle.resource_tree.specs.Nodes.{part_cmp}
use Rattle.resource_tree.specs.Sharing.{clashes}

zero_apart : (n : ℕ) → eqb 0 (suc n) ≡ false
zero_apart n = grind (arith, nat_tests)

apart_zero : (n : ℕ) → eqb (suc n) 0 ≡ false
apart_zero n = grind (arith, nat_tests)

zero_below : (n : ℕ) → nat_cmp 0 (suc n) ≡ Less
zero_below n = grind (arith, nat_tests)

above_zero : (n : ℕ) → nat_cmp (suc n) 0 ≡ Greater
above_zero n = grind (arith, nat_tests)

clashes_shorter : (first second : List Part) → min (length first) (length second) ≡ 0 → clashes first second ≡ eqb (length first) (length second)
clashes_shorter [] [] e = refl
clashes_shorter [] (q ∷ second) e = sym (zero_apart (length second))
clashes_shorter (p ∷ first) [] e = sym (apart_zero (length first))
clashes_shorter (p ∷ first) (q ∷ second) e = absurd (omega arith)

eqb_less : (a b n : ℕ) → n ≡ min a b → eqb (a - n) (b - n) ≡ eqb a b
eqb_less a b n e = grind (arith, nat_tests)

compare_less : (a b n : ℕ) → n ≡ min a b → nat_cmp (a - n) (b - n) ≡ nat_cmp a b
compare_less a b n e = grind (arith, nat_tests)

compare_shorter : (first second : List Part) → min (length first) (length second) ≡ 0 → slice_cmp part_cmp first second ≡ nat_cmp (length first) (length second)
compare_shorter [] [] e = refl
compare_shorter [] (q ∷ second) e = sym (zero_below (length second))
compare_shorter (p ∷ first) [] e = sym (above_zero (length first))
compare_shorter (p ∷ first) (q ∷ second) e = absurd (omega arith)

-- behind as many parts as the shorter has, paths clash where they are as long
pub clashes_end : (first second : List Part) (n : ℕ) → n ≡ min (length first) (length second) → clashes (drop n first) (drop n second) ≡ eqb (length first) (length second)
clashes_end first second n e =
    let none : min (length (drop n first)) (length (drop n second)) ≡ 0 = rw (length-drop n first, length-drop n second) (omega arith) in
    clashes_shorter (drop n first) (drop n second) none
    ∙ rw (length-drop n first, length-drop n second) (eqb_less (length first) (length second) n e)

-- and the shorter is tried first
pub compare_end : (first second : List Part) (n : ℕ) → n ≡ min (length first) (length second) → slice_cmp part_cmp (drop n first) (drop n second) ≡ nat_cmp (length first) (length second)
compare_end first second n e =
    let none : min (length (drop n first)) (length (drop n second)) ≡ 0 = rw (length-drop n first, length-drop n second) (omega arith) in
    compare_shorter (drop n first) (drop n second) none
    ∙ rw (length-drop n first, length-drop n second) (compare_less (length first) (length second) n e)
