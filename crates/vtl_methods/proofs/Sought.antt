-- A value that is looked for among others: one comparison more.
use Rattle.std.proofs.Common.{◌≡◌, ℕ, ◌+◌, ◌-◌, ◌<◌, ◌≤◌, Bool, true, false, List, [], ◌∷◌, ℤ, Some, Ok, Err, refl, sym, ap, ◌∙◌, arith}
use Rattle.std.proofs.lemmas.Bool.{true≢false}
use Rattle.std.proofs.lemmas.Option.{none-some, same_Some}
use Rattle.vtl_values.specs.Val.{Val, null, boolean, whole, number, text, list, range, map}
use Rattle.vtl_values.specs.Kinds.{whole_in}
use Rattle.vtl_values.specs.Truth.{is_null}
use Rattle.vtl_values.specs.Operations.{are_equal, compared}
use Rattle.vtl_values.specs.Within.{Decides}
use Rattle.vtl_values.specs.declared.lack.Lack.{Lack}
use Rattle.vtl_values.specs.declared.lack.Lack.TheVariants.{Room, Memory}
use Rattle.vtl_methods.specs.Comparisons.{is_among, looked_through}

among_yes : (v x : Val) (xs : List Val) → true ≡ are_equal x v → is_among v (x ∷ xs) ≡ true
among_yes v x xs e = rw (← e)

among_no : (v x : Val) (xs : List Val) → false ≡ are_equal x v → is_among v (x ∷ xs) ≡ is_among v xs
among_no v x xs e = rw (← e)

through_yes : (v x : Val) (xs : List Val) → true ≡ are_equal x v → looked_through v (x ∷ xs) ≡ compared x v
through_yes v x xs e = rw (← e) (omega arith)

through_no : (v x : Val) (xs : List Val) → false ≡ are_equal x v → looked_through v (x ∷ xs) ≡ compared x v + looked_through v xs
through_no v x xs e = rw (← e)

-- the values that are left begin with x
module _ (v x : Val) (left xs all : List Val) (taken room : ℕ) (fits : taken ≤ room) (bytes : taken + looked_through v left ≡ looked_through v all) (same : is_among v left ≡ is_among v all) (first : left ≡ x ∷ xs) where
  pub found : (r : Bool × ℕ) → Decides (room - taken) (are_equal x v) (compared x v) (Ok r) → r.0 ≡ true → Decides room (is_among v all) (looked_through v all) (Ok (true, taken + r.1))
  found r h is =
      let e : true ≡ are_equal x v = sym is ∙ h.0 in
      let b = ap (looked_through v) first ∙ through_yes v x xs e in
      (sym (among_yes v x xs e) ∙ ap (is_among v) (sym first) ∙ same, omega (arith, b, h.1, bytes), omega (arith, b, h.1, h.2, bytes))

  pub lost : xs ≡ [] → (r : Bool × ℕ) → Decides (room - taken) (are_equal x v) (compared x v) (Ok r) → r.0 ≡ false → Decides room (is_among v all) (looked_through v all) (Ok (false, taken + r.1))
  lost none r h other =
      let e : false ≡ are_equal x v = sym other ∙ h.0 in
      let b = ap (looked_through v) first ∙ through_no v x xs e ∙ ap (λ (ys : List Val). compared x v + looked_through v ys) none in
      (sym (ap (is_among v) none) ∙ sym (among_no v x xs e) ∙ ap (is_among v) (sym first) ∙ same, omega (arith, b, h.1, bytes), omega (arith, b, h.1, h.2, bytes))

  pub lacking : (l : Lack) → Decides (room - taken) (are_equal x v) (compared x v) (Err l) → Decides room (is_among v all) (looked_through v all) (Err l)
  lacking Room h = least (are_equal x v) refl
    where
      least : (b : Bool) → b ≡ are_equal x v → room < looked_through v all
      least true e = omega (arith, h, bytes, ap (looked_through v) first, through_yes v x xs e)
      least false e = omega (arith, h, bytes, ap (looked_through v) first, through_no v x xs e)
  lacking Memory h = tt

-- which value it is
pub whole_at : (v : Val) (n : ℤ) → Some n ≡ whole_in v → v ≡ whole n
whole_at (whole m) n e = ap whole (sym (same_Some n m e))
whole_at null n e = absurd (none-some n (sym e))
whole_at (boolean b) n e = absurd (none-some n (sym e))
whole_at (number t) n e = absurd (none-some n (sym e))
whole_at (text t) n e = absurd (none-some n (sym e))
whole_at (list vs) n e = absurd (none-some n (sym e))
whole_at (range a b) n e = absurd (none-some n (sym e))
whole_at (map es) n e = absurd (none-some n (sym e))

pub null_at : (v : Val) → true ≡ is_null v → v ≡ null
null_at null e = refl
null_at (boolean b) e = absurd (true≢false e)
null_at (whole m) e = absurd (true≢false e)
null_at (number t) e = absurd (true≢false e)
null_at (text t) e = absurd (true≢false e)
null_at (list vs) e = absurd (true≢false e)
null_at (range a b) e = absurd (true≢false e)
null_at (map es) e = absurd (true≢false e)
