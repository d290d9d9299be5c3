-- A column of stages, one stage more at a time.
use Rattle.std.proofs.Common.{◌≡◌, ℕ, ◌+◌, ◌<◌, ◌==◌, if◌then◌else◌, false, List, [], ◌∷◌, ◌++◌, length, take, get_or, map, arith, refl, ap, sym, ◌∙◌, append_assoc}
use Rattle.std.specs.List.{join_with_byte}
use Rattle.std.proofs.lemmas.Bool.{cond-false, ne_eqb}
use Rattle.std.proofs.lemmas.List.{length-append, map-append, take_more}
use Rattle.call_facts.specs.Pairs.{Pairs}
use Rattle.book_rules.specs.PlanStages.{stage_field, stages_column}

field_any : (stage : List ℕ × List ℕ) → 0 < length (stage_field stage)
field_any stage = grind (arith, length-append)

column_any : (stage : List ℕ × List ℕ) (stages : Pairs) → 0 < length (stages_column (stage ∷ stages))
column_any stage [] = field_any stage
column_any stage (next ∷ stages) = let first = field_any stage in let sum = length-append (stage_field stage) (32 ∷ stages_column (next ∷ stages)) in omega arith

-- what a field is written behind
abbrev pub spaced : List ℕ → List ℕ
spaced text = if length text == 0 then text else text ++ 32 ∷ []

join_push : (x : List ℕ) (xs : List (List ℕ)) (y : List ℕ) → join_with_byte 32 (x ∷ xs ++ y ∷ []) ≡ join_with_byte 32 (x ∷ xs) ++ (32 ∷ y)
join_push x [] y = refl
join_push x (z ∷ xs) y = ap (λ t. x ++ (32 ∷ t)) (join_push z xs y) ∙ sym (append_assoc x (32 ∷ join_with_byte 32 (z ∷ xs)) (32 ∷ y))

column_push : (stages : Pairs) (stage : List ℕ × List ℕ) → spaced (stages_column stages) ++ stage_field stage ≡ stages_column (stages ++ stage ∷ [])
column_push [] stage = refl
column_push (first ∷ stages) stage =
    let all = stages_column (first ∷ stages) in
    let long = column_any first stages in
    let some : (length all == 0) ≡ false = ne_eqb (length all) 0 (λ e. omega arith) in
    ap (λ t. t ++ stage_field stage) (cond-false (length all == 0) all (all ++ 32 ∷ []) some) ∙ append_assoc all (32 ∷ []) (stage_field stage)
    ∙ sym (ap (join_with_byte 32) (map-append stage_field (first ∷ stages) (stage ∷ [])) ∙ join_push (stage_field first) (map stage_field stages) (stage_field stage))

-- a column and one more stage
pub column_more : (stages : Pairs) (i : ℕ) (d : List ℕ × List ℕ) → i < length stages → spaced (stages_column (take i stages)) ++ stage_field (get_or stages i d) ≡ stages_column (take (i + 1) stages)
column_more stages i d less = column_push (take i stages) (get_or stages i d) ∙ ap stages_column (sym (take_more stages i d less))
