-- The stages of plans: their column is read back, and stages of two plans that share none.
use Rattle.std.proofs.Common.{◌≡◌, ℕ, suc, ◌+◌, ◌<◌, ◌≤◌, ◌==◌, nat_lt, Bool, true, false, not, ◌&&◌, ◌||◌, List, [], ◌∷◌, ◌++◌, length, map, take, drop, cond, eqb, Option, Some, None, All, refl, sym, ap, subst, ◌∙◌, arith}
use Rattle.std.specs.Prelude.{⊤, nat_le, position}
use Rattle.std.specs.List.{AllByRecursion, list_all, list_any, prefix_len}
use Rattle.std.specs.Option.{option_and_then, option_map}
use Rattle.std.specs.Str.{bytes_eq}
use Rattle.std.proofs.lemmas.Bool.{and_parts}
use Rattle.std.proofs.lemmas.Bool.Decides.{nat_tests}
use Rattle.std.proofs.lemmas.List.{length-append}
use Rattle.std.proofs.lemmas.List.Elements.{All-nil, All-cons, All-append}
use Rattle.std.proofs.lemmas.List.Splits.{slice_split_at, slice_split_none}
use Rattle.gw_base.specs.Lists.{last_of_each}
use Rattle.gw_base.specs.Names.{begins_name, is_name, is_name_byte}
use Rattle.call_facts.specs.Pairs.{Pairs}
use Rattle.record_fields.specs.Coding.{parts_of}
use Rattle.book_rules.specs.PlanStages.{all_stages, are_stage_names, before_each_stage, each_stage_once, same_stage, share_a_stage, stage_field, stage_in, stages_column, stages_in}
use Rattle.good_tables.proofs.Onces.{both_are, either_no, no_either, turned}

-- A NAME has neither a space nor a slash
plain_byte : (b : ℕ) → is_name_byte b ≡ true → ((b == 32) ≡ false) × ((b == 47) ≡ false)
unfolding is_name_byte
plain_byte b h = (grind arith, grind arith)

no_space : (bytes : List ℕ) → list_all is_name_byte bytes ≡ true → All (λ b. (b == 32) ≡ false) bytes
no_space [] h = All-nil (λ b. (b == 32) ≡ false)
no_space (b ∷ bs) h = let parts = and_parts (is_name_byte b) (list_all is_name_byte bs) h in All-cons (λ b. (b == 32) ≡ false) b bs (plain_byte b parts.0).0 (no_space bs parts.1)

name_bytes : (name : List ℕ) → is_name name ≡ true → list_all is_name_byte name ≡ true
unfolding is_name
name_bytes name h = (and_parts (begins_name name && nat_le (length name) 64) (list_all is_name_byte name) h).1

field_plain : (stage : List ℕ × List ℕ) → (is_name stage.0 && is_name stage.1) ≡ true → All (λ b. (b == 32) ≡ false) (stage_field stage)
field_plain stage h =
    let parts = and_parts (is_name stage.0) (is_name stage.1) h in
    All-append (λ b. (b == 32) ≡ false) stage.0 (47 ∷ stage.1) (no_space stage.0 (name_bytes stage.0 parts.0)) (All-cons (λ b. (b == 32) ≡ false) 47 stage.1 refl (no_space stage.1 (name_bytes stage.1 parts.1)))

-- THE FIELD of a stage is read
slash_at : (name rest : List ℕ) → list_all is_name_byte name ≡ true → prefix_len (λ b. not (b == 47)) (name ++ 47 ∷ rest) ≡ length name
slash_at [] rest h = refl
slash_at (b ∷ bs) rest h =
    let parts = and_parts (is_name_byte b) (list_all is_name_byte bs) h in
    ap (λ t. cond (not t) (1 + prefix_len (λ b. not (b == 47)) (bs ++ 47 ∷ rest)) 0) (plain_byte b parts.0).1
    ∙ ap (λ n. 1 + n) (slash_at bs rest parts.1) ∙ omega arith

take_front : (xs ys : List ℕ) → take (length xs) (xs ++ ys) ≡ xs
take_front [] ys = refl
take_front (x ∷ xs) ys = ap (λ l. x ∷ l) (take_front xs ys)

drop_front : (xs : List ℕ) (y : ℕ) (ys : List ℕ) → drop (length xs + 1) (xs ++ y ∷ ys) ≡ ys
drop_front [] y ys = refl
drop_front (x ∷ xs) y ys = let e : suc (length xs) + 1 ≡ suc (length xs + 1) = omega arith in rw e (drop_front xs y ys)

field_read : (stage : List ℕ × List ℕ) → (is_name stage.0 && is_name stage.1) ≡ true → stage_in (stage_field stage) ≡ Some stage
field_read stage h =
    ap (λ n. option_and_then split (cond (nat_lt n (length field)) (Some n) None)) (slash_at stage.0 stage.1 (name_bytes stage.0 (and_parts (is_name stage.0) (is_name stage.1) h).0))
    ∙ ap (λ b. option_and_then split (cond b (Some (length stage.0)) None)) inside
    ∙ ap (λ front. cond (is_name front && is_name (drop (length stage.0 + 1) field)) (Some (front, drop (length stage.0 + 1) field)) None) (take_front stage.0 (47 ∷ stage.1))
    ∙ ap (λ back. cond (is_name stage.0 && is_name back) (Some (stage.0, back)) None) (drop_front stage.0 47 stage.1)
    ∙ ap (λ b. cond b (Some stage) None) h
  where
    field : List ℕ
    field = stage_field stage

    split : ℕ → Option (List ℕ × List ℕ)
    split at = cond (is_name (take at field) && is_name (drop (at + 1) field)) (Some (take at field, drop (at + 1) field)) None

    inside : nat_lt (length stage.0) (length field) ≡ true
    inside = let sum = length-append stage.0 (47 ∷ stage.1) in grind (arith, nat_tests, sum)

-- THE COLUMN of stages is read
parts_are : (stage : List ℕ × List ℕ) (stages : Pairs) → are_stage_names (stage ∷ stages) ≡ true → parts_of (stages_column (stage ∷ stages)) ≡ map stage_field (stage ∷ stages)
parts_are stage [] h = slice_split_none (λ b. b == 32) (stage_field stage) (field_plain stage (and_parts (is_name stage.0 && is_name stage.1) true h).0)
parts_are stage (next ∷ stages) h =
    let parts = and_parts (is_name stage.0 && is_name stage.1) (are_stage_names (next ∷ stages)) h in
    slice_split_at (λ b. b == 32) (stage_field stage) 32 (stages_column (next ∷ stages)) (field_plain stage parts.0) refl
    ∙ ap (λ fields. stage_field stage ∷ fields) (parts_are next stages parts.1)

fields_read : (stages : Pairs) → are_stage_names stages ≡ true → all_stages (map stage_field stages) ≡ Some stages
fields_read [] h = refl
fields_read (stage ∷ stages) h =
    let parts = and_parts (is_name stage.0 && is_name stage.1) (are_stage_names stages) h in
    ap (λ found. option_and_then (λ s. before_each_stage s (all_stages (map stage_field stages))) found) (field_read stage parts.0) ∙ ap (before_each_stage stage) (fields_read stages parts.1)

column_any : (stage : List ℕ × List ℕ) (stages : Pairs) → 0 < length (stages_column (stage ∷ stages))
column_any stage [] = let sum = length-append stage.0 (47 ∷ stage.1) in omega (arith, sum)
column_any stage (next ∷ stages) = let sum = length-append (stage_field stage) (32 ∷ stages_column (next ∷ stages)) in omega (arith, sum)

in_some : (text : List ℕ) → 0 < length text → stages_in text ≡ all_stages (parts_of text)
unfolding stages_in
in_some [] some = absurd (omega (arith, some))
in_some (b ∷ bs) some = refl

pub stages_back : (stages : Pairs) → are_stage_names stages ≡ true → stages_in (stages_column stages) ≡ Some stages
unfolding stages_in
stages_back [] h = refl
stages_back (stage ∷ stages) h =
    in_some (stages_column (stage ∷ stages)) (column_any stage stages) ∙ ap all_stages (parts_are stage stages h) ∙ fields_read (stage ∷ stages) h

-- SHARED STAGES
same_turned : (a b : List ℕ × List ℕ) → same_stage a b ≡ false → same_stage b a ≡ false
same_turned a b h = pick (bytes_eq a.0 b.0) refl
  where
    pick : (t : Bool) → bytes_eq a.0 b.0 ≡ t → same_stage b a ≡ false
    pick true e = second (bytes_eq b.0 a.0) (turned a.1 b.1 (sym (ap (λ x. x && bytes_eq a.1 b.1) e) ∙ h))
      where
        second : (x : Bool) → bytes_eq b.1 a.1 ≡ false → (x && bytes_eq b.1 a.1) ≡ false
        second true f = f
        second false f = refl
    pick false e = ap (λ x. x && bytes_eq b.1 a.1) (turned a.0 b.0 e)

head_none : (stages : Pairs) (o : List ℕ × List ℕ) (others : Pairs) → share_a_stage stages (o ∷ others) ≡ false → (list_any (same_stage o) stages ≡ false) × (share_a_stage stages others ≡ false)
head_none [] o others h = (refl, refl)
head_none (s ∷ ss) o others h =
    let parts = either_no (same_stage s o || list_any (same_stage s) others) (share_a_stage ss (o ∷ others)) h in
    let first = either_no (same_stage s o) (list_any (same_stage s) others) parts.0 in
    let more = head_none ss o others parts.1 in
    (no_either _ _ (same_turned s o first.0) more.0, no_either _ _ first.1 more.1)

pub share_turned : (stages others : Pairs) → share_a_stage stages others ≡ false → share_a_stage others stages ≡ false
share_turned stages [] h = refl
share_turned stages (o ∷ others) h = let parts = head_none stages o others h in no_either _ _ parts.0 (share_turned stages others parts.1)
