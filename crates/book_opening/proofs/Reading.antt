-- What is read of a source, of a variable and of the stages of a column.
use Rattle.std.proofs.Common.{◌≡◌, ◌≢◌, ◌⊎◌, ⊎_elim, ℕ, ◌+◌, ◌<◌, ◌≤◌, Bool, true, ◌&&◌, List, [], ◌∷◌, ◌++◌, length, map, drop, get_or, Option, Some, None, Result, Ok, Err, IfOk, OnOk, IfErr, is_ok, refl, sym, ap, subst, ◌∙◌, Bor, IsUtf8, eq-eqb}
use Rattle.std.specs.Result.{result_ok}
use Rattle.std.specs.Option.{option_map, option_and_then}
use Rattle.std.proofs.lemmas.List.{drop_more, drop_all, append_assoc, append-nil}
use Rattle.std.proofs.lemmas.Str.{utf8_valid_len-IsUtf8}
use Rattle.std.specs.Str.Lossy.{utf8_valid_len}
use Rattle.call_facts.specs.Pairs.{Pairs}
use Rattle.record_fields.specs.Coding.{is_utf8}
use Rattle.api_model.specs.Definition.{Definition}
use Rattle.api_parts.specs.declared.fault.ApiFault.{ApiFault}
use Rattle.api_parts.specs.declared.fault.ApiCause.TheVariants.{Memory}
use Rattle.book_rules.specs.PlanStages.{stage_in, all_stages, before_each_stage}
use Rattle.book_opening.specs.Ready.{if_taken}

read_ok : {P : Type 0} (definition : Definition) (stated : Result P ApiFault) (parts : P) (api : Option Definition) (x : Definition) → x ≡ definition → stated ≡ Ok parts → api ≡ Some x
    → api ≡ if_taken (is_ok stated) definition
read_ok definition stated parts api x same is made = made ∙ ap Some same ∙ ap (λ s. if_taken (is_ok s) definition) (sym is)

read_err : {P : Type 0} (definition : Definition) (stated : Result P ApiFault) (api : Option Definition) (fault : ApiFault) → (fault.cause ≡ Memory) ⊎ (stated ≡ Err fault)
    → fault.cause ≢ Memory → api ≡ None → api ≡ if_taken (is_ok stated) definition
read_err definition stated api fault why other none =
    ⊎_elim (λ memory. absurd (other memory)) (λ is. none ∙ ap (λ s. if_taken (is_ok s) definition) (sym is)) why

-- a definition is read just where it is stated
pub read_is : {P E : Type 0} (definition : Definition) (stated : Result P ApiFault) (parts : P) (read : Result Definition ApiFault) (answer : Result (Option Definition) E)
    → IfOk read (λ api. api ≡ definition) → OnOk read (stated ≡ Ok parts) → IfErr read (λ fault. (fault.cause ≡ Memory) ⊎ (stated ≡ Err fault))
    → IfOk answer (λ api. api ≡ result_ok read) → OnOk answer (IfErr read (λ fault. fault.cause ≢ Memory))
    → IfOk answer (λ api. api ≡ if_taken (is_ok stated) definition)
read_is definition stated parts (Ok x) (Ok api) same is why made other = read_ok definition stated parts api x same is made
read_is definition stated parts (Err fault) (Ok api) same is why made other = read_err definition stated api fault why other made
read_is definition stated parts read (Err e) same is why made other = tt

-- stages that were read, and those of the fields that are left
abbrev pub with_rest : Pairs → List (Bor (List ℕ)) → Option Pairs
with_rest made fields = option_map (λ rest. made ++ rest) (all_stages (map (λ (field : Bor (List ℕ)). field.now) fields))

moved : (made : Pairs) (stage : List ℕ × List ℕ) (rest : Option Pairs)
    → option_map (λ r. made ++ r) (before_each_stage stage rest) ≡ option_map (λ r. (made ++ stage ∷ []) ++ r) rest
moved made stage None = refl
moved made stage (Some rest) = ap Some (sym (append_assoc made (stage ∷ []) rest))

at_field : (made : Pairs) (fields : List (Bor (List ℕ))) (n : ℕ) (d : Bor (List ℕ)) → n < length fields
    → with_rest made (drop n fields)
    ≡ option_map (λ rest. made ++ rest) (option_and_then (λ stage. before_each_stage stage (all_stages (map (λ (field : Bor (List ℕ)). field.now) (drop (n + 1) fields)))) (stage_in (get_or fields n d).now))
at_field made fields n d inside = ap (with_rest made) (drop_more fields n d inside)

-- with one stage more
pub stage_more : (made : Pairs) (fields : List (Bor (List ℕ))) (n : ℕ) (d : Bor (List ℕ)) (stage : List ℕ × List ℕ) (all : Option Pairs) → n < length fields
    → Some stage ≡ stage_in (get_or fields n d).now → with_rest made (drop n fields) ≡ all → with_rest (made ++ stage ∷ []) (drop (n + 1) fields) ≡ all
stage_more made fields n d stage all inside read so_far =
    let rest = all_stages (map (λ (field : Bor (List ℕ)). field.now) (drop (n + 1) fields)) in
    sym (moved made stage rest) ∙ ap (λ s. option_map (λ r. made ++ r) (option_and_then (λ stage. before_each_stage stage rest) s)) read
    ∙ sym (at_field made fields n d inside) ∙ so_far

-- the last field
pub stages_all : (made : Pairs) (fields : List (Bor (List ℕ))) (n : ℕ) (all : Option Pairs) → length fields ≤ n → with_rest made (drop n fields) ≡ all → Some made ≡ all
stages_all made fields n all past so_far = ap Some (sym (append-nil made)) ∙ ap (with_rest made) (sym (drop_all n fields past)) ∙ so_far

-- both tests before a third hold
pub third : (a b c : Bool) → a ≡ true → b ≡ true → c ≡ (a && b && c)
third a b c first second = ap (λ x. x && c) (sym (ap (λ x. x && b) first ∙ second))

-- what a text lends is UTF-8, and so the text is told to be
pub told_utf8 : (text lent : List ℕ) → lent ≡ text → IsUtf8 lent → is_utf8 text ≡ true
told_utf8 text lent same utf8 = subst (λ t. is_utf8 t ≡ true) same (eq-eqb (utf8_valid_len lent) (length lent) (utf8_valid_len-IsUtf8 lent utf8))
