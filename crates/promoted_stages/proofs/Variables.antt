-- Variables: what keeps them, and what their column is read as.
use Rattle.std.proofs.Common.{◌≡◌, ◌∙◌, ap, refl, ℕ, ◌<◌, ◌==◌, Bool, true, false, not, ◌&&◌, List, [], ◌∷◌, length, filter, cond, Some, unwrap_or, All, arith}
use Rattle.std.specs.Prelude.{nat_le}
use Rattle.std.specs.List.{list_all, list_any}
use Rattle.std.specs.Str.{bytes_eq}
use Rattle.std.proofs.lemmas.Bool.{and_parts}
use Rattle.std.proofs.lemmas.List.Elements.{All-nil, All-cons}
use Rattle.std.proofs.lemmas.List.Folds.{list_all-append}
use Rattle.std.proofs.lemmas.Str.{IsUtf8-from_ascii}
use Rattle.std.proofs.lemmas.Str.Ascii.{IsAscii-from_all}
use Rattle.gw_base.specs.Lists.{last_of_each}
use Rattle.gw_base.specs.Names.{is_name, is_name_byte, begins_name}
use Rattle.call_facts.specs.Pairs.{Pairs, each_once, first_value}
use Rattle.record_fields.proofs.ReadBack.{read_back}
use Rattle.record_fields.proofs.Utf8.{told_utf8}
use Rattle.record_fields.specs.Coding.{is_utf8}
use Rattle.record_fields.specs.Columns.{is_column_pair}
use Rattle.stage_canary.specs.Canaries.{is_named, overridden_pairs, other_pairs, merged_pairs}
use Rattle.book_rules.specs.Names.{is_variable, are_variables}
use Rattle.book_rules.specs.Stored.{variables_in, column_of}

both : (a b : Bool) → a ≡ true → b ≡ true → (a && b) ≡ true
both true true e f = refl
both true false e f = f
both false b e f = absurd cc

-- what holds of each item holds of the last of each, and of those that pass a test
module _ {X : Type 0} (p : X → Bool) where
  all_last : (same : X → X → Bool) (xs : List X) → list_all p xs ≡ true → list_all p (last_of_each same xs) ≡ true
  all_last same [] h = refl
  all_last same (x ∷ xs) h = let parts = and_parts (p x) (list_all p xs) h in pick (list_any (same x) xs) parts.0 (all_last same xs parts.1)
    where
      pick : (again : Bool) → p x ≡ true → list_all p (last_of_each same xs) ≡ true → list_all p (cond again (last_of_each same xs) (x ∷ last_of_each same xs)) ≡ true
      pick true here more = more
      pick false here more = both (p x) (list_all p (last_of_each same xs)) here more

  all_passing : (test : X → Bool) (xs : List X) → list_all p xs ≡ true → list_all p (filter test xs) ≡ true
  all_passing test [] h = refl
  all_passing test (x ∷ xs) h = let parts = and_parts (p x) (list_all p xs) h in pick (test x) parts.0 (all_passing test xs parts.1)
    where
      pick : (passes : Bool) → p x ≡ true → list_all p (filter test xs) ≡ true → list_all p (cond passes (x ∷ filter test xs) (filter test xs)) ≡ true
      pick true here more = both (p x) (list_all p (filter test xs)) here more
      pick false here more = more

-- variables are variables with each name once
pub once_pass : (pairs : Pairs) → are_variables pairs ≡ true → are_variables (each_once pairs) ≡ true
once_pass pairs h = all_last is_variable (λ p q. bytes_eq q.0 p.0) pairs h

-- MERGED VARIABLES are variables
-- a variable is a name with a value
abbrev is_value : List ℕ → Bool
is_value text = is_utf8 text && nat_le (length text) 2048

variable_parts : (pair : List ℕ × List ℕ) → is_variable pair ≡ true → (is_name pair.0 ≡ true) × (is_value pair.1 ≡ true)
unfolding is_variable
variable_parts pair h =
    let outer = and_parts (is_name pair.0 && is_utf8 pair.1) (nat_le (length pair.1) 2048) h in
    let inner = and_parts (is_name pair.0) (is_utf8 pair.1) outer.0 in
    (inner.0, both (is_utf8 pair.1) (nat_le (length pair.1) 2048) inner.1 outer.1)

variable_of : (name value : List ℕ) → is_name name ≡ true → is_value value ≡ true → is_variable (name, value) ≡ true
unfolding is_variable
variable_of name value named valued =
    let parts = and_parts (is_utf8 value) (nat_le (length value) 2048) valued in
    both (is_name name && is_utf8 value) (nat_le (length value) 2048) (both (is_name name) (is_utf8 value) named parts.0) parts.1

-- what the canary has under a name is a value, and so is what stands where it has none
value_found : (canary : Pairs) (name own : List ℕ) → are_variables canary ≡ true → is_value own ≡ true → is_value (unwrap_or (first_value canary name) own) ≡ true
value_found [] name own h valued = valued
value_found (pair ∷ pairs) name own h valued =
    let parts = and_parts (is_variable pair) (are_variables pairs) h in
    pick (bytes_eq pair.0 name) (variable_parts pair parts.0).1 (value_found pairs name own parts.1 valued)
  where
    pick : (here : Bool) → is_value pair.1 ≡ true → is_value (unwrap_or (first_value pairs name) own) ≡ true
        → is_value (unwrap_or (cond here (Some pair.1) (first_value pairs name)) own) ≡ true
    pick true it more = it
    pick false it more = more

overridden_pass : (stage canary : Pairs) → are_variables stage ≡ true → are_variables canary ≡ true → are_variables (overridden_pairs stage canary) ≡ true
overridden_pass [] canary h of_canary = refl
overridden_pass (pair ∷ pairs) canary h of_canary =
    let parts = and_parts (is_variable pair) (are_variables pairs) h in
    let is = variable_parts pair parts.0 in
    let value : List ℕ = unwrap_or (first_value canary pair.0) pair.1 in
    both (is_variable (pair.0, value)) (are_variables (overridden_pairs pairs canary)) (variable_of pair.0 value is.0 (value_found canary pair.0 pair.1 of_canary is.1))
    (overridden_pass pairs canary parts.1 of_canary)

pub merged_pass : (stage canary : Pairs) → are_variables stage ≡ true → are_variables canary ≡ true → are_variables (merged_pairs stage canary) ≡ true
merged_pass stage canary h of_canary =
    list_all-append is_variable (overridden_pairs stage canary) (other_pairs stage canary)
    ∙ both (are_variables (overridden_pairs stage canary)) (are_variables (other_pairs stage canary)) (overridden_pass stage canary h of_canary)
    (all_passing is_variable (λ (p : List ℕ × List ℕ). not (is_named stage p.0)) canary of_canary)

-- THE COLUMN OF VARIABLES is read back
-- a byte of a name is of ASCII, and no `=`
name_byte : (b : ℕ) → is_name_byte b ≡ true → (b < 128) × (not (b == 61) ≡ true)
unfolding is_name_byte
name_byte b h = grind arith

name_bytes : (bytes : List ℕ) → list_all is_name_byte bytes ≡ true → All (λ b. b < 128) bytes × (list_all (λ b. not (b == 61)) bytes ≡ true)
name_bytes [] h = (All-nil (λ b. b < 128), refl)
name_bytes (b ∷ bytes) h =
    let parts = and_parts (is_name_byte b) (list_all is_name_byte bytes) h in
    let here = name_byte b parts.0 in
    let more = name_bytes bytes parts.1 in
    (All-cons (λ b. b < 128) b bytes here.0 more.0, both (not (b == 61)) (list_all (λ b. not (b == 61)) bytes) here.1 more.1)

name_parts : (name : List ℕ) → is_name name ≡ true → list_all is_name_byte name ≡ true
unfolding is_name
name_parts name h = (and_parts (begins_name name && nat_le (length name) 64) (list_all is_name_byte name) h).1

column_pair : (pair : List ℕ × List ℕ) → is_variable pair ≡ true → is_column_pair pair ≡ true
column_pair pair h =
    let is = variable_parts pair h in
    let name = name_bytes pair.0 (name_parts pair.0 is.0) in
    let text = told_utf8 pair.0 pair.0 refl (IsUtf8-from_ascii pair.0 (IsAscii-from_all pair.0 name.0)) in
    both (list_all (λ b. not (b == 61)) pair.0) (is_utf8 pair.0 && is_utf8 pair.1) name.1
    (both (is_utf8 pair.0) (is_utf8 pair.1) text (and_parts (is_utf8 pair.1) (nat_le (length pair.1) 2048) is.1).0)

column_pairs_pass : (pairs : Pairs) → are_variables pairs ≡ true → list_all is_column_pair pairs ≡ true
column_pairs_pass [] h = refl
column_pairs_pass (pair ∷ pairs) h =
    let parts = and_parts (is_variable pair) (are_variables pairs) h in
    both (is_column_pair pair) (list_all is_column_pair pairs) (column_pair pair parts.0) (column_pairs_pass pairs parts.1)

pub column_back : (these : Pairs) → are_variables these ≡ true → variables_in (column_of (record { pairs = these })) ≡ record { pairs = these }
unfolding variables_in
column_back these h = ap (λ found. record { pairs = unwrap_or found [] }) (read_back these (column_pairs_pass these h))
