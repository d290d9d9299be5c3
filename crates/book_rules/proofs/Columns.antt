-- The variables of a stage are read back from their column.
use Rattle.std.proofs.Common.{◌≡◌, ℕ, ◌<◌, ◌==◌, Bool, true, false, not, ◌&&◌, ◌||◌, List, [], ◌∷◌, length, cond, Option, Some, None, unwrap_or, refl, ap, sym, ◌∙◌, arith, All, IsUtf8}
use Rattle.std.specs.Prelude.{nat_le}
use Rattle.std.specs.List.{list_all, list_any}
use Rattle.std.specs.Str.{bytes_eq}
use Rattle.std.proofs.lemmas.Str.{IsUtf8-from_ascii}
use Rattle.std.proofs.lemmas.Str.Ascii.{IsAscii-from_all}
use Rattle.std.proofs.lemmas.Bool.{and_parts}
use Rattle.std.proofs.lemmas.List.Elements.{All-nil, All-cons}
use Rattle.gw_base.specs.Lists.{last_of_each}
use Rattle.gw_base.specs.Names.{is_name, is_name_byte, begins_name}
use Rattle.call_facts.specs.Pairs.{Pairs, once, each_once}
use Rattle.call_facts.specs.declared.vars.Vars.{Vars}
use Rattle.record_fields.proofs.ReadBack.{read_back}
use Rattle.record_fields.proofs.Utf8.{told_utf8}
use Rattle.record_fields.specs.Coding.{is_utf8}
use Rattle.record_fields.specs.Columns.{column, column_pairs, is_column_pair}
use Rattle.book_rules.specs.Names.{is_variable, are_variables}
use Rattle.book_rules.specs.Stored.{variables_in, column_of}

all_on : {X : Type 0} (p : X → Bool) (x : X) (xs : List X) → p x ≡ true → list_all p xs ≡ true → list_all p (x ∷ xs) ≡ true
all_on p x xs here more = ap (λ b. b && list_all p xs) here ∙ more

-- what holds of each item holds of the last of each
all_last : {X : Type 0} (same : X → X → Bool) (p : X → Bool) (xs : List X) → list_all p xs ≡ true → list_all p (last_of_each same xs) ≡ true
all_last same p [] h = refl
all_last same p (x ∷ xs) h =
    let parts = and_parts (p x) (list_all p xs) h in
    all_last_step same p x xs (list_any (same x) xs) parts.0 (all_last same p xs parts.1)
  where
    all_last_step : {X : Type 0} (same : X → X → Bool) (p : X → Bool) (x : X) (xs : List X) (b : Bool) → p x ≡ true → list_all p (last_of_each same xs) ≡ true
        → list_all p (cond b (last_of_each same xs) (x ∷ last_of_each same xs)) ≡ true
    all_last_step same p x xs true here more = more
    all_last_step same p x xs false here more = all_on p x (last_of_each same xs) here more

-- a byte of a name is of ASCII, and no `=`
name_byte : (b : ℕ) → is_name_byte b ≡ true → (b < 128) × (not (b == 61) ≡ true)
unfolding is_name_byte
name_byte b h = grind arith

name_bytes : (bytes : List ℕ) → list_all is_name_byte bytes ≡ true → All (λ b. b < 128) bytes × (list_all (λ b. not (b == 61)) bytes ≡ true)
name_bytes [] h = (All-nil (λ b. b < 128), refl)
name_bytes (b ∷ bytes) h =
    let parts = and_parts (is_name_byte b) (list_all is_name_byte bytes) h in
    let here = name_byte b parts.0 in
    let more = name_bytes bytes parts.1 in
    (All-cons (λ b. b < 128) b bytes here.0 more.0, all_on (λ b. not (b == 61)) b bytes here.1 more.1)

name_parts : (name : List ℕ) → is_name name ≡ true → list_all is_name_byte name ≡ true
unfolding is_name
name_parts name h = (and_parts (begins_name name && nat_le (length name) 64) (list_all is_name_byte name) h).1

variable_pair : (pair : List ℕ × List ℕ) → is_variable pair ≡ true → is_column_pair pair ≡ true
unfolding is_variable
variable_pair pair h =
    let parts = and_parts (is_name pair.0) (is_utf8 pair.1) (and_parts (is_name pair.0 && is_utf8 pair.1) (nat_le (length pair.1) 2048) h).0 in
    let name = name_bytes pair.0 (name_parts pair.0 parts.0) in
    let text = told_utf8 pair.0 pair.0 refl (IsUtf8-from_ascii pair.0 (IsAscii-from_all pair.0 name.0)) in
    both_of (list_all (λ b. not (b == 61)) pair.0) (is_utf8 pair.0) (is_utf8 pair.1) name.1 text parts.1
  where
    both_of : (a b c : Bool) → a ≡ true → b ≡ true → c ≡ true → (a && (b && c)) ≡ true
    both_of true true true e f g = refl
    both_of true true false e f g = g
    both_of true false c e f g = absurd cc
    both_of false b c e f g = absurd cc

variable_pairs : (pairs : Pairs) → are_variables pairs ≡ true → list_all is_column_pair pairs ≡ true
variable_pairs [] h = refl
variable_pairs (pair ∷ pairs) h =
    let parts = and_parts (is_variable pair) (are_variables pairs) h in
    all_on is_column_pair pair pairs (variable_pair pair parts.0) (variable_pairs pairs parts.1)

-- the variables of a stage are those of its column
pub variables_back : (variables : Vars) → are_variables variables.pairs ≡ true → variables_in (column_of (once variables)) ≡ once variables
unfolding variables_in
variables_back variables h =
    ap (λ found. record { pairs = unwrap_or found [] })
    (read_back (each_once variables.pairs) (all_last (λ p q. bytes_eq q.0 p.0) is_column_pair variables.pairs (variable_pairs variables.pairs h)))
