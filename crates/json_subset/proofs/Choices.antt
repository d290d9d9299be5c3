-- What a test says, and a reading that may fail.
use Rattle.std.proofs.Common.{◌≡◌, ◌≢◌, ℕ, ◌<◌, ◌≤◌, Bool, true, false, refl, arith, Some}
use Rattle.std.specs.Prelude.{Ok, Err, Result, if◌then◌else◌, ◌==◌, IfOk}
use Rattle.std.proofs.lemmas.Bool.Decides.{nat_tests}
use Rattle.json_subset.specs.declared.fault.JsonFault.{JsonFault}
use Rattle.json_subset.specs.Scan.{◌>>=◌, is_digit, is_white}
use Rattle.json_subset.specs.Strings.{is_plain, hex, short}

-- two readings, one after the other
pub ok_then : {A B : Type 0} (P : A → Type 0) (Q : B → Type 0) (r : Result A JsonFault) (f : A → Result B JsonFault) → IfOk r P → ((x : A) → P x → IfOk (f x) Q) → IfOk (r >>= f) Q
ok_then P Q (Ok x) f h go = go x h
ok_then P Q (Err e) f h go = tt

pub ok_map : {A : Type 0} (P Q : A → Type 0) (r : Result A JsonFault) → IfOk r P → ((x : A) → P x → Q x) → IfOk r Q
ok_map P Q (Ok x) h go = go x h
ok_map P Q (Err e) h go = tt

-- by what a test says
pub ok_if : {A : Type 0} (Q : A → Type 0) (b : Bool) (r s : Result A JsonFault) → (b ≡ true → IfOk r Q) → (b ≡ false → IfOk s Q) → IfOk (if b then r else s) Q
ok_if Q true r s when unless = when refl
ok_if Q false r s when unless = unless refl

pub byte_is : (b c : ℕ) → (b == c) ≡ true → b ≡ c
byte_is b c e = grind (arith, nat_tests)

pub byte_is_not : (b c : ℕ) → (b == c) ≡ false → b ≢ c
byte_is_not b c e = grind (arith, nat_tests)

pub is_byte : (b c : ℕ) → b ≢ c → (b == c) ≡ false
is_byte b c e = grind (arith, nat_tests)

pub digit_byte : (b : ℕ) → is_digit b ≡ true → (48 ≤ b) × (b ≤ 57)
digit_byte b e = grind (arith, nat_tests)

pub white_byte : (b : ℕ) → is_white b ≡ true → b ≤ 32
white_byte b e = grind (arith, nat_tests)

pub plain_byte : (b : ℕ) → is_plain b ≡ true → (32 ≤ b) × (b ≢ 34) × (b ≢ 92)
plain_byte b e = grind (arith, nat_tests)

pub hex_ascii : (b v : ℕ) → hex b ≡ Some v → (b < 128) × (v < 16)
hex_ascii b v e = grind (arith, nat_tests)

pub short_ascii : (b c : ℕ) → short b ≡ Some c → (b < 128) × (c < 128) × (b ≢ 117)
short_ascii b c e = grind (arith, nat_tests)
