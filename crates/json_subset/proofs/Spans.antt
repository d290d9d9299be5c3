-- What a string read leaves behind it.
use Rattle.std.proofs.Common.{◌≡◌, ℕ, ◌+◌, true, false, List, [], length, sym, subst}
use Rattle.std.specs.Prelude.{Ok, Result, IfOk}
use Rattle.std.specs.Str.{IsUtf8}
use Rattle.json_subset.specs.declared.fault.JsonFault.{JsonFault}
use Rattle.json_subset.specs.Strings.{string}
use Rattle.json_subset.specs.Grammar.{Text}
use Rattle.json_subset.specs.Places.{IsRest}
use Rattle.json_subset.proofs.Lexical.{text_read}
use Rattle.json_subset.proofs.Rests.{text_front, text_utf8}

-- what holds of what was read holds of this
pub known : {A : Type 0} (P : A → Type 0) (r : Result A JsonFault) (x : A) → IfOk r P → r ≡ Ok x → P x
known {A = A} P r x h e = let Q : Result A JsonFault → Type 0 = λ s. IfOk s P in subst Q e h

pub string_text : (n : ℕ) (bs t rest : List ℕ) → string n bs ≡ Ok (t, rest) → Text bs t rest
string_text n bs t rest e =
    let k = known _ (string n bs) (t, rest) (text_read n [] (length bs + 1) bs) e in
    let P : List ℕ → Type 0 = λ z. Text bs z rest in
    subst P (sym k.1) k.2

pub string_utf8 : (n : ℕ) (bs t rest : List ℕ) → IsUtf8 bs → string n bs ≡ Ok (t, rest) → IsUtf8 t
string_utf8 n bs t rest u e = (text_utf8 [] (string_text n bs t rest e) u).0

pub text_rest : {bs t rest : List ℕ} → Text bs t rest → IsUtf8 bs → IsRest bs rest
text_rest d u = record { front = (text_front d).0; joined = (text_front d).1; utf8 = (text_utf8 [] d u).1 }

pub false_is_not_true : false ≡ true → ⊥
false_is_not_true e = cc
