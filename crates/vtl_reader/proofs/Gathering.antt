-- What is known in the middle of a list, where one is read after another.
use Rattle.std.proofs.Common.{◌≡◌, ℕ, zero, suc, ◌-◌, ◌<◌, List, [], ◌∷◌, ◌++◌, refl, sym, ap, ◌∙◌, arith, subst}
use Rattle.std.specs.Prelude.{Result, Ok, Err, Option, Some, None, IfSome}
use Rattle.std.specs.Option.{option_map}
use Rattle.vtl_grammar.specs.declared.fault.Fault.{Fault}
use Rattle.vtl_grammar.specs.declared.fault.Fault.TheVariants.{Unclosed}
use Rattle.vtl_grammar.specs.Faults.{◌>>=◌}
use Rattle.vtl_grammar.specs.Directives.{with_name}
use Rattle.vtl_grammar.specs.Loops.{folded, first, put_first, Turn, last, more, gather, gather_on}
use Rattle.vtl_reader.specs.declared.error.ReadError.{ReadError}
use Rattle.vtl_reader.specs.declared.error.ReadError.TheVariants as errors
use Rattle.vtl_reader.specs.Views.{Fails, joined, turn_of}

pub folded_push : {A C : Type 0} (c : A → C → C) (b : C) (xs : List A) (x : A) → folded c b (xs ++ x ∷ []) ≡ folded c (c x b) xs
folded_push c b [] x = refl
folded_push c b (y ∷ xs) x = ap (c y) (folded_push c b xs x)

module _ {A C R S : Type 0} (c : A → C → C) (one : S → Result (Turn A (C × R) S) Fault) where
  once : (n : ℕ) (s : S) → 0 < n → gather (first c) one n s ≡ (one s >>= gather_on (first c) (gather (first c) one (n - 1)))
  unfolding gather
  once zero s h = absurd (omega (arith, h))
  once (suc n) s h = let e : n ≡ suc n - 1 = omega arith in ap (λ m. one s >>= gather_on (first c) (gather (first c) one m)) e

  joined_push : (xs : List A) (x : A) (r : Result (C × R) Fault) → joined c xs (r >>= λ b. Ok (first c x b)) ≡ joined c (xs ++ x ∷ []) r
  joined_push xs x (Ok b) = ap (λ z. Ok (z, b.1)) (sym (folded_push c b.0 xs x))
  joined_push xs x (Err f) = refl

  module _ (n : ℕ) (s : S) (xs : List A) (target : Result (C × R) Fault) (so_far : joined c xs (gather (first c) one n s) ≡ target) where
    met : (r : Result (Turn A (C × R) S) Fault) → 0 < n → one s ≡ r → joined c xs (r >>= gather_on (first c) (gather (first c) one (n - 1))) ≡ target
    met r left e = ap (λ z. joined c xs (z >>= gather_on (first c) (gather (first c) one (n - 1)))) (sym e) ∙ ap (joined c xs) (sym (once n s left)) ∙ so_far

    pub at_fault : (f : Fault) → 0 < n → one s ≡ Err f → target ≡ Err f
    at_fault f left e = sym (met (Err f) left e)

    pub at_error : (e : ReadError) → 0 < n → Fails e (one s) → Fails e target
    at_error errors.Memory left e = tt
    at_error (errors.Met f) left e = at_fault f left e

    pub at_last : (b : C × R) → 0 < n → one s ≡ Ok (last b) → target ≡ Ok (folded c b.0 xs, b.1)
    at_last b left e = sym (met (Ok (last b)) left e)

    pub at_more : (x : A) (t : S) → 0 < n → one s ≡ Ok (more x t) → joined c (xs ++ x ∷ []) (gather (first c) one (n - 1) t) ≡ target
    at_more x t left e = sym (joined_push xs x (gather (first c) one (n - 1) t)) ∙ met (Ok (more x t)) left e

    pub at_none : n ≡ 0 → target ≡ Err (Unclosed 0)
    unfolding gather
    at_none e = sym so_far ∙ ap (λ m. joined c xs (gather (first c) one m s)) e

  pub at_start : (n : ℕ) (s : S) → joined c [] (gather (first c) one n s) ≡ gather (first c) one n s
  at_start n s = same (gather (first c) one n s)
    where
      same : (r : Result (C × R) Fault) → joined c [] r ≡ r
      same (Ok b) = refl
      same (Err f) = refl

  pub at_first : (n : ℕ) (s : S) (x : A) → joined c (x ∷ []) (gather (first c) one n s) ≡ put_first c x (gather (first c) one n s)
  at_first n s x = same (gather (first c) one n s)
    where
      same : (r : Result (C × R) Fault) → joined c (x ∷ []) r ≡ put_first c x r
      same (Ok b) = refl
      same (Err f) = refl

-- the same of turns that a function returns as an option, seen by view
module _ {T A C : Type 0} (view : T → A) (c : A → C → C) (one : List ℕ → Result (Turn A (C × List ℕ) (List ℕ)) Fault) (n : ℕ) (s : List ℕ) (xs : List A) (target : Result (C × List ℕ) Fault) (so_far : joined c xs (gather (first c) one n s) ≡ target) where
  pub at_end : (end : C) (o : Option T) (rest : List ℕ) → 0 < n → one s ≡ Ok (turn_of end (option_map view o) rest) → o ≡ None → target ≡ Ok (folded c end xs, rest)
  at_end end o rest left e none = at_last c one n s xs target so_far (end, rest) left (e ∙ ap (λ z. Ok (turn_of end (option_map view z) rest)) none)

  pub at_next : (end : C) (o : Option T) (rest : List ℕ) (k : T) → 0 < n → one s ≡ Ok (turn_of end (option_map view o) rest) → o ≡ Some k → joined c (xs ++ view k ∷ []) (gather (first c) one (n - 1) rest) ≡ target
  at_next end o rest k left e some = at_more c one n s xs target so_far (view k) rest left (e ∙ ap (λ z. Ok (turn_of end (option_map view z) rest)) some)

pub some_holds : {T : Type 0} (P : T → Type 0) (o : Option T) (k : T) → o ≡ Some k → IfSome o P → P k
some_holds {T = T} P o k e h = let Q : Option T → Type 0 = λ z. IfSome z P in subst Q e h

pub bind_fails : {A B : Type 0} (r : Result A Fault) (f : A → Result B Fault) (e : ReadError) → Fails e r → Fails e (r >>= f)
bind_fails r f errors.Memory h = tt
bind_fails r f (errors.Met g) h = ap (λ z. z >>= f) h

pub names_folded : (xs : List (List ℕ)) → folded with_name [] xs ≡ xs
names_folded [] = refl
names_folded (x ∷ xs) = ap (λ z. x ∷ z) (names_folded xs)
