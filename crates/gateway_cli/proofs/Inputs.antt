-- What holds of what the outside tells, and of some value where it tells none.
use Rattle.std.proofs.Common.{◌≡◌, ℕ, zero, suc, ◌<◌, List, [], ◌∷◌, length, Option, Some, None, IfSome, IfOk, OnErr, Result, Ok, Err, refl, subst, arith}
use Rattle.gateway_cli.specs.Top.{OfTold}
pub use Rattle.play_script.proofs.Playing.{on_err_of}

-- what holds of every value, of which there is one
pub of_any : {A : Type 0} (some : A) (outside : Option A) (P : A → Type 0) → ((x : A) → P x) → OfTold outside P
of_any some None P f = (some, tt, f some)
of_any some (Some told) P f = (told, refl, f told)

-- what follows of each value
pub of_each : {A : Type 0} (outside : Option A) (P Q : A → Type 0) → ((x : A) → P x → Q x) → OfTold outside P → OfTold outside Q
of_each outside P Q f h = (h.0, h.1, f h.0 h.2)

-- some input is longer than that
pub longer : (n : ℕ) → (input : List ℕ) × (n < length input)
longer zero = (0 ∷ [], omega arith)
longer (suc n) = let more = longer n in (0 ∷ more.0, omega (arith, more.1))

-- what holds of every input that is so long, where one that is told is so long
pub of_longer : (n : ℕ) (left : Option (List ℕ)) (P : List ℕ → Type 0) → IfSome left (λ told. n < length told) → ((input : List ℕ) → n < length input → P input) → OfTold left P
of_longer n None P h f = let more = longer n in (more.0, tt, f more.0 more.1)
of_longer n (Some told) P h f = (told, refl, f told h)

pub if_ok_of_longer : {E : Type 0} (n : ℕ) (left : Option (List ℕ)) (r : Result ℕ E) (Q : List ℕ → ℕ → Type 0) → IfSome left (λ told. n < length told)
    → ((input : List ℕ) → n < length input → IfOk r (Q input)) → IfOk r (λ status. OfTold left (λ input. Q input status))
if_ok_of_longer n left (Ok status) Q h f = of_longer n left (λ input. Q input status) h f
if_ok_of_longer n left (Err e) Q h f = tt

-- what an answer has, each has that follows from it
pub if_ok_map : {A E : Type 0} (r : Result A E) (P Q : A → Type 0) → ((x : A) → P x → Q x) → IfOk r P → IfOk r Q
if_ok_map (Ok x) P Q f h = f x h
if_ok_map (Err e) P Q f h = tt

pub on_err_map : {E : Type 0} (r : Result ℕ E) (P Q : Type 0) → (P → Q) → OnErr r P → OnErr r Q
on_err_map (Ok status) P Q f h = tt
on_err_map (Err e) P Q f h = f h

pub on_err_of_longer : {E : Type 0} (n : ℕ) (left : Option (List ℕ)) (r : Result ℕ E) (Q : List ℕ → Type 0) → IfSome left (λ told. n < length told)
    → ((input : List ℕ) → n < length input → OnErr r (Q input)) → OnErr r (OfTold left Q)
on_err_of_longer n left (Ok status) Q h f = tt
on_err_of_longer n left (Err e) Q h f = of_longer n left Q h f

-- what holds of each error, where it is known to be one
pub on_err_is : {E : Type 0} (r : Result ℕ E) (P : Type 0) (e : E) → r ≡ Err e → OnErr r P → P
on_err_is r P e is h = subst (λ s. OnErr s P) is h

-- what holds of a value that is the one that is told
pub of_same : {A : Type 0} (outside : Option A) (x y : A) (P : A → Type 0) → x ≡ y → IfSome outside (λ told. y ≡ told) → P x → OfTold outside P
of_same outside x y P same told p = (y, told, subst P same p)

-- what holds of a value that is there
pub if_some_of : {A : Type 0} (found : Option A) (x : A) (P : A → Type 0) → Some x ≡ found → P x → IfSome found P
if_some_of found x P is holds = subst (λ o. IfSome o P) is holds

-- what holds of every value
pub if_some_each : {A : Type 0} (found : Option A) (P : A → Type 0) → ((x : A) → P x) → IfSome found P
if_some_each None P f = tt
if_some_each (Some x) P f = f x
