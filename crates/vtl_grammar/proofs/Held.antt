-- What holds of what is read, where it is read.
use Rattle.std.proofs.Common.{◌≡◌, ℕ, zero, suc, List, [], ◌∷◌, refl, ap, subst, Bool, true, false}
use Rattle.std.specs.Prelude.{Result, Ok, Err, ◌==◌, if◌then◌else◌}
use Rattle.vtl_grammar.specs.declared.fault.Fault.{Fault}
use Rattle.vtl_grammar.specs.declared.fault.Fault.TheVariants as fault
use Rattle.vtl_grammar.specs.Faults.{◌>>=◌, within, expect, bad}
use Rattle.vtl_grammar.specs.Bytes.{taken}
use Rattle.vtl_grammar.specs.Loops.{Turn, last, more, gather, gather_on}

-- P holds of what was read, if anything was
pub data Held {A : Type 0} (P : A → Type 0) : Result A Fault → Type 0 where
  ok : {x : A} → P x → Held P (Ok x)
  err : {f : Fault} → Held P (Err f)

pub held : {A : Type 0} {P : A → Type 0} {x : A} → Held P (Ok x) → P x
held (ok h) = h

pub of_read : {A : Type 0} {P : A → Type 0} (r : Result A Fault) (x : A) → Held P r → r ≡ Ok x → P x
of_read {P = P} r x h e = let Q : Result _ Fault → Type 0 = λ z. Held P z in held (subst Q e h)

-- what is read is what it is
pub itself : {A : Type 0} (r : Result A Fault) → Held (λ x. r ≡ Ok x) r
itself (Ok x) = ok refl
itself (Err f) = err

pub next : {A B : Type 0} {P : A → Type 0} {Q : B → Type 0} {r : Result A Fault} (f : A → Result B Fault) → Held P r → ((x : A) → P x → Held Q (f x)) → Held Q (r >>= f)
next f (ok {x = x} h) g = g x h
next f err g = err

pub held_map : {A : Type 0} {P Q : A → Type 0} {r : Result A Fault} → Held P r → ((x : A) → P x → Q x) → Held Q r
held_map (ok {x = x} h) g = ok (g x h)
held_map err g = err

pub held_within : {A : Type 0} {P : A → Type 0} {r : Result A Fault} (at : ℕ) → Held P r → Held P (within at r)
held_within at (ok h) = ok h
held_within at (err {f = fault.Unclosed n}) = err
held_within at (err {f = fault.BadDirective n}) = err
held_within at (err {f = fault.BadExpression n}) = err
held_within at (err {f = fault.UnsupportedMethod n}) = err
held_within at (err {f = fault.Escape n}) = err
held_within at (err {f = fault.ParamAssigned n}) = err
held_within at (err {f = fault.TooDeep n}) = err

pub bad_held : {A : Type 0} {P : A → Type 0} (bs : List ℕ) → Held P (bad bs)
bad_held [] = err
bad_held (b ∷ bs) = err

-- by cases on a test
pub either : {A : Type 0} {P : A → Type 0} (c : Bool) (x y : Result A Fault) → (c ≡ true → Held P x) → (c ≡ false → Held P y) → Held P (elim c [ true ↦ x | false ↦ y ])
either true x y h g = h refl
either false x y h g = g refl

pub held_if : {A : Type 0} {P : A → Type 0} (c : Bool) (x y : Result A Fault) → (c ≡ true → Held P x) → (c ≡ false → Held P y) → Held P (if c then x else y)
held_if true x y h g = h refl
held_if false x y h g = g refl

-- what one turn gives: the end, or one more before what the further ones give
abbrev pub Turned : {A B S : Type 0} → (A → B → B) → (S → B → Type 0) → S → Turn A B S → Type 0
Turned cons Rel s (last b) = Rel s b
Turned {B = B} cons Rel s (more x t) = (b : B) → Rel t b → Rel s (cons x b)

further : {A B S : Type 0} (cons : A → B → B) (Rel : S → B → Type 0) (rest : S → Result B Fault) → ((s : S) → Held (Rel s) (rest s)) → (s : S) (t : Turn A B S) → Turned cons Rel s t → Held (Rel s) (gather_on cons rest t)
further cons Rel rest again s (last b) h = ok h
further cons Rel rest again s (more x t) h = next (λ b. Ok (cons x b)) (again t) (λ b k. ok (h b k))

pub gathered : {A B S : Type 0} (cons : A → B → B) (one : S → Result (Turn A B S) Fault) (Rel : S → B → Type 0) → ((s : S) → Held (Turned cons Rel s) (one s)) → (n : ℕ) (s : S) → Held (Rel s) (gather cons one n s)
unfolding gather
gathered cons one Rel h zero s = err
gathered cons one Rel h (suc n) s = next (gather_on cons (gather cons one n)) (h s) (λ t k. further cons Rel (gather cons one n) (gathered cons one Rel h n) s t k)

pub taken_true : (c b : ℕ) (bs : List ℕ) → (b == c) ≡ true → taken c (b ∷ bs) ≡ (true, bs)
taken_true c b bs e = let out : Bool → Bool × List ℕ = λ z. elim z [ true ↦ (true, bs) | false ↦ (false, b ∷ bs) ] in ap out e

pub taken_false : (c b : ℕ) (bs : List ℕ) → (b == c) ≡ false → taken c (b ∷ bs) ≡ (false, b ∷ bs)
taken_false c b bs e = let out : Bool → Bool × List ℕ = λ z. elim z [ true ↦ (true, bs) | false ↦ (false, b ∷ bs) ] in ap out e

pub expected : (c : ℕ) (bs : List ℕ) → Held (λ rest. taken c bs ≡ (true, rest)) (expect c bs)
expected c [] = err
expected c (b ∷ bs) = held_if (b == c) _ _ (λ e. ok (taken_true c b bs e)) (λ e. err)
