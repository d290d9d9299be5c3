-- Reading one after another.
use Rattle.std.specs.Prelude.{ℕ, zero, suc, List, [], ◌∷◌, Result, Ok}
use Rattle.vtl_grammar.specs.declared.fault.Fault.{Fault}
use Rattle.vtl_grammar.specs.Faults.{◌>>=◌, bad}

-- items put before others, by c
abbrev pub folded : {P C : Type 0} → (P → C → C) → C → List P → C
folded c b [] = b
folded c b (x ∷ xs) = c x (folded c b xs)

-- one more before what was read, with what follows it
abbrev pub first : {A C R : Type 0} → (A → C → C) → A → C × R → C × R
first c x b = (c x b.0, b.1)

-- the same, where it was read
abbrev pub put_first : {A C R : Type 0} → (A → C → C) → A → Result (C × R) Fault → Result (C × R) Fault
put_first c x r = r >>= λ b. Ok (first c x b)

-- what one turn reads, where A is what is gathered, S where the next turn begins, and B what all turns give
pub data Turn (A B S : Type 0) : Type 0 where
  -- the end
  last : B → Turn A B S
  -- one more
  more : A → S → Turn A B S

-- a turn, and then the further ones
abbrev pub gather_on : {A B S : Type 0} → (A → B → B) → (S → Result B Fault) → Turn A B S → Result B Fault
gather_on cons next (last b) = Ok b
gather_on cons next (more x s) = next s >>= λ b. Ok (cons x b)

-- what at most n turns read
unfoldable pub gather : {A B S : Type 0} → (A → B → B) → (S → Result (Turn A B S) Fault) → ℕ → S → Result B Fault
gather cons one zero s = bad []
gather cons one (suc n) s = one s >>= gather_on cons (gather cons one n)
