-- What is known in the middle of a chain of operators.
use Rattle.std.proofs.Common.{◌≡◌, ℕ, zero, suc, ◌-◌, ◌<◌, List, sym, ap, ◌∙◌, arith, Bool, true, false}
use Rattle.std.proofs.lemmas.Bool.{eq-eqb, ne_eqb}
use Rattle.std.specs.Prelude.{Option, Some, None, Result, Ok, Err}
use Rattle.vtl_grammar.specs.declared.fault.Fault.{Fault}
use Rattle.vtl_grammar.specs.declared.fault.Fault.TheVariants.{Unclosed}
use Rattle.vtl_grammar.specs.Tree.{Operator, Expr, binary}
use Rattle.vtl_grammar.specs.Faults.{◌>>=◌, Read}
use Rattle.vtl_grammar.specs.Operators.{How, operator, rank}
use Rattle.vtl_grammar.specs.Expressions.{links, linked}
use Rattle.vtl_reader.specs.declared.error.ReadError.{ReadError}
use Rattle.vtl_reader.specs.declared.error.ReadError.TheVariants as errors
use Rattle.vtl_reader.specs.Views.{Fails}

pub links_once : (one : List ℕ → Read Expr) (how : How) (k n : ℕ) (x : Expr) (bs : List ℕ) → 0 < n → links one how k n x bs ≡ (operator how bs >>= λ o. linked one (links one how k (n - 1)) k x bs o)
unfolding links
links_once one how k zero x bs h = absurd (omega (arith, h))
links_once one how k (suc n) x bs h = let e : n ≡ suc n - 1 = omega arith in ap (λ m. operator how bs >>= λ o. linked one (links one how k m) k x bs o) e

pub links_none : (one : List ℕ → Read Expr) (how : How) (k n : ℕ) (x : Expr) (bs : List ℕ) → n ≡ 0 → links one how k n x bs ≡ Err (Unclosed 0)
unfolding links
links_none one how k n x bs e = ap (λ m. links one how k m x bs) e

-- behind an operator that was found
module _ (one : List ℕ → Read Expr) (next : Expr → List ℕ → Read Expr) (k : ℕ) (x : Expr) (bs : List ℕ) (o : Operator) (more : List ℕ) where
  picked : Bool → Read Expr
  picked b = elim b [ true ↦ one more >>= λ y. next (binary o x y.0) y.1 | false ↦ Ok (x, bs) ]

  pub linked_same : rank o ≡ k → linked one next k x bs (Some (o, more)) ≡ (one more >>= λ y. next (binary o x y.0) y.1)
  unfolding picked
  linked_same e = ap picked (eq-eqb (rank o) k e)

  pub linked_other : (rank o ≡ k → ⊥) → linked one next k x bs (Some (o, more)) ≡ Ok (x, bs)
  unfolding picked
  linked_other e = ap picked (ne_eqb (rank o) k e)

-- one turn, by what stands at the front
module _ (one : List ℕ → Read Expr) (how : How) (k n : ℕ) (x : Expr) (bs : List ℕ) (target : Read Expr) (so_far : links one how k n x bs ≡ target) (left : 0 < n) where
  met : {r : Result (Option (Operator × List ℕ)) Fault} → operator how bs ≡ r → (r >>= λ o. linked one (links one how k (n - 1)) k x bs o) ≡ target
  met e = ap (λ r. r >>= λ o. linked one (links one how k (n - 1)) k x bs o) (sym e) ∙ sym (links_once one how k n x bs left) ∙ so_far

  pub at_fault : (f : Fault) → operator how bs ≡ Err f → target ≡ Err f
  at_fault f e = sym (met e)

  pub at_nothing : operator how bs ≡ Ok None → target ≡ Ok (x, bs)
  at_nothing e = sym (met e)

  pub at_other : (o : Operator) (more : List ℕ) → operator how bs ≡ Ok (Some (o, more)) → (rank o ≡ k → ⊥) → target ≡ Ok (x, bs)
  at_other o more e h = sym (met e) ∙ linked_other one (links one how k (n - 1)) k x bs o more h

  pub at_link : (o : Operator) (more : List ℕ) (y : Expr) (rest : List ℕ) → operator how bs ≡ Ok (Some (o, more)) → rank o ≡ k → one more ≡ Ok (y, rest) → links one how k (n - 1) (binary o x y) rest ≡ target
  at_link o more y rest e h r =
      ap (λ z. z >>= λ y. links one how k (n - 1) (binary o x y.0) y.1) (sym r)
      ∙ sym (linked_same one (links one how k (n - 1)) k x bs o more h) ∙ met e

  pub at_bad : (o : Operator) (more : List ℕ) (f : Fault) → operator how bs ≡ Ok (Some (o, more)) → rank o ≡ k → one more ≡ Err f → target ≡ Err f
  at_bad o more f e h r =
      sym (met e) ∙ linked_same one (links one how k (n - 1)) k x bs o more h
      ∙ ap (λ z. z >>= λ y. links one how k (n - 1) (binary o x y.0) y.1) r

  pub at_any_fault : (o : Operator) (more : List ℕ) (e : ReadError) → operator how bs ≡ Ok (Some (o, more)) → rank o ≡ k → Fails e (one more) → Fails e target
  at_any_fault o more errors.Memory f h r = tt
  at_any_fault o more (errors.Met g) f h r = at_bad o more g f h r
