-- Turns one after another, and operators one after another.
use Rattle.std.proofs.Common.{◌≡◌, ◌≢◌, ℕ, zero, suc, ◌+◌, ◌-◌, ◌<◌, List, length, refl, ap, ◌∙◌, arith, true, false, Some, None, Result, Ok, Err, if◌then◌else◌, eq-eqb}
use Rattle.std.proofs.lemmas.Bool.{ne_eqb}
use Rattle.vtl_grammar.specs.declared.fault.Fault.{Fault}
use Rattle.vtl_grammar.specs.declared.fault.Fault.TheVariants.{BadExpression}
use Rattle.vtl_grammar.specs.Tree.{Operator, Expr, binary}
use Rattle.vtl_grammar.specs.Bytes.{white, taken}
use Rattle.vtl_grammar.specs.Faults.{◌>>=◌, Read, expect, up_to}
use Rattle.vtl_grammar.specs.Operators.{How, rank, operator}
use Rattle.vtl_grammar.specs.Loops.{Turn, last, more, gather, gather_on}
use Rattle.vtl_grammar.specs.Expressions.{linked, links}
use Rattle.vtl_grammar.specs.Grammar.{Closes}
use Rattle.vtl_grammar.proofs.Lexical.{taken_true}

-- the last turn
pub gather_last : {A B S : Type 0} (c : A → B → B) (one : S → Result (Turn A B S) Fault) (n : ℕ) (s : S) (b : B) → one s ≡ Ok (last b) → 0 < n → gather c one n s ≡ Ok b
unfolding gather
gather_last c one zero s b e h = absurd (omega (arith, h))
gather_last c one (suc n) s b e h = ap (λ z. z >>= gather_on c (gather c one n)) e

-- one more turn before others
pub gather_more : {A B S : Type 0} (c : A → B → B) (one : S → Result (Turn A B S) Fault) (n : ℕ) (s : S) (x : A) (t : S) (b : B) → one s ≡ Ok (more x t) → gather c one (n - 1) t ≡ Ok b → 0 < n → gather c one n s ≡ Ok (c x b)
unfolding gather
gather_more c one zero s x t b e g h = absurd (omega (arith, h))
gather_more c one (suc n) s x t b e g h =
    let k : n ≡ suc n - 1 = omega arith in
    ap (λ z. z >>= gather_on c (gather c one n)) e
    ∙ ap (λ z. gather c one z t >>= λ b. Ok (c x b)) k
    ∙ ap (λ z. z >>= λ b. Ok (c x b)) g

pub links_none : (one : List ℕ → Read Expr) (how : How) (k n : ℕ) (x : Expr) (bs : List ℕ) → operator how bs ≡ Ok None → 0 < n → links one how k n x bs ≡ Ok (x, bs)
unfolding links
links_none one how k zero x bs e h = absurd (omega (arith, h))
links_none one how k (suc n) x bs e h = ap (λ z. z >>= λ o. linked one (links one how k n) k x bs o) e

-- an operator of another rank
pub links_past : (one : List ℕ → Read Expr) (how : How) (k n : ℕ) (x : Expr) (bs far : List ℕ) (o : Operator) → operator how bs ≡ Ok (Some (o, far)) → rank o ≢ k → 0 < n → links one how k n x bs ≡ Ok (x, bs)
unfolding links
links_past one how k zero x bs far o e r h = absurd (omega (arith, h))
links_past one how k (suc n) x bs far o e r h =
    ap (λ z. z >>= λ o. linked one (links one how k n) k x bs o) e
    ∙ ap (λ z. elim z as (λ _. Read Expr) [ true ↦ one far >>= λ y. links one how k n (binary o x y.0) y.1 | false ↦ Ok (x, bs) ]) (ne_eqb (rank o) k r)

-- an operator of this rank, its operand, and those behind it
pub links_next : (one : List ℕ → Read Expr) (how : How) (k n : ℕ) (x : Expr) (bs far : List ℕ) (o : Operator) (y : Expr) (middle : List ℕ) (r : Read Expr) → operator how bs ≡ Ok (Some (o, far)) → rank o ≡ k → one far ≡ Ok (y, middle) → links one how k (n - 1) (binary o x y) middle ≡ r → 0 < n → links one how k n x bs ≡ r
unfolding links
links_next one how k zero x bs far o y middle r e j f g h = absurd (omega (arith, h))
links_next one how k (suc n) x bs far o y middle r e j f g h =
    let p : n ≡ suc n - 1 = omega arith in
    ap (λ z. z >>= λ o. linked one (links one how k n) k x bs o) e
    ∙ ap (λ z. elim z as (λ _. Read Expr) [ true ↦ one far >>= λ y. links one how k n (binary o x y.0) y.1 | false ↦ Ok (x, bs) ]) (eq-eqb (rank o) k j)
    ∙ ap (λ z. z >>= λ y. links one how k n (binary o x y.0) y.1) f
    ∙ ap (λ z. links one how k z (binary o x y) middle) p
    ∙ g

-- the byte that is wanted stands there
pub expect_taken : (c : ℕ) (bs : List ℕ) {rest : List ℕ} → taken c bs ≡ (true, rest) → expect c bs ≡ Ok rest
expect_taken c bs {rest = rest} t =
    ap (expect c) (taken_true c bs t)
    ∙ ap (λ z. if z then Ok rest else Err (BadExpression (length rest + 1))) (eq-eqb c c refl)

-- an expression that is closed
pub up_to_closed : (A : Type 0) (c : ℕ) (x : A) (behind : List ℕ) {rest : List ℕ} → Closes c behind rest → up_to c (Ok (x, behind)) ≡ Ok (x, rest)
up_to_closed A c x behind t = ap (λ z. z >>= λ rest. Ok (x, rest)) (expect_taken c (white behind) t)
