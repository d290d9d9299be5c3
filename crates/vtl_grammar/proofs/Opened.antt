-- One step of reading an operand, a pair or an argument, where what stands inside is read.
use Rattle.std.proofs.Common.{◌≡◌, ℕ, zero, suc, ◌+◌, ◌<◌, List, [], ◌∷◌, length, refl, ap, ◌∙◌, arith, Bool, true, false, true≢false, Option, Some, None, Result, Ok, Err, ◌==◌}
use Rattle.vtl_grammar.specs.declared.fault.Fault.{Fault}
use Rattle.vtl_grammar.specs.declared.fault.Fault.TheVariants as fault
use Rattle.vtl_grammar.specs.Tree.{Expr, Exprs, string}
use Rattle.vtl_grammar.specs.Bytes.{white, taken, until_byte}
use Rattle.vtl_grammar.specs.Faults.{◌>>=◌, Read, up_to, within}
use Rattle.vtl_grammar.specs.Operators.{How, alone}
use Rattle.vtl_grammar.specs.Levels.{Reader, deeper, opened}
use Rattle.vtl_grammar.specs.References.{comma, argument_on, next_argument, arguments_in, arguments_from, no_arguments}
use Rattle.vtl_grammar.specs.Strings.{single_quoted, double_quoted, string_closed, parts_of}
use Rattle.vtl_grammar.specs.Lists.{pair_at}
use Rattle.vtl_grammar.specs.Expressions.{Lead, led, operand_at, operand, chain, ranked, reader, inside}
use Rattle.vtl_grammar.specs.Grammar.{Begins, Closes}
use Rattle.vtl_grammar.proofs.Gathered.{up_to_closed}

-- inside a bracket
pub opened_at : (A : Type 0) (names : List (List ℕ)) (d at : ℕ) (f : Reader → Result A Fault) → opened at (inside names (suc d)) f ≡ within at (f (reader names (inside names d)))
unfolding inside
opened_at A names d at f = refl

pub deeper_at : (A : Type 0) (names : List (List ℕ)) (d at : ℕ) (f : Reader → Result A Fault) → deeper at (inside names (suc d)) f ≡ f (reader names (inside names d))
unfolding inside
deeper_at A names d at f = refl

pub ranked_zero : (one : How → List ℕ → Read Expr) (how : How) (bs : List ℕ) → ranked one 0 how bs ≡ one how bs
unfolding ranked
ranked_zero one how bs = refl

pub ranked_suc : (one : How → List ℕ → Read Expr) (k : ℕ) (how : How) (bs : List ℕ) → ranked one (suc k) how bs ≡ chain (ranked one k) (suc k) how bs
unfolding ranked
ranked_suc one k how bs = refl

-- what an operand begins with says how it is read
pub operand_led : (names : List (List ℕ)) (inner : Option Reader) (how : How) (bs : List ℕ) (l : Lead) {more : List ℕ} (b : Begins bs l more) → operand names inner how bs ≡ led names inner how l b.0 more
unfolding operand
operand_led names inner how bs l {more = more} b = ap (operand_at names inner how) b.1 ∙ ap (λ z. led names inner how z b.0 more) b.2

pub pair_read : (r : Reader) (bs : List ℕ) (k : Expr) (behind value : List ℕ) (v : Expr) (middle : List ℕ) → r 6 alone bs ≡ Ok (k, behind) → Closes 58 behind value → r 6 alone value ≡ Ok (v, middle) → pair_at r bs ≡ Ok ((k, v), white middle)
pair_read r bs k behind value v middle e c f =
    ap (λ z. up_to 58 z >>= λ k. (r 6 alone k.1 >>= λ v. Ok ((k.0, v.0), white v.1))) e
    ∙ ap (λ z. z >>= λ k. (r 6 alone k.1 >>= λ v. Ok ((k.0, v.0), white v.1))) (up_to_closed Expr 58 k behind c)
    ∙ ap (λ z. z >>= λ v. Ok ((k, v.0), white v.1)) f

open_if : (r : Reader) (at few many b : ℕ) (bs inner : List ℕ) (t : Bool) → (elim t as (λ _. Bool × List ℕ) [ true ↦ (true, bs) | false ↦ (false, b ∷ bs) ]) ≡ (false, inner) → (elim t as (λ _. Read Exprs) [ true ↦ no_arguments at few bs | false ↦ arguments_from r at few many (b ∷ bs) ]) ≡ arguments_from r at few many (b ∷ bs)
open_if r at few many b bs inner true e = absurd (true≢false (ap (λ p. p.0) e))
open_if r at few many b bs inner false e = refl

-- a first argument
pub arguments_open : (r : Reader) (at few many : ℕ) (bs inner : List ℕ) → taken 41 bs ≡ (false, inner) → 0 < length bs → arguments_in r at few many bs ≡ arguments_from r at few many bs
arguments_open r at few many [] inner e h = absurd (omega (arith, h))
arguments_open r at few many (b ∷ bs) inner e h = open_if r at few many b bs inner (b == 41) e

-- a further argument
pub comma_turn : (r : Reader) (at few many : ℕ) (bs : List ℕ) → argument_on r at few (suc many) comma bs ≡ next_argument r few many (white bs)
comma_turn r at zero many bs = refl
comma_turn r at (suc few) many bs = refl

pub single_some : (bs held rest : List ℕ) → until_byte 39 bs ≡ Some (held, rest) → single_quoted bs ≡ Ok (string held, rest)
single_some bs held rest e = ap (λ z. elim z as (λ _. Read Expr) [ Some p ↦ Ok (string p.0, p.1) | None ↦ Err (fault.Unclosed (length bs + 1)) ]) e

pub double_some : (names : List (List ℕ)) (inner : Option Reader) (bs held rest : List ℕ) → until_byte 34 bs ≡ Some (held, rest) → double_quoted names inner bs ≡ string_closed rest (parts_of names inner held)
double_some names inner bs held rest e = ap (λ z. elim z as (λ _. Read Expr) [ Some p ↦ string_closed p.1 (parts_of names inner p.0) | None ↦ within (length bs + 1) (parts_of names inner bs >>= λ ps. Err (fault.Unclosed 0)) ]) e
