-- One rank, and one level.
use Rattle.std.proofs.Common.{◌≡◌, ℕ, zero, suc, ◌-◌, ◌<◌, List, ap, arith}
use Rattle.std.specs.Prelude.{Some, None}
use Rattle.vtl_grammar.specs.Tree.{Expr}
use Rattle.vtl_grammar.specs.Faults.{Read}
use Rattle.vtl_grammar.specs.Operators.{How}
use Rattle.vtl_grammar.specs.Expressions.{ranked, chain, reader, inside}
use Rattle.vtl_grammar.specs.Items.{items, blocks, below}

pub ranked_none : (one : How → List ℕ → Read Expr) (k : ℕ) (how : How) (bs : List ℕ) → k ≡ 0 → ranked one k how bs ≡ one how bs
unfolding ranked
ranked_none one k how bs e = ap (λ n. ranked one n how bs) e

pub ranked_some : (one : How → List ℕ → Read Expr) (k : ℕ) (how : How) (bs : List ℕ) → 0 < k → ranked one k how bs ≡ chain (ranked one (k - 1)) k how bs
unfolding ranked
ranked_some one zero how bs h = absurd (omega (arith, h))
ranked_some one (suc k) how bs h = let e : k ≡ suc k - 1 = omega arith in ap (λ n. chain (ranked one n) (suc k) how bs) e

pub inside_none : (names : List (List ℕ)) (d : ℕ) → d ≡ 0 → inside names d ≡ None
unfolding inside
inside_none names d e = ap (inside names) e

pub inside_some : (names : List (List ℕ)) (d : ℕ) → 0 < d → inside names d ≡ Some (reader names (inside names (d - 1)))
unfolding inside
inside_some names zero h = absurd (omega (arith, h))
inside_some names (suc d) h = let e : d ≡ suc d - 1 = omega arith in ap (λ n. Some (reader names (inside names n))) e

pub blocks_none : (names : List (List ℕ)) (d : ℕ) → d ≡ 0 → blocks names d ≡ None
unfolding blocks
blocks_none names d e = ap (blocks names) e

pub blocks_some : (names : List (List ℕ)) (d : ℕ) → 0 < d → blocks names d ≡ Some (items (below names (d - 1)))
unfolding blocks
blocks_some names zero h = absurd (omega (arith, h))
blocks_some names (suc d) h = let e : d ≡ suc d - 1 = omega arith in ap (λ n. Some (items (below names n))) e
