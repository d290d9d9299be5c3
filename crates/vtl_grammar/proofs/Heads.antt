-- The head of each directive of the grammar is read.
use Rattle.std.proofs.Common.{◌≡◌, ℕ, suc, ◌+◌, ◌-◌, ◌<◌, List, length, refl, ap, ◌∙◌, arith, true, false, Result, Ok}
use Rattle.vtl_grammar.specs.declared.fault.Fault.{Fault}
use Rattle.vtl_grammar.specs.Tree.{Expr, Exprs, Target, no_exprs, expr}
use Rattle.vtl_grammar.specs.Bytes.{white, taken}
use Rattle.vtl_grammar.specs.Faults.{◌>>=◌, bad, up_to, within}
use Rattle.vtl_grammar.specs.Operators.{alone}
use Rattle.vtl_grammar.specs.Levels.{Reader, opened}
use Rattle.vtl_grammar.specs.Loops.{first, put_first, Turn, more, gather}
use Rattle.vtl_grammar.specs.Expressions.{reader, inside}
use Rattle.vtl_grammar.specs.Directives.{bracket, condition, form, form_name, target, set_in, set_at, loop_variable, foreach_in, foreach_at, macro_in, macro_at, between_on, call_turn, another, call_in, call_at, is_apart}
use Rattle.vtl_grammar.specs.Items.{Block, items, block_at, blocks, below}
use Rattle.vtl_grammar.specs.Grammar.{Enclosed, Further, further_end, further_comma, further_space, CallGiven, given_none, given_some}
use Rattle.vtl_grammar.proofs.Lexical.{white_le}
use Rattle.vtl_grammar.proofs.LexicalDirectives.{between_less}
use Rattle.vtl_grammar.proofs.Shorter.{ranked_less}
use Rattle.vtl_grammar.proofs.Gathered.{gather_last, gather_more, up_to_closed}
use Rattle.vtl_grammar.proofs.Opened.{opened_at}
use Rattle.vtl_grammar.proofs.Expressions.{ranked_read}

-- the blocks of a level further down
pub block_some : (A : Type 0) (names : List (List ℕ)) (d at : ℕ) (f : Block → Result A Fault) → block_at at (blocks names (suc d)) f ≡ f (items (below names d))
unfolding blocks
block_some A names d at f = refl

pub enclosed_read : {names : List (List ℕ)} {d : ℕ} {bs : List ℕ} {e : Expr} {rest : List ℕ} → Enclosed names d bs e rest → up_to 41 (reader names (inside names d) 6 alone bs) ≡ Ok (e, rest)
enclosed_read {e = e} q = ap (λ z. up_to 41 z) (ranked_read q.ranked) ∙ up_to_closed Expr 41 e q.behind q.closes

pub condition_read : (r : Reader) (at : ℕ) (bs inner : List ℕ) (p : Expr × List ℕ) → bracket at bs ≡ Ok inner → up_to 41 (r 6 alone inner) ≡ Ok p → condition r at bs ≡ Ok p
condition_read r at bs inner p b e =
    ap (λ z. z >>= λ rest. within (length rest + 1) (up_to 41 (r 6 alone rest))) b
    ∙ ap (within (length inner + 1)) e

pub set_read : (r : Reader) (at : ℕ) (ps : List (List ℕ)) (bs inner left : List ℕ) (w : Target) (behind value : List ℕ) (e : Expr) (far : List ℕ) → bracket at bs ≡ Ok inner → form at 36 (white inner) ≡ Ok left → target at ps (taken 123 left) ≡ Ok (w, behind) → form at 61 (white behind) ≡ Ok value → up_to 41 (r 6 alone value) ≡ Ok (e, far) → set_at r at ps bs ≡ Ok ((w, e), far)
set_read r at ps bs inner left w behind value e far b m g v q =
    ap (λ z. z >>= λ rest. within (length rest + 1) (set_in r at ps rest)) b
    ∙ ap (λ z. within (length inner + 1) (z >>= λ a. (target at ps (taken 123 a) >>= λ t. (form at 61 (white t.1) >>= λ b. (up_to 41 (r 6 alone b) >>= λ e. Ok ((t.0, e.0), e.1)))))) m
    ∙ ap (λ z. within (length inner + 1) (z >>= λ t. (form at 61 (white t.1) >>= λ b. (up_to 41 (r 6 alone b) >>= λ e. Ok ((t.0, e.0), e.1))))) g
    ∙ ap (λ z. within (length inner + 1) (z >>= λ b. (up_to 41 (r 6 alone b) >>= λ e. Ok ((w, e.0), e.1)))) v
    ∙ ap (λ z. within (length inner + 1) (z >>= λ e. Ok ((w, e.0), e.1))) q

pub foreach_read : (r : Reader) (at : ℕ) (ps : List (List ℕ)) (bs inner left v behind list : List ℕ) (e : Expr) (far : List ℕ) → bracket at bs ≡ Ok inner → form at 36 (white inner) ≡ Ok left → form_name at left ≡ Ok (v, behind) → loop_variable at ps v behind ≡ Ok list → up_to 41 (r 6 alone list) ≡ Ok (e, far) → foreach_at r at ps bs ≡ Ok ((v, e), far)
foreach_read r at ps bs inner left v behind list e far b m n g q =
    ap (λ z. z >>= λ rest. within (length rest + 1) (foreach_in r at ps rest)) b
    ∙ ap (λ z. within (length inner + 1) (z >>= λ a. (form_name at a >>= λ x. (loop_variable at ps x.0 x.1 >>= λ b. (up_to 41 (r 6 alone b) >>= λ e. Ok ((x.0, e.0), e.1)))))) m
    ∙ ap (λ z. within (length inner + 1) (z >>= λ x. (loop_variable at ps x.0 x.1 >>= λ b. (up_to 41 (r 6 alone b) >>= λ e. Ok ((x.0, e.0), e.1))))) n
    ∙ ap (λ z. within (length inner + 1) (z >>= λ b. (up_to 41 (r 6 alone b) >>= λ e. Ok ((v, e.0), e.1)))) g
    ∙ ap (λ z. within (length inner + 1) (z >>= λ e. Ok ((v, e.0), e.1))) q

pub macro_read : (at : ℕ) (xs : List (List ℕ)) (bs inner : List ℕ) (p : (List ℕ × List (List ℕ)) × List ℕ) → bracket at bs ≡ Ok inner → macro_in at xs inner ≡ Ok p → macro_at at xs bs ≡ Ok p
macro_read at xs bs inner p b g =
    ap (λ z. z >>= λ rest. within (length rest + 1) (macro_in at xs rest)) b
    ∙ ap (within (length inner + 1)) g

further_read : {names : List (List ℕ)} {d : ℕ} {bs : List ℕ} {es : Exprs} {rest : List ℕ} → Further names d bs es rest → (n : ℕ) → length bs < n → gather (first expr) (call_turn (reader names (inside names d))) n bs ≡ Ok (es, rest)
further_read {names = names} (further_end {d = d} {bs = bs} {rest = rest} e) n h =
    let R : Reader = reader names (inside names d) in
    gather_last (first expr) (call_turn R) n bs (no_exprs, rest) (ap (λ z. between_on R z (white bs)) e) (omega (arith, h))
further_read {names = names} (further_comma {d = d} {bs = bs} {more = far} {middle = middle} {rest = rest} {e = x} {es = es} e t r q) n h =
    let R : Reader = reader names (inside names d) in
    gather_more (first expr) (call_turn R) n bs x middle (es, rest)
    (ap (λ z. between_on R z (white bs)) e
    ∙ ap (λ z. elim (z.0) as (λ _. Result (Turn Expr (Exprs × List ℕ) (List ℕ)) Fault) [ true ↦ bad (white far) | false ↦ another R (white far) ]) t
    ∙ ap (λ z. z >>= λ e. Ok (more e.0 e.1)) (ranked_read r))
    (further_read q (n - 1) (omega (arith, h, between_less (is_apart bs) (white bs) _ e, white_le bs, white_le far, ranked_less r)))
    (omega (arith, h))
further_read {names = names} (further_space {d = d} {bs = bs} {middle = middle} {rest = rest} {e = x} {es = es} e r q) n h =
    let R : Reader = reader names (inside names d) in
    gather_more (first expr) (call_turn R) n bs x middle (es, rest)
    (ap (λ z. between_on R z (white bs)) e ∙ ap (λ z. z >>= λ e. Ok (more e.0 e.1)) (ranked_read r))
    (further_read q (n - 1) (omega (arith, h, white_le bs, ranked_less r)))
    (omega (arith, h))

given_read : {names : List (List ℕ)} {d : ℕ} {bs : List ℕ} {es : Exprs} {rest : List ℕ} → CallGiven names d bs es rest → call_in (reader names (inside names d)) (taken 41 bs) ≡ Ok (es, rest)
given_read {names = names} (given_none {d = d} t) = ap (call_in (reader names (inside names d))) t
given_read {names = names} (given_some {d = d} {middle = middle} {e = e} t r q) =
    let R : Reader = reader names (inside names d) in
    ap (call_in R) t
    ∙ ap (λ z. z >>= λ e. put_first expr e.0 (gather (first expr) (call_turn R) (length e.1 + 1) e.1)) (ranked_read r)
    ∙ ap (put_first expr e) (further_read q (length middle + 1) (omega arith))

pub call_read : {names : List (List ℕ)} {d : ℕ} (at : ℕ) (bs inner : List ℕ) {es : Exprs} {far : List ℕ} → bracket at bs ≡ Ok inner → CallGiven names d (white inner) es far → call_at (inside names (suc d)) at bs ≡ Ok (es, far)
call_read {names = names} {d = d} at bs inner b q =
    ap (λ z. z >>= λ rest. opened (length rest + 1) (inside names (suc d)) (λ r. call_in r (taken 41 (white rest)))) b
    ∙ opened_at (Exprs × List ℕ) names d (length inner + 1) (λ r. call_in r (taken 41 (white inner)))
    ∙ ap (within (length inner + 1)) (given_read q)
