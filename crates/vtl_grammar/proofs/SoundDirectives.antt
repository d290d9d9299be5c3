-- The heads of directives that are read are of the grammar.
use Rattle.std.proofs.Common.{◌≡◌, ℕ, ◌+◌, List, length, refl, Bool, true, false}
use Rattle.std.specs.Prelude.{Some, None, Ok}
use Rattle.vtl_grammar.specs.Tree.{Expr, Exprs, expr, Target}
use Rattle.vtl_grammar.specs.Bytes.{taken, white}
use Rattle.vtl_grammar.specs.Faults.{bad, up_to}
use Rattle.vtl_grammar.specs.Levels.{Reader}
use Rattle.vtl_grammar.specs.Loops.{first}
use Rattle.vtl_grammar.specs.Operators.{alone, argument}
use Rattle.vtl_grammar.specs.Directives.{bracket, condition, form, form_name, target, set_at, loop_variable, foreach_at, macro_in, macro_at, is_apart, Between, a_close, a_comma, a_space, nothing, between_of, another, between_on, call_turn, call_in, call_at}
use Rattle.vtl_grammar.specs.Grammar.{Enclosed, Further, further_end, further_comma, further_space, CallGiven, given_none, given_some}
use Rattle.vtl_grammar.proofs.Held.{Held, ok, err, next, itself, held_map, held_within, Turned, gathered, bad_held}
use Rattle.vtl_grammar.proofs.SoundLevels.{Sound, closed_up}

module _ (names : List (List ℕ)) (d : ℕ) (r : Reader) (sound : Sound names d r) where
  enclosed : (bs : List ℕ) → Held (λ p. Enclosed names d bs p.0 p.1) (up_to 41 (r 6 alone bs))
  enclosed bs = held_map (closed_up names d r sound 41 bs) (λ p h. record { behind = h.0; ranked = h.1; closes = h.2 })

  -- an `#if`
  abbrev pub Condition : ℕ → List ℕ → Expr × List ℕ → Type 0
  Condition at bs p = (inner : List ℕ) × (bracket at bs ≡ Ok inner) × Enclosed names d inner p.0 p.1

  pub condition_sound : (at : ℕ) (bs : List ℕ) → Held (Condition at bs) (condition r at bs)
  condition_sound at bs = next _ (itself (bracket at bs)) (λ inner e. held_within _ (held_map (enclosed inner) (λ p h. (inner, e, h))))

  -- a `#set`
  abbrev pub Assigned : ℕ → List (List ℕ) → List ℕ → (Target × Expr) × List ℕ → Type 0
  Assigned at params bs p = (inner : List ℕ) × (left : List ℕ) × (behind : List ℕ) × (value : List ℕ) × (bracket at bs ≡ Ok inner) × (form at 36 (white inner) ≡ Ok left) × (target at params (taken 123 left) ≡ Ok ((p.0).0, behind)) × (form at 61 (white behind) ≡ Ok value) × Enclosed names d value (p.0).1 p.1

  pub set_sound : (at : ℕ) (params : List (List ℕ)) (bs : List ℕ) → Held (Assigned at params bs) (set_at r at params bs)
  set_sound at params bs =
      next _ (itself (bracket at bs)) (λ inner e. held_within _
      (next _ (itself (form at 36 (white inner))) (λ left f.
      next _ (itself (target at params (taken 123 left))) (λ t g.
      next _ (itself (form at 61 (white t.1))) (λ value h.
      next _ (enclosed value) (λ x k. ok (inner, left, t.1, value, e, f, g, h, k)))))))

  -- a `#foreach`
  abbrev pub Looped : ℕ → List (List ℕ) → List ℕ → (List ℕ × Expr) × List ℕ → Type 0
  Looped at params bs p = (inner : List ℕ) × (left : List ℕ) × (behind : List ℕ) × (list : List ℕ) × (bracket at bs ≡ Ok inner) × (form at 36 (white inner) ≡ Ok left) × (form_name at left ≡ Ok ((p.0).0, behind)) × (loop_variable at params (p.0).0 behind ≡ Ok list) × Enclosed names d list (p.0).1 p.1

  pub foreach_sound : (at : ℕ) (params : List (List ℕ)) (bs : List ℕ) → Held (Looped at params bs) (foreach_at r at params bs)
  foreach_sound at params bs =
      next _ (itself (bracket at bs)) (λ inner e. held_within _
      (next _ (itself (form at 36 (white inner))) (λ left f.
      next _ (itself (form_name at left)) (λ x g.
      next _ (itself (loop_variable at params x.0 x.1)) (λ list h.
      next _ (enclosed list) (λ y k. ok (inner, left, x.1, list, e, f, g, h, k)))))))

  -- the arguments of a macro's call
  abbrev FurtherOf : List ℕ → Exprs × List ℕ → Type 0
  FurtherOf bs p = Further names d bs p.0 p.1

  comma_sound : (bs tail : List ℕ) (c : Bool × List ℕ) → between_of (is_apart bs) (white bs) ≡ a_comma tail → taken 41 (white tail) ≡ c → Held (Turned (first expr) FurtherOf bs) (elim (c.0) [ true ↦ bad (white tail) | false ↦ another r (white tail) ])
  comma_sound bs tail (true, inner) e t = bad_held _
  comma_sound bs tail (false, inner) e t = next _ (sound 6 argument (white tail)) (λ x h. ok (λ q g. further_comma e t h g))

  between_sound : (bs : List ℕ) (b : Between) → between_of (is_apart bs) (white bs) ≡ b → Held (Turned (first expr) FurtherOf bs) (between_on r b (white bs))
  between_sound bs (a_close rest) e = ok (further_end e)
  between_sound bs (a_comma tail) e = comma_sound bs tail (taken 41 (white tail)) e refl
  between_sound bs a_space e = next _ (sound 6 argument (white bs)) (λ x h. ok (λ q g. further_space e h g))
  between_sound bs nothing e = bad_held _

  given_met : (bs : List ℕ) (c : Bool × List ℕ) → taken 41 bs ≡ c → Held (λ p. CallGiven names d bs p.0 p.1) (call_in r c)
  given_met bs (true, rest) t = ok (given_none t)
  given_met bs (false, inner) t = next _ (sound 6 argument inner) (λ e h. next _ (gathered (first expr) (call_turn r) FurtherOf (λ cs. between_sound cs (between_of (is_apart cs) (white cs)) refl) (length e.1 + 1) e.1) (λ q g. ok (given_some t h g)))

  pub given_sound : (at : ℕ) (bs : List ℕ) → Held (λ p. (inner : List ℕ) × (bracket at bs ≡ Ok inner) × CallGiven names d (white inner) p.0 p.1) (call_at (Some r) at bs)
  given_sound at bs = next _ (itself (bracket at bs)) (λ inner e. held_within _ (held_map (given_met (white inner) (taken 41 (white inner)) refl) (λ p h. (inner, e, h))))

-- a `#macro`
pub macro_sound : (at : ℕ) (defined : List (List ℕ)) (bs : List ℕ) → Held (λ p. (inner : List ℕ) × (bracket at bs ≡ Ok inner) × (macro_in at defined inner ≡ Ok p)) (macro_at at defined bs)
macro_sound at defined bs = next _ (itself (bracket at bs)) (λ inner e. held_within _ (held_map (itself (macro_in at defined inner)) (λ p h. (inner, e, h))))

-- a call where no level is left
pub no_call : {P : Exprs × List ℕ → Type 0} (at : ℕ) (bs : List ℕ) → Held P (call_at None at bs)
no_call at bs = next _ (itself (bracket at bs)) (λ inner e. err)
