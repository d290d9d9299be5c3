-- What is known in the middle of a run of text.
use Rattle.std.proofs.Common.{◌≡◌, ℕ, zero, suc, ◌+◌, ◌-◌, ◌<◌, ◌≤◌, List, [], ◌∷◌, ◌++◌, refl, sym, ap, ◌∙◌, arith}
use Rattle.std.specs.Prelude.{Some, None, IfSome, true, false, Bool, ◌==◌, if◌then◌else◌}
use Rattle.std.proofs.Common.{Bor}
use Rattle.vtl_words.specs.declared.fronts.Front as code
use Rattle.vtl_words.specs.declared.fronts.Front.TheVariants as fronts
use Rattle.vtl_words.specs.Fronts as view
use Rattle.vtl_words.specs.Views.{word_of}
use Rattle.vtl_grammar.specs.Bytes.{is_blank}
use Rattle.vtl_grammar.specs.Lines.{Line, Spot, line_after, one_more}
use Rattle.vtl_grammar.specs.Fronts.{Front, finish, plain, raw, unclosed, bad_escape, reference, line_comment, long_comment, directive, front_at, text_on, text_run}

once : (names : List (List ℕ)) (n : ℕ) (t : List ℕ) (l : Line) (bs : List ℕ) → 0 < n → text_run names n t l bs ≡ text_on (text_run names (n - 1)) t l bs (front_at names bs)
unfolding text_run
once names zero t l bs h = absurd (omega (arith, h))
once names (suc n) t l bs h = let e : n ≡ suc n - 1 = omega arith in ap (λ m. text_on (text_run names m) t l bs (front_at names bs)) e

module _ (names : List (List ℕ)) (n : ℕ) (t : List ℕ) (l : Line) (bs : List ℕ) (target : List ℕ × Spot) (so_far : text_run names n t l bs ≡ target) where
  met : (f : Front) → 0 < n → f ≡ front_at names bs → text_on (text_run names (n - 1)) t l bs f ≡ target
  met f left e = ap (text_on (text_run names (n - 1)) t l bs) e ∙ sym (once names n t l bs left) ∙ so_far

  pub at_plain : (b : ℕ) (rest : List ℕ) → 0 < n → plain b rest ≡ front_at names bs → text_run names (n - 1) (t ++ b ∷ []) (line_after l b) rest ≡ target
  at_plain b rest left e = met (plain b rest) left e

  pub at_raw : (x rest : List ℕ) → 0 < n → raw x rest ≡ front_at names bs → text_run names (n - 1) (t ++ x) None rest ≡ target
  at_raw x rest left e = met (raw x rest) left e

  pub at_end : n ≡ 0 → target ≡ (t, (l, bs))
  unfolding text_run
  at_end e = sym so_far ∙ ap (λ m. text_run names m t l bs) e

pub start_line : (l : Line) (n : ℕ) → IfSome l (λ k. k ≡ 0) → IfSome l (λ k. k ≤ n)
start_line None n h = tt
start_line (Some k) n h = omega (arith, h)

pub small_line : (l : Line) (n : ℕ) → n < 9223372036854775808 → IfSome l (λ k. k ≤ n) → IfSome l (λ k. k < 9223372036854775808)
small_line None n le h = tt
small_line (Some k) n le h = omega (arith, le, h)

pub next_line : (l : Line) (b n m : ℕ) → m ≡ n + 1 → IfSome l (λ k. k ≤ n) → IfSome (line_after l b) (λ k. k ≤ m)
next_line l b n m e h = go (b == 10) (is_blank b) l h
  where
    go : (x y : Bool) (l : Line) → IfSome l (λ k. k ≤ n) → IfSome (if x then Some 0 else if y then one_more l else None) (λ k. k ≤ m)
    go true y l h = omega arith
    go false false l h = tt
    go false true None h = tt
    go false true (Some k) h = omega (arith, e, h)

module _ (names : List (List ℕ)) (n : ℕ) (t : List ℕ) (l : Line) (bs : List ℕ) (target : List ℕ × Spot) (so_far : text_run names n t l bs ≡ target) where
  pub at_other : (o : code.Front) → 0 < n → view.front_view o ≡ front_at names bs → ((b : ℕ) (r : Bor (List ℕ)) → o ≡ fronts.Plain b r → ⊥) → ((x r : Bor (List ℕ)) → o ≡ fronts.Raw x r → ⊥) → target ≡ (t, (l, bs))
  at_other fronts.Finish left e no_plain no_raw = sym (met names n t l bs target so_far finish left e)
  at_other (fronts.Plain b r) left e no_plain no_raw = absurd (no_plain b r refl)
  at_other (fronts.Raw x r) left e no_plain no_raw = absurd (no_raw x r refl)
  at_other fronts.Unclosed left e no_plain no_raw = sym (met names n t l bs target so_far unclosed left e)
  at_other fronts.Escape left e no_plain no_raw = sym (met names n t l bs target so_far bad_escape left e)
  at_other (fronts.Reference q b x r) left e no_plain no_raw = sym (met names n t l bs target so_far (reference q b x.now r.now) left e)
  at_other (fronts.LineComment r) left e no_plain no_raw = sym (met names n t l bs target so_far (line_comment r.now) left e)
  at_other (fronts.LongComment r) left e no_plain no_raw = sym (met names n t l bs target so_far (long_comment r.now) left e)
  at_other (fronts.Directive w r) left e no_plain no_raw = sym (met names n t l bs target so_far (directive (word_of w) r.now) left e)
