-- The bytes of a value, as a part of the text.
use Rattle.std.proofs.Common.{◌≡◌, ℕ, ◌-◌, ◌≤◌, List, ◌++◌, length, take, drop, sym, ap, ◌∙◌, subst, arith, append_assoc, length-append}
use Rattle.std.specs.Prelude.{slice_range}
use Rattle.std.specs.Str.{IsUtf8, IsCharBoundary}
use Rattle.std.proofs.Math.Seq.{drop-append_seam}
use Rattle.std.proofs.lemmas.Str.{IsCharBoundary-at_seam}
use Rattle.json_subset.specs.Places.{IsRest}

pub rest_le : {a b : List ℕ} → IsRest a b → length b ≤ length a
rest_le {b = b} p = let e = ap length p.joined in let l = length-append p.front b in omega (arith, e, l)

module _ (s a b : List ℕ) (u : IsUtf8 s) (p : IsRest s a) (q : IsRest a b) where
  first_at : length s - length a ≡ length p.front
  first_at = let e = ap length p.joined in let l = length-append p.front a in omega (arith, e, l)

  past_at : length s - length b ≡ length (p.front ++ q.front)
  past_at =
      let e = ap length p.joined in
      let l = length-append p.front a in
      let f = ap length q.joined in
      let m = length-append q.front b in
      let k = length-append p.front q.front in
      omega (arith, e, l, f, m, k)

  pub span_ordered : length s - length a ≤ length s - length b
  span_ordered = let k = length-append p.front q.front in omega (arith, first_at, past_at, k)

  pub span_source : slice_range s (length s - length a) (length s - length b) ≡ take (length a - length b) a
  span_source =
      let e = ap length p.joined in
      let l = length-append p.front a in
      let f = ap length q.joined in
      let m = length-append q.front b in
      let count : length s - length b - (length s - length a) ≡ length a - length b = omega (arith, e, l, f, m) in
      ap (λ k. take k (drop (length s - length a) s)) count
      ∙ ap (λ k. take (length a - length b) (drop k s)) first_at
      ∙ ap (λ z. take (length a - length b) (drop (length p.front) z)) p.joined
      ∙ ap (take (length a - length b)) (drop-append_seam p.front a)

  pub span_front : IsCharBoundary s (length s - length a)
  span_front =
      let B : ℕ → Type 0 = λ k. IsCharBoundary s k in
      subst B (sym first_at) (IsCharBoundary-at_seam s p.front a p.joined p.utf8)

  pub span_back : IsCharBoundary s (length s - length b)
  span_back =
      let B : ℕ → Type 0 = λ k. IsCharBoundary s k in
      let joined : s ≡ (p.front ++ q.front) ++ b = p.joined ∙ ap (λ z. p.front ++ z) q.joined ∙ sym (append_assoc p.front q.front b) in
      subst B (sym past_at) (IsCharBoundary-at_seam s (p.front ++ q.front) b joined q.utf8)
