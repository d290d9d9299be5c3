-- References in expressions, in strings and in text.
use Rattle.std.proofs.Common.{◌≡◌, ℕ, List, refl, sym, ◌∙◌, ap, Ok, Err}
use Rattle.vtl_grammar.specs.Tree.{Base, Steps, reference, printed, output}
use Rattle.vtl_values.specs.Val.{Val}
use Rattle.vtl_eval.specs.Roots.{Meanings, Kept}
use Rattle.vtl_eval.specs.World.{Scene, State, Outcome, ◌>>=◌, there, spend, written}
use Rattle.vtl_eval.specs.References.{ended}
use Rattle.vtl_eval.specs.Meaning.{value, started, walked, piece, meaning, shown}
use Rattle.vtl_eval.specs.Evaluated.{referred}
use Rattle.vtl_eval.specs.Views.{Fails}
use Rattle.vtl_eval.specs.declared.stop.Ended.{Ended}
use Rattle.vtl_eval.specs.declared.stop.Ended.TheVariants.{Ran}
use Rattle.vtl_eval.specs.declared.stop.Fail.{Fail}
use Rattle.vtl_eval.specs.declared.stop.Fail.TheVariants.{Memory, Met}
use Rattle.vtl_eval.proofs.Chains.{assoc}

two : {A B C D : Type 0} (o : Outcome A) (f : A × State → Outcome B) (g : B × State → Outcome C) (h : C × State → Outcome D) → (o >>= λ r. (f r >>= λ q. (g q >>= h))) ≡ ((o >>= λ r. (f r >>= g)) >>= h)
two (Ok r) f g h = sym (assoc (f r) g h)
two (Err e) f g h = refl

-- a call that fails, and what was to follow it
pub fails_then : {A B : Type 0} (e : Fail) (kept : Kept) (o : Outcome B) (p : Outcome A) (f : A × State → Outcome B) → o ≡ (p >>= f) → Fails e kept p → Fails e kept o
fails_then Memory kept o p f is h = tt
fails_then (Met l) kept o p f is h = is ∙ ap (λ z. z >>= f) h

module _ (b : ℕ) (m : Meanings) (x : Base) (ss : Steps) (s t : Scene) (kept : Kept) (spent : spend b s ≡ Ok t) where
  pub value_refers : value b m (reference x ss) (s, kept) ≡ referred b m x ss (t, kept)
  value_refers = ap (λ z. there z kept >>= λ u. referred b m x ss u.1) spent

  pub piece_refers : (source : List ℕ) → piece b m (printed source x ss) (s, kept) ≡ (referred b m x ss (t, kept) >>= λ v. Ok (shown source v.0, v.1))
  piece_refers source =
      let last : Val × State → Outcome (List ℕ) = λ v. Ok (shown source v.0, v.1) in
      ap (λ z. there z kept >>= λ u. (started b m x u.1 >>= λ r. (walked b m ss r.0 r.1 >>= λ q. (ended m q.0 q.1 >>= last)))) spent
      ∙ two (started b m x (t, kept)) (λ r. walked b m ss r.0 r.1) (λ q. ended m q.0 q.1) last

  pub output_refers : (source : List ℕ) → meaning b m (output source x ss) (s, kept) ≡ (referred b m x ss (t, kept) >>= λ v. (written (shown source v.0) v.1 >>= λ w. Ok (Ran, w.1)))
  output_refers source =
      let last : Val × State → Outcome Ended = λ v. (written (shown source v.0) v.1 >>= λ w. Ok (Ran, w.1)) in
      ap (λ z. there z kept >>= λ u. (started b m x u.1 >>= λ r. (walked b m ss r.0 r.1 >>= λ q. (ended m q.0 q.1 >>= last)))) spent
      ∙ two (started b m x (t, kept)) (λ r. walked b m ss r.0 r.1) (λ q. ended m q.0 q.1) last
