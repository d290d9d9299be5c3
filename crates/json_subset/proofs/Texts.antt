-- Where the text of a string goes on.
use Rattle.std.proofs.Common.{◌≡◌, ℕ, zero, suc, ◌-◌, ◌<◌, List, ◌++◌, sym, ap, ◌∙◌, arith}
use Rattle.std.specs.Prelude.{Ok, Err, Result}
use Rattle.json_subset.specs.declared.fault.JsonFault.{JsonFault}
use Rattle.json_subset.specs.declared.fault.JsonFault.TheVariants.{Syntax, Depth, Repeated, NotUtf8, Memory}
use Rattle.json_subset.specs.Scan.{◌>>=◌, Read, place}
use Rattle.json_subset.specs.Strings.{run, past_run, closed, adds, at_stop, on_step, text_from}
use Rattle.json_subset.specs.Views.{Fails}

text_once : (n : ℕ) (t : List ℕ) (f : ℕ) (bs : List ℕ) → 0 < f → text_from n t f bs ≡ (at_stop n (past_run bs) >>= λ s. on_step (λ u rest. text_from n u (f - 1) rest) (t ++ run bs) s)
unfolding text_from
text_once n t zero bs h = absurd (omega (arith, h))
text_once n t (suc f) bs h = let e : f ≡ suc f - 1 = omega arith in ap (λ k. at_stop n (past_run bs) >>= λ s. on_step (λ u rest. text_from n u k rest) (t ++ run bs) s) e

pub fails_then : {A B : Type 0} (e : JsonFault) (r : Result A JsonFault) (f : A → Result B JsonFault) → Fails e r → Fails e (r >>= f)
fails_then Memory r f h = tt
fails_then (Syntax n) r f h = ap (λ z. z >>= f) h
fails_then (Depth n) r f h = ap (λ z. z >>= f) h
fails_then (Repeated n) r f h = ap (λ z. z >>= f) h
fails_then (NotUtf8 n) r f h = ap (λ z. z >>= f) h

pub fails_along : {A : Type 0} (e : JsonFault) (r s : Result A JsonFault) → r ≡ s → Fails e r → Fails e s
fails_along Memory r s p h = tt
fails_along (Syntax n) r s p h = sym p ∙ h
fails_along (Depth n) r s p h = sym p ∙ h
fails_along (Repeated n) r s p h = sym p ∙ h
fails_along (NotUtf8 n) r s p h = sym p ∙ h

module _ (n : ℕ) (t : List ℕ) (f : ℕ) (bs front stop : List ℕ) (target : Read (List ℕ)) (so_far : text_from n t f bs ≡ target) (left : 0 < f) (ran : front ≡ run bs) (stops : stop ≡ past_run bs) where
  met : (at_stop n stop >>= λ s. on_step (λ u rest. text_from n u (f - 1) rest) (t ++ front) s) ≡ target
  met = ap (λ z. at_stop n z >>= λ s. on_step (λ u rest. text_from n u (f - 1) rest) (t ++ front) s) stops ∙ ap (λ z. at_stop n (past_run bs) >>= λ s. on_step (λ u rest. text_from n u (f - 1) rest) (t ++ z) s) ran ∙ sym (text_once n t f bs left) ∙ so_far

  pub text_adds : (u rest : List ℕ) → at_stop n stop ≡ Ok (adds u rest) → text_from n ((t ++ front) ++ u) (f - 1) rest ≡ target
  text_adds u rest e = ap (λ r. r >>= λ s. on_step (λ v cs. text_from n v (f - 1) cs) (t ++ front) s) (sym e) ∙ met

  pub text_closed : (rest : List ℕ) → at_stop n stop ≡ Ok (closed rest) → target ≡ Ok (t ++ front, rest)
  text_closed rest e = sym met ∙ ap (λ r. r >>= λ s. on_step (λ v cs. text_from n v (f - 1) cs) (t ++ front) s) e

  pub text_fails : (e : JsonFault) → Fails e (at_stop n stop) → Fails e target
  text_fails e h = fails_along e _ target met (fails_then e (at_stop n stop) (λ s. on_step (λ u rest. text_from n u (f - 1) rest) (t ++ front) s) h)

pub text_none : (n : ℕ) (t : List ℕ) (f : ℕ) (bs : List ℕ) (target : Read (List ℕ)) → text_from n t f bs ≡ target → f ≡ 0 → target ≡ Err (Syntax (place n bs))
unfolding text_from
text_none n t f bs target so_far e = sym so_far ∙ ap (λ k. text_from n t k bs) e
