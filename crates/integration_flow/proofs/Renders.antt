-- Renders over roots to which nothing was written.
use Rattle.std.proofs.Common.{◌≡◌, ◌≢◌, [], Result, Ok, Err, IfOk, IfErr, subst}
use Rattle.vtl_eval.specs.Roots.{Kept}
use Rattle.vtl_eval.specs.declared.stop.Rendered.{Rendered}
use Rattle.vtl_eval.specs.declared.stop.Stop.{Stop}
use Rattle.vtl_eval.specs.declared.stop.Stop.TheVariants.{Memory}

abbrev pub Run : Type 0
Run = Kept → Result (Rendered × Kept) (Stop × Kept)

pub made_from : (r : Result Rendered Stop) (run : Run) (old new : Kept) → old ≡ [] → IfOk r (λ x. run old ≡ Ok (x, new)) → IfOk r (λ x. run [] ≡ Ok (x, new))
made_from r run old new is made = subst (λ kept. IfOk r (λ x. run kept ≡ Ok (x, new))) is made

pub met_from : (r : Result Rendered Stop) (run : Run) (old new : Kept) → old ≡ [] → IfErr r (λ e. e ≢ Memory → run old ≡ Err (e, new)) → IfErr r (λ e. e ≢ Memory → run [] ≡ Err (e, new))
met_from r run old new is met = subst (λ kept. IfErr r (λ e. e ≢ Memory → run kept ≡ Err (e, new))) is met
