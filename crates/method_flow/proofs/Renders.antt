-- Renders whose writes are let go.
use Rattle.std.proofs.Common.{◌≡◌, ◌≢◌, Result, Ok, Err, IfOk, IfErr, ap}
use Rattle.vtl_eval.specs.Roots.{Kept}
use Rattle.vtl_eval.specs.declared.stop.Rendered.{Rendered}
use Rattle.vtl_eval.specs.declared.stop.Stop.{Stop}
use Rattle.vtl_eval.specs.declared.stop.Stop.TheVariants.{Memory}
use Rattle.method_flow.specs.Answers.{without_writes}

pub made_is : (r : Result Rendered Stop) (run : Result (Rendered × Kept) (Stop × Kept)) (kept : Kept) → IfOk r (λ x. run ≡ Ok (x, kept)) → IfOk r (λ x. without_writes run ≡ Ok x)
made_is (Ok x) run kept h = ap without_writes h
made_is (Err e) run kept h = tt

pub met_is : (r : Result Rendered Stop) (run : Result (Rendered × Kept) (Stop × Kept)) (kept : Kept) → IfErr r (λ e. e ≢ Memory → run ≡ Err (e, kept))
    → IfErr r (λ e. e ≢ Memory → without_writes run ≡ Err e)
met_is (Ok x) run kept h = tt
met_is (Err e) run kept h = λ ne. ap without_writes (h ne)
