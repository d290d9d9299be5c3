-- A definition that is refused.
use Rattle.std.proofs.Common.{◌≡◌, ◌≢◌, ◌⊎◌, inl, inr, List, ℕ, Result, Ok, Err, IfOk, ap, sym, ◌∙◌}
use Rattle.api_model.specs.Definition.{Definition, stated}
use Rattle.api_parts.specs.declared.fault.ApiCause.TheVariants as cause
use Rattle.api_parts.specs.declared.fault.ApiFault.{ApiFault}
use Rattle.admin_routes.specs.Asked.{Asked, fault_line, put_by}

pub refused_is : {E : Type 0} (r : Result Asked E) (api : List ℕ) (d : Definition) (fault : ApiFault) → (fault.cause ≡ cause.Memory) ⊎ (stated d ≡ Err fault)
    → IfOk r (λ asked. (asked ≡ Err (fault_line fault)) × (fault.cause ≢ cause.Memory)) → IfOk r (λ asked. asked ≡ put_by api d (stated d))
refused_is (Ok asked) api d fault (inl memory) (is, other) = absurd (other memory)
refused_is (Ok asked) api d fault (inr told) (is, other) = is ∙ ap (put_by api d) (sym told)
refused_is (Err lack) api d fault why h = tt
