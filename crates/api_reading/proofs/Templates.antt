-- What is read as a template.
use Rattle.std.proofs.Common.{◌≡◌, ℕ, List, Ok, Err, refl}
use Rattle.std.specs.Prelude.{IsOk, Result}
use Rattle.vtl_grammar.specs.Tree.{Items}
use Rattle.vtl_grammar.specs.declared.fault.TemplateFault.{TemplateFault}
use Rattle.api_reading.specs.Texts.{template_by}

pub template_ok : (s : List ℕ) (r : Result Items TemplateFault) → IsOk r → template_by s r ≡ Ok s
template_ok s (Ok is) h = refl
template_ok s (Err e) h = cc
