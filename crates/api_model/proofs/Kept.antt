-- What a definition keeps.
use Rattle.std.proofs.Common.{◌≡◌, ℕ, true, List, ap, sym, ◌∙◌, Ok, Err, refl}
use Rattle.std.specs.Prelude.{OnOk, Result, is_ok}
use Rattle.vtl_grammar.specs.Tree.{Items}
use Rattle.vtl_grammar.specs.Templates.{read_of}
use Rattle.vtl_grammar.specs.declared.fault.TemplateFault.{TemplateFault}
use Rattle.api_parts.specs.Reading.{Read}
use Rattle.api_reading.specs.Texts.{template_by, template_of}
use Rattle.api_model.specs.Definition.{Definition, parts_in, parts_of, stated}
use Rattle.api_model.specs.Document.{Parts}

pub parts_are : (d : Definition) (p : Parts) → stated d ≡ Ok p → parts_of d ≡ p
unfolding parts_of
parts_are d p e = ap parts_in e

pub is_accepted : (d : Definition) (p : Parts) → stated d ≡ Ok p → is_ok (stated d) ≡ true
is_accepted d p e = ap is_ok e

-- what is stated is the parts
stated_parts : (d : Definition) (p : Parts) → stated d ≡ Ok p → stated d ≡ Ok (parts_of d)
stated_parts d p e = e ∙ ap Ok (sym (parts_are d p e))

pub on_ok : {A E : Type 0} (r : Result A E) (d : Definition) (p : Parts) → stated d ≡ Ok p → OnOk r (stated d ≡ Ok (parts_of d))
on_ok (Ok x) d p e = stated_parts d p e
on_ok (Err f) d p e = tt

-- a template that is read stands for its text
same_by : (s x : List ℕ) (r : Result Items TemplateFault) → ◌≡◌ {A = Read (List ℕ)} (template_by s r) (Ok x) → x ≡ s
same_by s x (Ok is) e = cc
same_by s x (Err f) e = cc

pub template_same : (s x : List ℕ) → template_of s ≡ Ok x → x ≡ s
unfolding template_of
template_same s x e = same_by s x (read_of s) e
