-- Each template is read.
use Rattle.std.proofs.Common.{◌+◌, length, ap, sym, ◌∙◌, arith, true, false, Result, Ok, Err}
use Rattle.std.proofs.lemmas.Bool.{le-ltb}
use Rattle.vtl_grammar.specs.declared.fault.TemplateFault.{TemplateFault}
use Rattle.vtl_grammar.specs.declared.fault.TemplateFault.TheVariants as fault
use Rattle.vtl_grammar.specs.Tree.{Items}
use Rattle.vtl_grammar.specs.Faults.{◌>>=◌}
use Rattle.vtl_grammar.specs.Templates.{from_front, unless_wrong, tested, read_all, limit, read_of, items_or_none}
use Rattle.vtl_grammar.specs.Laws.{ReadsEachTemplate, HasOneTree}
use Rattle.vtl_grammar.proofs.Items.{run_read}

-- a template is read, with its tree
pub template_read : ReadsEachTemplate
unfolding read_of
template_read bs is t =
    ap (λ z. elim z as (λ _. Result Items TemplateFault) [ true ↦ Err fault.TooLong | false ↦ from_front (length bs) (read_all bs) ]) (le-ltb limit (length bs) t.small)
    ∙ ap (λ z. from_front (length bs) ((z >>= λ r. Ok r.0) >>= tested)) (run_read t.run (length bs + 1) (omega arith))
    ∙ ap (λ z. from_front (length bs) (unless_wrong is z)) t.calls

-- and has one tree
pub template_once : HasOneTree
template_once bs first second a b =
    ap items_or_none (sym (template_read bs first a) ∙ template_read bs second b)
