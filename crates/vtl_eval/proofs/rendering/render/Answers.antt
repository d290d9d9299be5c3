use Rattle.std.proofs.Common.{◌≡◌, ◌∙◌, ℕ, ap, sym, rules, Ok, Err}
use Rattle.vtl_grammar.specs.Tree.{Items}
use Rattle.vtl_grammar.specs.Templates.{tree_of}
use Rattle.vtl_grammar.specs.Expanded.{expanded, most_inside}
use Rattle.vtl_reader.specs.Nodes.{item_of, items_made}
use Rattle.vtl_reader.specs.Macros.{macros_by}
use Rattle.vtl_eval.specs.World.{begin}
use Rattle.vtl_eval.specs.Meaning.{run as run_of, rendering, finished}
use Rattle.vtl_eval.specs.Frames.{arguments_of, seen_items}
use Rattle.vtl_eval.specs.Views.{scene_of}
use Rattle.vtl_eval.specs.declared.frame.Frame as source
use Rattle.vtl_eval.specs.declared.frame.Frame.TheFolds.{the_lemmas}
use Rattle.vtl_eval.proofs.Cutting.{nothing_cut, whole_cut}
use Rattle.vtl_eval.proofs.Outermost.{none, run_expanded}
use Rattle.vtl_eval.proofs.rendering.render.Goals as goal

pub returns-clause-stop : goal.returns-clause-stop
unfolding rendering
returns-clause-stop g c = λ other.
    let ns = c.parts_with_macros.result.0.now in
    let ms = macros_by c.parts_with_macros.result.0.now c.parts_with_macros.result.1.now in
    let m = g.R.Roots.meanings c.args.roots.now in
    let kept = g.R.Roots.kept c.args.roots.now in
    let top : arguments_of ns.exprs source.Top ≡ none = search (rules, the_lemmas) in
    let whole : run_of c.args.budget m (expanded (tree_of c.args.template.now)) (begin, kept) ≡ run_of c.args.budget m (seen_items ns c.parts_with_macros.result.1.now most_inside source.Top (items_made (item_of ns) c.parts_with_macros.result.2.now)) (scene_of c.begin_run-run.result, kept) =
    run_expanded c.args.budget m ms (arguments_of ns.exprs source.Top) (tree_of c.args.template.now) (begin, kept) c.parts_with_macros.ensures.macros top
    ∙ ap (λ z. run_of c.args.budget m (seen_items ns c.parts_with_macros.result.1.now most_inside source.Top z) (begin, kept)) (sym c.parts_with_macros.ensures.tree)
    ∙ ap (λ z. run_of c.args.budget m (seen_items ns c.parts_with_macros.result.1.now most_inside source.Top (items_made (item_of ns) c.parts_with_macros.result.2.now)) (z, kept)) (sym c.begin_run-run.ensures) in
    let gave : run_of c.args.budget m (seen_items ns c.parts_with_macros.result.1.now most_inside source.Top (items_made (item_of ns) c.parts_with_macros.result.2.now)) (scene_of c.begin_run-run.result, kept) ≡ Err (c.in-Err-Met.limit, g.R.Roots.kept c.run_items.new.roots) = search rules in
    ap finished (whole ∙ gave) ∙ ap (λ z. Err (z, g.R.Roots.kept c.run_items.new.roots)) (sym c.stop_at.ensures)

pub returns-in-Ok-run_items-clause-made : goal.returns-in-Ok-run_items-clause-made
unfolding rendering
returns-in-Ok-run_items-clause-made g c =
    let ns = c.parts_with_macros.result.0.now in
    let ms = macros_by c.parts_with_macros.result.0.now c.parts_with_macros.result.1.now in
    let m = g.R.Roots.meanings c.args.roots.now in
    let kept = g.R.Roots.kept c.args.roots.now in
    let top : arguments_of ns.exprs source.Top ≡ none = search (rules, the_lemmas) in
    let whole : run_of c.args.budget m (expanded (tree_of c.args.template.now)) (begin, kept) ≡ run_of c.args.budget m (seen_items ns c.parts_with_macros.result.1.now most_inside source.Top (items_made (item_of ns) c.parts_with_macros.result.2.now)) (scene_of c.begin_run-run.result, kept) =
    run_expanded c.args.budget m ms (arguments_of ns.exprs source.Top) (tree_of c.args.template.now) (begin, kept) c.parts_with_macros.ensures.macros top
    ∙ ap (λ z. run_of c.args.budget m (seen_items ns c.parts_with_macros.result.1.now most_inside source.Top z) (begin, kept)) (sym c.parts_with_macros.ensures.tree)
    ∙ ap (λ z. run_of c.args.budget m (seen_items ns c.parts_with_macros.result.1.now most_inside source.Top (items_made (item_of ns) c.parts_with_macros.result.2.now)) (z, kept)) (sym c.begin_run-run.ensures) in
    ap finished (whole ∙ c.in-Ok-run_items.ensures.gives) ∙ ap (λ z. Ok (z, g.R.Roots.kept c.run_items.new.roots)) (sym c.finish.ensures)

pub returns-in-Err-clause-lacking : goal.returns-in-Err-clause-lacking
returns-in-Err-clause-lacking g c = λ same. nothing_cut c.args.budget (g.R.Roots.meanings c.args.roots.now) (expanded (tree_of c.args.template.now)) (g.R.Roots.kept c.args.roots.now)

pub returns-in-Err-Memory-clause-lacking : goal.returns-in-Err-Memory-clause-lacking
returns-in-Err-Memory-clause-lacking g c = λ same.
    let ns = c.parts_with_macros.result.0.now in
    let ms = macros_by c.parts_with_macros.result.0.now c.parts_with_macros.result.1.now in
    let m = g.R.Roots.meanings c.args.roots.now in
    let kept = g.R.Roots.kept c.args.roots.now in
    let top : arguments_of ns.exprs source.Top ≡ none = search (rules, the_lemmas) in
    let items : Items = seen_items ns c.parts_with_macros.result.1.now most_inside source.Top (items_made (item_of ns) c.parts_with_macros.result.2.now) in
    let whole : (n : ℕ) → run_of n m (expanded (tree_of c.args.template.now)) (begin, kept) ≡ run_of n m items (scene_of c.begin_run-run.result, kept) = λ n.
    run_expanded n m ms (arguments_of ns.exprs source.Top) (tree_of c.args.template.now) (begin, kept) c.parts_with_macros.ensures.macros top
    ∙ ap (λ z. run_of n m (seen_items ns c.parts_with_macros.result.1.now most_inside source.Top z) (begin, kept)) (sym c.parts_with_macros.ensures.tree)
    ∙ ap (λ z. run_of n m items (z, kept)) (sym c.begin_run-run.ensures) in
    whole_cut c.args.budget m (expanded (tree_of c.args.template.now)) kept (scene_of c.begin_run-run.result, kept) (λ n. run_of n m items (scene_of c.begin_run-run.result, kept)) (g.R.Roots.kept c.run_items.new.roots)
    (ap (λ z. z.nodes) c.begin_run-run.ensures) whole (rw c.in-Err-Memory.field-0-is at c.in-Err-Memory.ensures.cut)
