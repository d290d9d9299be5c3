use Rattle.std.proofs.Common.{rules, ap, ◌∙◌, ◌++◌, ◌∷◌, []}
use Rattle.vtl_eval.specs.Views.{scene_of, names_of}
use Rattle.vtl_eval.proofs.Names.{names_set, names_push}
use Rattle.vtl_eval.proofs.run.set_name.Goals as goal

pub returns-then-i-len : goal.returns-then-i-len
returns-then-i-len c =
    ap (λ n. record (scene_of c.args.run.now) { names = n }) (names_set c.args.run.now.names.items c.args.name.now c.args.value c.place-i.result c.index_mut.result.now (search rules) (search rules) c.index_mut.ensures.value)

pub returns-in_ok-push : goal.returns-in_ok-push
returns-in_ok-push c =
    ap (λ n. record (scene_of c.args.run.now) { names = n })
    (ap names_of (c.in_ok-push.ensures.items ∙ ap (λ n. c.args.run.now.names.items ++ (n, c.args.value) ∷ []) (search rules)) ∙ names_push c.args.run.now.names.items c.args.name.now c.args.value c.place-i.result (search rules) (search rules))
