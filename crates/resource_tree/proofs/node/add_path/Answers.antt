use Rattle.std.proofs.Common.{◌≡◌, ◌≤◌, ◌+◌, length, sym, ap, subst, arith}
use Rattle.resource_tree.specs.Matching.{path_at}
use Rattle.resource_tree.proofs.Grown.{IsGrowing, grow_one}
use Rattle.resource_tree.proofs.Sought.{read_at}
use Rattle.resource_tree.proofs.node.add_path.Goals as goal

pub loop-depth-preserved : goal.loop-depth-preserved
loop-depth-preserved c =
    let paths = c.args.paths.now in
    let parts : c.as_slice-last.result.now ≡ path_at paths c.args.path =
    read_at paths c.args.path c.index-paths-path.result c.as_slice-last.result.now c.requires.path c.index-paths-path.is c.as_slice-last.ensures in
    let fits : c.loop-depth.depth ≤ length (path_at paths c.args.path) = omega (arith, ap length parts) in
    subst (λ nodes. IsGrowing paths c.args.nodes.now.items nodes c.args.path (c.loop-depth.depth + 1)) (sym c.in_ok-push.ensures.items)
    (grow_one paths c.args.nodes.now.items c.loop-depth.nodes.items c.args.path c.loop-depth.depth c.requires.path fits c.loop-depth.invariant)

pub returns-clause-grown : goal.returns-clause-grown
returns-clause-grown c =
    let paths = c.args.paths.now in
    let last = length c.as_slice-last.result.now in
    let parts : c.as_slice-last.result.now ≡ path_at paths c.args.path =
    read_at paths c.args.path c.index-paths-path.result c.as_slice-last.result.now c.requires.path c.index-paths-path.is c.as_slice-last.ensures in
    let fits : last ≤ length (path_at paths c.args.path) = omega (arith, ap length parts) in
    let end : c.loop-depth.depth ≡ last = omega (arith, c.first_depth-first.ensures.within, ap length parts) in
    (subst (λ nodes. IsGrowing paths c.args.nodes.now.items nodes c.args.path (last + 1)) (sym c.in_ok-push-2.ensures.items)
    (grow_one paths c.args.nodes.now.items c.loop-depth.nodes.items c.args.path last c.requires.path fits
    (subst (λ n. IsGrowing paths c.args.nodes.now.items c.loop-depth.nodes.items c.args.path n) end c.loop-depth.invariant))).grown
