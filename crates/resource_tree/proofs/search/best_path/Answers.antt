use Rattle.std.proofs.Common.{◌≡◌, length, sym, ap, ◌∙◌, subst, true, false, []}
use Rattle.std.specs.List.{list_all}
use Rattle.resource_tree.specs.Matching.{path_at}
use Rattle.resource_tree.specs.Nodes.{takes_front, takes_all as takes_all_of, node_at, depth_at, parts_at, IsWhole}
use Rattle.resource_tree.specs.Spelling.{has_bytes}
use Rattle.resource_tree.proofs.Fronts.{none_empty, whole_match}
use Rattle.resource_tree.proofs.Sought.{read_at, down, skip, found, nothing}
use Rattle.resource_tree.proofs.search.best_path.Goals as goal
use Rattle.resource_tree.proofs.search.best_path.Goals.{else-node-parts-via-then-node-parts+else-takes_all, else-node-parts-via-else-node-parts}

pub returns-then-not-none_is_empty-clause-none : goal.returns-then-not-none_is_empty-clause-none
returns-then-not-none_is_empty-clause-none c = λ k l.
    none_empty (path_at c.args.paths.now k) c.args.segments.now (c.requires.table.last k [] l) (sym c.none_is_empty.ensures ∙ c.if-not-none_is_empty.true)

pub loop-at-preserved-then-not-takes_last : goal.loop-at-preserved-then-not-takes_last
loop-at-preserved-then-not-takes_last c =
    let paths = c.args.paths.now in
    let nodes = c.args.nodes.now in
    let segments = c.args.segments.now in
    let at = c.loop-at.at in
    let index = c.requires.index in
    let parts : c.as_slice-parts.result.now ≡ parts_at paths nodes at =
    read_at paths (node_at nodes at).path c.index-paths-node.result c.as_slice-parts.result.now (index.preorder.path at c.loop-at-test.true) c.index-paths-node.is c.as_slice-parts.ensures in
    let refused : takes_front (depth_at nodes at) (parts_at paths nodes at) segments ≡ false =
    ap (λ p. takes_front (depth_at nodes at) p segments) (sym parts) ∙ sym c.takes_last.ensures ∙ c.if-not-takes_last.true in
    skip paths nodes segments c.requires.table index.preorder at _ c.loop-at.invariant c.loop-at-test.true (index.ends at c.loop-at-test.true) refused

pub returns-then-takes_all-clause-best : goal.returns-then-takes_all-clause-best
returns-then-takes_all-clause-best c =
    let paths = c.args.paths.now in
    let nodes = c.args.nodes.now in
    let segments = c.args.segments.now in
    let at = c.loop-at.at in
    let index = c.requires.index in
    let parts : c.as_slice-parts.result.now ≡ parts_at paths nodes at =
    read_at paths (node_at nodes at).path c.index-paths-node.result c.as_slice-parts.result.now (index.preorder.path at c.loop-at-test.true) c.index-paths-node.is c.as_slice-parts.ensures in
    let taken : takes_front (depth_at nodes at) (parts_at paths nodes at) segments ≡ true =
    ap (λ p. takes_front (depth_at nodes at) p segments) (sym parts) ∙ sym c.takes_last.ensures ∙ c.if-not-takes_last.false in
    let some : list_all has_bytes segments ≡ true = sym c.none_is_empty.ensures ∙ c.if-not-none_is_empty.false in
    let whole : IsWhole paths nodes at = c.if-node-parts.true ∙ ap length parts in
    let last = c.requires.table.last (node_at nodes at).path [] (index.preorder.path at c.loop-at-test.true) in
    let all = whole_match (parts_at paths nodes at) segments last some (subst (λ n. takes_front n (parts_at paths nodes at) segments ≡ true) whole taken) in
    found paths nodes segments c.requires.table index.preorder at index.covered c.loop-at.invariant c.loop-at-test.true whole
    (all ∙ ap (λ p. takes_all_of p segments) (sym parts) ∙ sym c.takes_all.ensures ∙ c.if-takes_all.true)

pub loop-at-preserved : goal.loop-at-preserved
loop-at-preserved c =
    let paths = c.args.paths.now in
    let nodes = c.args.nodes.now in
    let segments = c.args.segments.now in
    let at = c.loop-at.at in
    let index = c.requires.index in
    let parts : c.as_slice-parts.result.now ≡ parts_at paths nodes at =
    read_at paths (node_at nodes at).path c.index-paths-node.result c.as_slice-parts.result.now (index.preorder.path at c.loop-at-test.true) c.index-paths-node.is c.as_slice-parts.ensures in
    let taken : takes_front (depth_at nodes at) (parts_at paths nodes at) segments ≡ true =
    ap (λ p. takes_front (depth_at nodes at) p segments) (sym parts) ∙ sym c.takes_last.ensures ∙ c.if-not-takes_last.false in
    let some : list_all has_bytes segments ≡ true = sym c.none_is_empty.ensures ∙ c.if-not-none_is_empty.false in
    let last = c.requires.table.last (node_at nodes at).path [] (index.preorder.path at c.loop-at-test.true) in
    down paths nodes segments c.requires.table index.preorder at c.loop-at.invariant c.loop-at-test.true taken
    (λ whole.
    whole_match (parts_at paths nodes at) segments last some (subst (λ n. takes_front n (parts_at paths nodes at) segments ≡ true) whole taken)
    ∙ ap (λ p. takes_all_of p segments) (sym parts)
    ∙ elim c.else-node-parts.branch [
      | else-node-parts-via-then-node-parts+else-takes_all w ↦ sym w.takes_all.ensures ∙ w.if-takes_all.false
      | else-node-parts-via-else-node-parts w ↦ absurd (w.if-node-parts.false (whole ∙ sym (ap length parts)))
    ])

pub returns-clause-none : goal.returns-clause-none
returns-clause-none c =
    nothing c.args.paths.now c.args.nodes.now c.args.segments.now c.requires.table c.requires.index.preorder c.loop-at.at c.requires.index.covered c.loop-at.invariant c.loop-at-test.false
