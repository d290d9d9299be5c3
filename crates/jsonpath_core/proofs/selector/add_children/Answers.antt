use Rattle.std.proofs.Common.{◌+◌, ◌++◌, drop, map, subst, ap, ◌∙◌, sym, arith}
use Rattle.std.specs.Prelude.{All}
use Rattle.json_subset.specs.Documents.{form, part, IsPart}
use Rattle.jsonpath_core.specs.Selecting.{children}
use Rattle.jsonpath_core.proofs.Children.{child_added, no_child, parts_added}
use Rattle.jsonpath_core.proofs.selector.add_children.Goals as goal
use Rattle.jsonpath_core.proofs.selector.add_children.Goals.{in-Some+in_ok-push, in_default}

pub loop-i-preserved : goal.loop-i-preserved
loop-i-preserved c =
    let d = c.args.doc.now in
    let f = part d in
    let all = children (form (f c.args.node)) in
    elim c.match-child.branch [
      | in-Some+in_ok-push w ↦ record {
        parts = subst (λ v. All (IsPart d) v.items) (sym w.found-is)
            (subst (λ xs. All (IsPart d) xs) (sym w.in_ok-push.ensures.items) (parts_added d c.loop-i.found.items w.in-Some.one c.loop-i.invariant.parts w.in-Some.ensures.0));
        so_far = ap (λ v. map f v.items ++ drop (c.loop-i.i + 1) all) w.found-is
            ∙ ap (λ xs. map f xs ++ drop (c.loop-i.i + 1) all) w.in_ok-push.ensures.items
            ∙ child_added f c.loop-i.found.items w.in-Some.one all c.loop-i.i w.in-Some.ensures.1
            ∙ c.loop-i.invariant.so_far;
      }
      | in_default w ↦ absurd (no_child all c.loop-i.i (omega (arith, c.child_count-i-end.ensures, c.loop-i-test.true)) w.in_default.ensures)
    ]
