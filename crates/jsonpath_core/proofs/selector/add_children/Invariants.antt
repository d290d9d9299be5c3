use Rattle.std.proofs.Common.{◌≡◌, ◌++◌, drop, map}
use Rattle.std.specs.Prelude.{All}
use Rattle.json_subset.specs.Documents.{IsPart, form, part}
use Rattle.jsonpath_core.specs.Selecting.{children}
use Rattle.jsonpath_core.proofs.selector.add_children.Given as goal

-- what was found, and the children that are left
abbrev pub invariant-loop-i : goal.invariant-loop-i
invariant-loop-i l = record {
  parts : All (IsPart l.doc) l.found.items;
  so_far : map (part l.doc) l.found.items ++ drop l.i (children (form (part l.doc l.node))) ≡ map (part l.doc) l.initial.found.items ++ children (form (part l.doc l.node));
}
