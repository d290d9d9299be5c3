use Rattle.std.proofs.Common.{◌≡◌, ◌++◌, drop, length, map}
use Rattle.json_subset.specs.Documents.{form, part, root_tree}
use Rattle.json_values.specs.Parts.{entries_of}
use Rattle.api_parts.specs.Reading.{each}
use Rattle.api_resources.specs.Paths.{IsTold}
use Rattle.api_resources.specs.Resources.{no_resources, path_of, paths_of, resources_member}
use Rattle.api_resources.proofs.resources.read_each.Given as goal

abbrev pub invariant-loop-i : goal.invariant-loop-i
invariant-loop-i l = record {
  same : each (resources_member (root_tree l.doc) l.paths) l.read (drop l.i (entries_of (form (part l.doc l.id)))) ≡ each (resources_member (root_tree l.doc) l.paths) no_resources (entries_of (form (part l.doc l.id)));
  told : IsTold l.paths l.built.fault l.i l.read.waiting;
  place : l.i ≡ length l.read.list;
  path : map path_of l.read.list ++ paths_of (drop l.i (entries_of (form (part l.doc l.id)))) ≡ l.paths;
}
