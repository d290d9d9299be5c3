use Rattle.std.proofs.Common.{◌≡◌, Ok, map, rules}
use Rattle.json_subset.specs.Documents.{part}
use Rattle.schema_draft4.specs.Compiled.{linked_schemas}
use Rattle.schema_draft4.specs.Cycles.{linked}
use Rattle.schema_rules.specs.Views.{rules_in}
use Rattle.schema_draft4.proofs.Back.{cycle_or_none}
use Rattle.schema_draft4.proofs.schema.Schema.read.Goals as goal

pub returns-clause-fault : goal.returns-clause-fault
returns-clause-fault c =
    let e : linked_schemas (part c.args.doc.now c.args.id) ≡ Ok (linked (map rules_in c.read_schema.new.nodes.items) c.in_ok-root.root, c.in_ok-root.root) = search rules in
    cycle_or_none c.args.doc.now c.compile.result (part c.args.doc.now c.args.id) _ _ _ e c.in_ok-definitions.ensures.list c.compile.ensures.fault
