use Rattle.std.proofs.Common.{ap, ◌∙◌}
use Rattle.json_values.specs.Values.{form_of}
use Rattle.schema_rules.specs.Cases.{schemas_in, tree_in}
use Rattle.schema_rules.specs.Verdict.{member_parts}
use Rattle.schema_rules.proofs.Judged.{member_found, members_map}
use Rattle.schema_rules.proofs.parts.member_named.Goals as goal

pub returns-in-Object-clause-found : goal.returns-in-Object-clause-found
returns-in-Object-clause-found c =
    let alike = c.value_at.ensures.alike ∙ ap (form_of (tree_in c.args.case.now)) c.in-Object.is in
    member_found c.args.case.now c.args.i _ _ _ (ap (member_parts (schemas_in c.args.case.now)) alike ∙ members_map (schemas_in c.args.case.now) (tree_in c.args.case.now) c.in-Object.members.list.items) c.named.ensures.value
