use Rattle.std.proofs.Common.{◌≡◌, length, rules}
use Rattle.json_values.specs.declared.value.Value.{Value}
use Rattle.json_values.proofs.Pushing.{mirror_push, extends_push, source_push}
use Rattle.json_values.proofs.read.add.Goals as goal

pub returns-clause-mirror : goal.returns-clause-mirror
returns-clause-mirror c = rw c.in_ok-push.ensures.items (mirror_push _ _ _ c.requires.sound c.requires.mirror c.requires.stands c.requires.below c.requires.alike)

pub returns-clause-extends : goal.returns-clause-extends
returns-clause-extends c = rw c.in_ok-push.ensures.items (extends_push _ _)

pub returns-clause-source : goal.returns-clause-source
returns-clause-source c =
    let at : c.len-k.result ≡ length c.args.values.now.items = search rules in
    let x : Value = record { id = c.args.id; form = c.args.form } in
    rw (c.in_ok-push.ensures.items, at) (source_push c.args.doc.now c.args.values.now.items x)
