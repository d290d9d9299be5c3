use Rattle.std.proofs.Common.{◌≡◌, rules}
use Rattle.json_subset.specs.Numbered.{number_named}
use Rattle.json_values.proofs.Lookups.{named_below}
use Rattle.json_values.proofs.lookup.named.Goals as goal

pub returns-clause-below : goal.returns-clause-below
returns-clause-below c =
    let e : c.copied.result ≡ number_named c.args.members.now.list.items c.args.name.now = search rules in
    rw e (named_below _ _ _ c.requires.below)
