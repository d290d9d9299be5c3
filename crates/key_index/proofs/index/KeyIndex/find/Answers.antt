use Rattle.std.proofs.Common.{◌∙◌, ap}
use Rattle.key_index.specs.Indexes.{key_in}
use Rattle.key_index.proofs.Names.{by-text}
use Rattle.key_index.proofs.index.KeyIndex.find.Goals as goal

pub returns : goal.returns
returns c = c.get.ensures.value ∙ by-text c.self.inside.names c.args.value.now ∙ ap (λ entries. key_in entries c.args.value.now) c.self.view_is
