use Rattle.std.proofs.Common.{◌∙◌, sym, ap, None}
use Rattle.std.specs.Map.{update}
use Rattle.std.specs.Str.{bytes_eq}
use Rattle.std.proofs.lemmas.Map.Text.{btree_map_updates_text}
use Rattle.key_index.specs.Indexes.{key_in}
use Rattle.key_index.proofs.Names.{by-text}
use Rattle.key_index.proofs.index.KeyIndex.leave.Goals as goal

pub returns : goal.returns
returns c v =
    sym (by-text c.remove.new.self v)
    ∙ btree_map_updates_text c.args.value.now c.self.inside.names c.remove.new.self None c.remove.ensures.updates v
    ∙ ap (λ found. update bytes_eq (λ w. found) c.args.value.now None v) (by-text c.self.inside.names v ∙ ap (λ entries. key_in entries v) c.self.view_is)
