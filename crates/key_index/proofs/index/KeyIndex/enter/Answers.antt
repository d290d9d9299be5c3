use Rattle.std.proofs.Common.{◌∙◌, sym, ap, Some}
use Rattle.std.specs.Map.{update}
use Rattle.std.specs.Str.{bytes_eq}
use Rattle.std.specs.String.{string_bytes}
use Rattle.std.proofs.lemmas.Map.Text.{btree_map_updates_text}
use Rattle.key_index.specs.Indexes.{key_in}
use Rattle.key_index.proofs.Names.{by-text}
use Rattle.key_index.proofs.index.KeyIndex.enter.Goals as goal

pub returns-clause-entered : goal.returns-clause-entered
returns-clause-entered c v =
    sym (by-text c.insert.new.self v)
    ∙ btree_map_updates_text (string_bytes c.in_ok-value.value) c.self.inside.names c.insert.new.self (Some c.of-name.result) c.in_ok-insert.ensures.updates v
    ∙ ap (λ found. update bytes_eq (λ w. found) (string_bytes c.in_ok-value.value) (Some c.of-name.result) v) (by-text c.self.inside.names v ∙ ap (λ entries. key_in entries v) c.self.view_is)
    ∙ ap (λ value. update bytes_eq (λ w. key_in c.args.self.now v) value (Some c.of-name.result) v) c.in_ok-value.ensures.ok
    ∙ ap (λ key. update bytes_eq (λ w. key_in c.args.self.now v) c.args.value.now (Some key) v) (c.of-name.ensures ∙ c.in_ok-from_str.ensures.ok)
