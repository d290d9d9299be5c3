use Rattle.std.proofs.Common.{◌≡◌, ℕ, List, true, subst}
use Rattle.std.specs.Prelude.{if◌then◌else◌}
use Rattle.std.specs.BTreeSet.{contains_text}
use Rattle.std.specs.Str.{bytes_eq}
use Rattle.std.specs.String.{string_bytes}
use Rattle.std.proofs.lemmas.Map.Text.{btree_set_updates_text}
use Rattle.schema_rules.proofs.names.enter.Goals as goal

pub returns : goal.returns
returns c =
    let named : string_bytes c.in_ok-key.key ≡ c.args.name.now = c.in_ok-key.ensures in
    let P : List ℕ → Type 0 = λ z. (q : List ℕ) → contains_text c.insert.new.self q ≡ (if bytes_eq z q then true else contains_text c.args.index.now q) in
    subst P named (btree_set_updates_text (string_bytes c.in_ok-key.key) c.args.index.now c.insert.new.self true c.in_ok-insert.ensures.updates)
