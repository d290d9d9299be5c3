use Rattle.std.proofs.Common.{◌≡◌, ℕ, List, Some, rules, subst, false}
use Rattle.std.specs.BTreeMap.{get_by_text}
use Rattle.std.specs.Map.{update}
use Rattle.std.specs.Str.{bytes_eq}
use Rattle.std.specs.String.{string_bytes}
use Rattle.std.proofs.lemmas.Map.Text.{btree_map_updates_text}
use Rattle.json_subset.specs.Numbered.{has_name}
use Rattle.json_subset.proofs.Names.{entered}
use Rattle.json_subset.proofs.reader.enter.Goals as goal

pub returns-clause-names : goal.returns-clause-names
returns-clause-names c =
    let same : string_bytes c.in_ok-kept.kept ≡ string_bytes c.args.name = search rules in
    let fresh : has_name c.args.names.now (string_bytes c.args.name) ≡ false = search rules in
    let P : List ℕ → Type 0 = λ z. (q : List ℕ) → get_by_text c.insert.new.self q ≡ update bytes_eq (get_by_text c.args.names.now) z (Some c.args.count) q in
    entered (get_by_text c.args.names.now) (get_by_text c.insert.new.self) (string_bytes c.args.name) c.args.count fresh
    (subst P same (btree_map_updates_text (string_bytes c.in_ok-kept.kept) c.args.names.now c.insert.new.self (Some c.args.count) c.in_ok-insert.ensures.updates))
