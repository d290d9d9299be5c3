use Rattle.std.proofs.Common.{◌≡◌, ℕ, List, Some, subst}
use Rattle.std.specs.Map.{update}
use Rattle.std.specs.Str.{bytes_eq}
use Rattle.std.specs.String.{string_bytes}
use Rattle.std.specs.BTreeMap.{get_by_text}
use Rattle.std.proofs.lemmas.Map.Text.{btree_map_updates_text}
use Rattle.vtl_values.proofs.places.note.Goals as goal

pub returns : goal.returns
returns c =
    let P : List ℕ → Type 0 = λ z. (q : List ℕ) → get_by_text c.insert.new.self q ≡ update bytes_eq (get_by_text c.args.places.now) z (Some c.args.n) q in
    subst P c.in_ok-name.ensures.ok (btree_map_updates_text (string_bytes c.in_ok-name.name) c.args.places.now c.insert.new.self (Some c.args.n) c.in_ok-insert.ensures.updates)
