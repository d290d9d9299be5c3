use Rattle.std.proofs.Common.{◌≡◌, ℕ, List, Some, subst}
use Rattle.std.specs.Map.{update}
use Rattle.std.specs.Str.{bytes_eq}
use Rattle.std.specs.String.{string_bytes}
use Rattle.std.specs.BTreeMap.{get_by_text}
use Rattle.std.proofs.lemmas.Map.Text.{btree_map_updates_text}
use Rattle.status_table.proofs.Kept.{kept_more}
use Rattle.status_table.proofs.tables.insert_table.Goals as goal

pub returns : goal.returns
returns c =
    let updated : (q : List ℕ) → get_by_text c.insert.new.self q ≡ update bytes_eq (get_by_text c.args.tables.now) (string_bytes c.args.pattern) (Some c.args.table) q = btree_map_updates_text (string_bytes c.args.pattern) c.args.tables.now c.insert.new.self (Some c.args.table) c.in_ok-insert.ensures.updates in
    let P : List ℕ → Type 0 = λ z. (q : List ℕ) → get_by_text c.insert.new.self q ≡ update bytes_eq (get_by_text c.args.tables.now) (string_bytes c.args.pattern) (Some z) q in
    kept_more c.args.tables.now c.insert.new.self (string_bytes c.args.pattern) c.requires.kept c.requires.read (subst P c.requires.pattern updated)
