use Rattle.std.proofs.Common.{◌≡◌, sym, true, false, ℕ, List, Some, subst}
use Rattle.std.specs.Map.{update}
use Rattle.std.specs.Str.{bytes_eq}
use Rattle.std.specs.Prelude.{is_some}
use Rattle.std.specs.String.{string_bytes}
use Rattle.std.specs.BTreeMap.{get_by_text}
use Rattle.std.proofs.lemmas.Map.Text.{btree_map_updates_text}
use Rattle.json_values.proofs.Lookups.{entered_before, entered_new}
use Rattle.json_values.proofs.read.enter.Goals as goal

pub returns-then-contains_key : goal.returns-then-contains_key
returns-then-contains_key c =
    let there : is_some (get_by_text c.args.index.now c.args.name.now) ≡ true = sym c.if-contains_key.ensures in
    entered_before (get_by_text c.args.index.now) c.args.name.now c.args.k there

pub returns : goal.returns
returns c =
    let absent : is_some (get_by_text c.args.index.now c.args.name.now) ≡ false = sym c.if-contains_key.ensures in
    let named : string_bytes c.in_ok-key.key ≡ c.args.name.now = c.in_ok-key.ensures in
    let updated : (q : List ℕ) → get_by_text c.insert.new.self q ≡ update bytes_eq (get_by_text c.args.index.now) (string_bytes c.in_ok-key.key) (Some c.args.k) q = btree_map_updates_text (string_bytes c.in_ok-key.key) c.args.index.now c.insert.new.self (Some c.args.k) c.in_ok-insert.ensures.updates in
    let P : List ℕ → Type 0 = λ z. (q : List ℕ) → get_by_text c.insert.new.self q ≡ update bytes_eq (get_by_text c.args.index.now) z (Some c.args.k) q in
    entered_new (get_by_text c.args.index.now) (get_by_text c.insert.new.self) c.args.name.now c.args.k absent (subst P named updated)
