-- Rows under their own names.
use Rattle.std.proofs.Common.{◌≡◌, ◌∙◌, sym, ap, ℕ, List, true, Option, Some, None, IfSome}
use Rattle.std.specs.Str.{bytes_eq}
use Rattle.std.proofs.lemmas.Slice.Eq.{bytes_eq-Decides}
use Rattle.keeper_core.specs.Lists.{Lists, is_key, key_row}
use Rattle.keeper_core.specs.declared.rows.KeyRow.{KeyRow}
use Rattle.book_rules.proofs.Viewing.{found_holds}

same_text : (a b : List ℕ) → bytes_eq a b ≡ true → a ≡ b
same_text a b e = (bytes_eq-Decides a b).0 e

-- a key's row stands under its own name
pub key_stands : (lists : Lists) (key : List ℕ) (found : Option KeyRow) → found ≡ key_row lists key → IfSome found (λ row. key_row lists row.key ≡ Some row)
key_stands lists key None e = tt
key_stands lists key (Some row) e = ap (key_row lists) (same_text row.key key (found_holds (is_key key) lists.keys row (sym e))) ∙ sym e
