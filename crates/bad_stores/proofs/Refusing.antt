-- A store is refused exactly where a row of it is none that can be.
use Rattle.std.proofs.Common.{◌≡◌, inl, inr, ℕ, List, Option, Some, None, IfSome, MatchOption, refl, ap, sym, ◌∙◌, subst}
use Rattle.admin_command.specs.Ends.{AdminEnds}
use Rattle.book_rules.specs.Good.{bad_row}
use Rattle.book_rules.specs.declared.events.Limits.{Limits}
use Rattle.keeper_core.specs.Lists.{Lists}
use Rattle.keeper_core.specs.declared.table.Table.{Table}
use Rattle.outside_core.specs.Stores.{Stores, store_of}
use Rattle.serve_command.specs.Serving.{Ends, IsBadStore}
use Rattle.serve_command.specs.Shelves.{Shelves}
use Rattle.bad_stores.specs.Laws.{CountsNone, IsAdministered, IsRefused, IsServed, AdminRefusesBadStores, ServeRefusesBadStores}

-- what is said of the stores that are told
of_told : (P : Stores → Type 0) (stores : Option Stores) (told : Stores) → stores ≡ Some told → IfSome stores P → P told
of_told P stores told is said = subst (λ s. IfSome s P) is said

same_some : {R : Type 0} (a b : R) → Some a ≡ Some b → a ≡ b
same_some a b same = cc

-- tables with a bad row are none that a book opened with
none_opened : (tables opening : Lists) (bad : Table × ℕ) → bad_row tables ≡ Some bad → opening ≡ tables → bad_row opening ≡ None → ⊥
none_opened tables opening bad found is good = none_is_some (sym good ∙ ap bad_row is ∙ found)
  where
    none_is_some : {R : Type 0} {x : R} → None ≡ Some x → ⊥
    none_is_some same = cc

module _ (name : List ℕ) (old new : Shelves) (told : Stores) (is : old.stores ≡ Some told) (none : CountsNone old new) where
  -- the row that is named is the first bad one
  named : (table : Table) (row : ℕ) → IsBadStore name old new table row → bad_row (store_of name told) ≡ Some (table, row)
  named table row (inl rose) = absurd (none rose)
  named table row (inr (before, after, unused, fails, back, first)) = of_told (λ stores. bad_row (store_of name stores) ≡ Some (table, row)) old.stores told is first

  opened : (opening : Lists) → IfSome old.stores (λ stores. opening ≡ store_of name stores) → opening ≡ store_of name told
  opened opening said = of_told (λ stores. opening ≡ store_of name stores) old.stores told is said

  refused : (written now : Option (List ℕ)) (status : ℕ) (bad : Table × ℕ) (table : Table) (row : ℕ) → bad_row (store_of name told) ≡ Some bad
      → IsBadStore name old new table row → IsRefused old new written now status (table, row) → IsRefused old new written now status bad
  refused written now status bad table row found is_bad is_refused =
      subst (IsRefused old new written now status) (same_some (table, row) bad (sym (named table row is_bad) ∙ found)) is_refused

  -- none is named where none is bad
  not_named : (table : Table) (row : ℕ) → bad_row (store_of name told) ≡ None → IsBadStore name old new table row → ⊥
  not_named table row found is_bad = none_is_some (sym found ∙ named table row is_bad)
    where
      none_is_some : {R : Type 0} {x : R} → None ≡ Some x → ⊥
      none_is_some same = cc

  module _ (limits : Limits) (written now : Option (List ℕ)) (status : ℕ) where
    admin_by : (lines : List (List ℕ)) (found : Option (Table × ℕ)) → bad_row (store_of name told) ≡ found → AdminEnds limits name lines old new written now status
        → MatchOption found (IsAdministered limits name lines old new told written now status) (IsRefused old new written now status)
    admin_by lines None e (inl (base, came, over, administers, answered, wrote)) =
        record {
          base = base;
          came = came;
          over = over;
          opening = opened base.opening over.opening;
          administers = administers;
          answered = answered;
          wrote = wrote;
        }
    admin_by lines None e (inr (is_one, bad)) = absurd (not_named bad.0 bad.1 e bad.2)
    admin_by lines (Some bad) e (inl (base, came, over, administers, answered, wrote)) =
        absurd (none_opened (store_of name told) base.opening bad e (opened base.opening over.opening) over.good)
    admin_by lines (Some bad) e (inr (is_one, named)) = refused written now status bad named.0 named.1 e named.2 (is_one, named.3, named.4)

    serve_by : (number : ℕ) (found : Option (Table × ℕ)) → bad_row (store_of name told) ≡ found → Ends limits name number old new written now status
        → MatchOption found (IsServed limits name number old new told written now status) (IsRefused old new written now status)
    serve_by number None e (inl (full, last, held, wants, port, ended, answered, wrote)) =
        record {
          full = full;
          last = last;
          held = held;
          opening = opened held.base.opening held.opening;
          ended = ended;
          answered = answered;
          wrote = wrote;
        }
    serve_by number None e (inr (table, row, is_bad, apart, is_one, wrote)) = absurd (not_named table row e is_bad)
    serve_by number (Some bad) e (inl (full, last, held, wants, port, ended, answered, wrote)) =
        absurd (none_opened (store_of name told) held.base.opening bad e (opened held.base.opening held.opening) held.good)
    serve_by number (Some bad) e (inr (table, row, is_bad, apart, is_one, wrote)) = refused written now status bad table row e is_bad (is_one, apart, wrote)

pub admin_refuses : AdminRefusesBadStores
admin_refuses limits name lines old new told written now status is none ends =
    admin_by name old new told is none limits written now status lines (bad_row (store_of name told)) refl ends

pub serve_refuses : ServeRefusesBadStores
serve_refuses limits name number old new told written now status is none ends =
    serve_by name old new told is none limits written now status number (bad_row (store_of name told)) refl ends
