-- Rows of an answer that are put one by one.
use Rattle.std.proofs.Common.{◌≡◌, ℕ, ◌+◌, ◌<◌, List, [], ◌∷◌, ◌++◌, length, take, refl, sym, ap, subst, ◌∙◌}
use Rattle.std.specs.Prelude.{slice_index_or}
use Rattle.std.proofs.lemmas.List.{take_more}
use Rattle.sqlite_value.specs.declared.value.Value.{Value}
use Rattle.keeper_core.specs.Lists.{Lists, put, put_all}
use Rattle.keeper_core.specs.declared.rows.Row.{Row}
use Rattle.keeper_core.specs.declared.table.Table.{Table}
use Rattle.keeper_sqlite.specs.Answers.{IsRowOf, AreRowsOf, IsPut}

one_more_row : (table : Table) (answer : List (List Value)) (rows : List Row) (values : List Value) (row : Row)
    → AreRowsOf table answer rows → IsRowOf table values row → AreRowsOf table (answer ++ values ∷ []) (rows ++ row ∷ [])
one_more_row table [] [] values row before is = (is, tt)
one_more_row table [] (other ∷ rows) values row before is = absurd before
one_more_row table (others ∷ answer) [] values row before is = absurd before
one_more_row table (others ∷ answer) (other ∷ rows) values row before is = (before.0, one_more_row table answer rows values row before.1 is)

put_one_more : (rows : List Row) (row : Row) (lists : Lists) → put_all (rows ++ row ∷ []) lists ≡ put row (put_all rows lists)
put_one_more [] row lists = refl
put_one_more (other ∷ rows) row lists = put_one_more rows row (put other lists)

-- one row of the answer more is put
pub put_next : (table : Table) (answer : List (List Value)) (i : ℕ) (row : Row) (before mid now : Lists) → i < length answer
    → IsPut table (take i answer) before mid → IsRowOf table (slice_index_or answer i []) row → now ≡ put row mid → IsPut table (take (i + 1) answer) before now
put_next table answer i row before mid now inside (rows, are, is) more put_is =
    let next : take (i + 1) answer ≡ take i answer ++ slice_index_or answer i [] ∷ [] = take_more answer i [] inside in (
      rows ++ row ∷ [],
      subst (λ front. AreRowsOf table front (rows ++ row ∷ [])) (sym next) (one_more_row table (take i answer) rows (slice_index_or answer i []) row are more),
      put_is ∙ ap (put row) is ∙ sym (put_one_more rows row before),
    )
