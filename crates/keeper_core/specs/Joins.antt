-- Joins in their places, and their numbers.
use Rattle.std.specs.Prelude.{ℕ, List, [], slice_index_or}
use Rattle.keeper_core.specs.Lists.{Lists, is_join, join_behind, put_by}
use Rattle.keeper_core.specs.declared.rows.JoinRow.{JoinRow}
use Rattle.keeper_core.specs.declared.numbers.JoinNumbers.{JoinNumbers}

-- the columns of a row beside its key
abbrev pub numbers_in : JoinRow → JoinNumbers
numbers_in row =
    record {
      level = row.level;
      at = row.at;
      tversion = row.tversion;
      pkind = row.pkind;
      pnumber = row.pnumber;
      allowance = row.allowance;
      used = row.used;
      first = row.first;
    }

-- the row with other numbers under its key
abbrev pub with_numbers : JoinRow → JoinNumbers → JoinRow
with_numbers row numbers =
    record row {
      level = numbers.level;
      at = numbers.at;
      tversion = numbers.tversion;
      pkind = numbers.pkind;
      pnumber = numbers.pnumber;
      allowance = numbers.allowance;
      used = numbers.used;
      first = numbers.first;
    }

-- a row without names and numbers
abbrev pub no_join : JoinRow
no_join = record { plan = []; key = []; level = 0; at = 0; tversion = 0; pkind = 0; pnumber = 0; allowance = 0; used = 0; first = 0 }

-- the row at a place, counted from 0; beyond the last one a row without names
abbrev pub join_in : List JoinRow → ℕ → JoinRow
join_in rows at = slice_index_or rows at no_join

abbrev pub join_at : Lists → ℕ → JoinRow
join_at lists at = join_in lists.joins at

-- the rows with this one put in
abbrev pub put_join : JoinRow → List JoinRow → List JoinRow
put_join row rows = put_by (is_join row.plan row.key) (join_behind row.plan row.key) row rows
