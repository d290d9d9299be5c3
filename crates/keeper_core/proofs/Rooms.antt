-- Room for rows that are staged.
use Rattle.std.proofs.Common.{◌≡◌, ◌+◌, ◌≤◌, Bool, true, false, List, [], ◌∷◌, ◌++◌, cond, count_by, refl, sym, subst, ◌∙◌, arith}
use Rattle.std.proofs.lemmas.List.Sums.{sum_by-append}
use Rattle.keeper_core.specs.Held.{Rooms, room_in, is_in}
use Rattle.keeper_core.specs.Keeping.{HasRoomFor}
use Rattle.keeper_core.specs.Lists.{table_of}
use Rattle.keeper_core.specs.declared.rows.Row.{Row}
use Rattle.keeper_core.specs.declared.rows.Row.TheVariants.{Meta, Api, Deployment, Stage, Key, Plan, Join}
use Rattle.keeper_core.specs.declared.table.Table.{Table}
use Rattle.keeper_core.specs.declared.table.Table.TheVariants.{Apis, Deployments, Stages, Keys, Plans, Joins}
use Rattle.keeper_core.specs.declared.table.Table.TheVariants.{Meta as Metas}

-- a row stands in no other table
only_in : (table : Table) (row : Row) → is_in table row ≡ true → table ≡ table_of row
only_in Metas (Meta row) e = refl
only_in Apis (Api row) e = refl
only_in Deployments (Deployment row) e = refl
only_in Stages (Stage row) e = refl
only_in Keys (Key row) e = refl
only_in Plans (Plan row) e = refl
only_in Joins (Join row) e = refl
only_in table row e = absurd cc

count_more : (table : Table) (staged : List Row) (row : Row) → count_by (is_in table) (staged ++ row ∷ []) ≡ count_by (is_in table) staged + cond (is_in table row) 1 0
count_more table staged row = sum_by-append (λ r. cond (is_in table r) 1 0) staged (row ∷ []) ∙ grind arith

more_in : (table : Table) (staged : List Row) (row : Row) (old new : Rooms) (b : Bool) → is_in table row ≡ b → count_by (is_in table) staged ≤ room_in table old → room_in table old ≤ room_in table new
    → count_by (is_in (table_of row)) staged + 1 ≤ room_in (table_of row) new → count_by (is_in table) staged + cond b 1 0 ≤ room_in table new
more_in table staged row old new true e had later made = subst (λ t. count_by (is_in t) staged + 1 ≤ room_in t new) (sym (only_in table row e)) made
more_in table staged row old new false e had later made = omega (arith, had, later)

-- where room was made in its table, a row can be staged
pub room_for_more : (staged : List Row) (row : Row) (old new : Rooms) → HasRoomFor staged old → ((table : Table) → room_in table old ≤ room_in table new)
    → count_by (is_in (table_of row)) staged + 1 ≤ room_in (table_of row) new → HasRoomFor (staged ++ row ∷ []) new
room_for_more staged row old new had later made = λ table. rw count_more (more_in table staged row old new (is_in table row) refl (had table) (later table) made)
