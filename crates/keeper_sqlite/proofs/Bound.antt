-- The values of a row, as a statement takes them.
use Rattle.std.proofs.Common.{◌≡◌, ◌≤◌, List, length, map, take, refl, sym, ap, ◌∙◌, arith}
use Rattle.std.proofs.lemmas.Simd.{map-map}
use Rattle.std.proofs.lemmas.List.{take-map}
use Rattle.sqlite_value.specs.declared.value.ValueRef.{ValueRef}
use Rattle.sqlite_value.specs.Value.{owned}
use Rattle.sqlite.specs.Values.{bound, bound_value}
use Rattle.keeper_core.specs.Lists.{table_of}
use Rattle.keeper_core.specs.declared.rows.Row.{Row}
use Rattle.keeper_core.specs.declared.rows.Row.TheVariants.{Meta, Api, Deployment, Stage, Key, Plan, Join}
use Rattle.keeper_sqlite.specs.Columns.{columns, key_width, key_values}

same_columns : (row : Row) → map bound_value (columns row) ≡ columns row
same_columns (Meta row) = refl
same_columns (Api row) = refl
same_columns (Deployment row) = refl
same_columns (Stage row) = refl
same_columns (Key row) = refl
same_columns (Plan row) = refl
same_columns (Join row) = refl

-- the values that are bound are the columns of the row
pub bound_columns : (values : List ValueRef) (row : Row) → map owned values ≡ columns row → bound values ≡ columns row
bound_columns values row are = sym (map-map bound_value owned values) ∙ ap (map bound_value) are ∙ same_columns row

-- the first of them are the row's key
pub bound_key : (values : List ValueRef) (row : Row) → map owned values ≡ columns row → bound (take (key_width (table_of row)) values) ≡ key_values row
bound_key values row are = sym (take-map (λ v. bound_value (owned v)) (key_width (table_of row)) values) ∙ ap (take (key_width (table_of row))) (bound_columns values row are)

pub key_within : (row : Row) → key_width (table_of row) ≤ length (columns row)
key_within (Meta row) = omega arith
key_within (Api row) = omega arith
key_within (Deployment row) = omega arith
key_within (Stage row) = omega arith
key_within (Key row) = omega arith
key_within (Plan row) = omega arith
key_within (Join row) = omega arith
