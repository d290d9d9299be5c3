-- A write in the table.
use Rattle.std.proofs.Common.{◌≡◌, ℕ, suc, ◌+◌, ◌<◌, ◌≤◌, List, [], ◌∷◌, ◌++◌, length, map, Bool, true, false, refl, ap, ◌∙◌, slice_set, arith}
use Rattle.std.specs.Prelude.{if◌then◌else◌}
use Rattle.vtl_eval.specs.Roots.{put_path, same_path}
use Rattle.gateway_vars.specs.Rows.{row_of, place_of}
use Rattle.gateway_vars.specs.declared.table.Row.{Row}

set_at : (rows : List Row) (row : Row) → place_of rows row.path < length rows → map row_of (slice_set rows (place_of rows row.path) row) ≡ put_path (map row_of rows) row.path row.value
set_at [] row = λ h. absurd (omega (arith, h))
set_at (r ∷ rs) row = go (same_path r.path row.path) (set_at rs row)
  where
    go : (b : Bool) → (place_of rs row.path < length rs → map row_of (slice_set rs (place_of rs row.path) row) ≡ put_path (map row_of rs) row.path row.value)
        → (if b then 0 else place_of rs row.path + 1) < length (r ∷ rs)
        → map row_of (slice_set (r ∷ rs) (if b then 0 else place_of rs row.path + 1) row) ≡ (if b then (row.path, row.value) ∷ map row_of rs else row_of r ∷ put_path (map row_of rs) row.path row.value)
    go true ih h = refl
    go false ih h =
        let up : place_of rs row.path + 1 ≡ suc (place_of rs row.path) = omega arith in
        ap (λ n. map row_of (slice_set (r ∷ rs) n row)) up ∙ ap (λ z. row_of r ∷ z) (ih (omega (arith, h)))

set_end : (rows : List Row) (row : Row) → length rows ≤ place_of rows row.path → map row_of (rows ++ row ∷ []) ≡ put_path (map row_of rows) row.path row.value
set_end [] row = λ h. refl
set_end (r ∷ rs) row = go (same_path r.path row.path) (set_end rs row)
  where
    go : (b : Bool) → (length rs ≤ place_of rs row.path → map row_of (rs ++ row ∷ []) ≡ put_path (map row_of rs) row.path row.value)
        → length (r ∷ rs) ≤ (if b then 0 else place_of rs row.path + 1)
        → map row_of ((r ∷ rs) ++ row ∷ []) ≡ (if b then (row.path, row.value) ∷ map row_of rs else row_of r ∷ put_path (map row_of rs) row.path row.value)
    go true ih h = absurd (omega (arith, h))
    go false ih h = ap (λ z. row_of r ∷ z) (ih (omega (arith, h)))

-- a path is written in its place
pub row_set : (rows : List Row) (row : Row) (i : ℕ) → i ≡ place_of rows row.path → i < length rows → map row_of (slice_set rows i row) ≡ put_path (map row_of rows) row.path row.value
row_set rows row i at h = rw at (set_at rows row (rw (← at) h))

-- a new path goes to the end
pub row_end : (rows : List Row) (row : Row) (i : ℕ) → i ≡ place_of rows row.path → length rows ≤ i → map row_of (rows ++ row ∷ []) ≡ put_path (map row_of rows) row.path row.value
row_end rows row i at h = set_end rows row (rw (← at) h)
