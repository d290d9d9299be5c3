-- More digits never make a number smaller.
use Rattle.std.proofs.Common.{◌≡◌, ℕ, suc, ◌+◌, ◌-◌, ◌*◌, ◌<◌, ◌≤◌, List, [], ◌∷◌, length, drop, get_or, drop-cons, ap, arith}
use Rattle.json_subset.specs.Numbers.{value_from}

pub grows : (n : ℕ) (ds : List ℕ) → n ≤ value_from n ds
grows n [] = omega arith
grows n (d ∷ ds) = omega (arith, grows (n * 10 + (d - 48)) ds)

-- one more digit behind m passes the limit, and so does the whole
pub passes : (m i limit t : ℕ) (ds : List ℕ) → i < length ds → value_from m (drop i ds) ≡ t → limit ≤ m * 10 + (get_or ds i 0 - 48) → limit ≤ t
passes m i limit t ds h e le =
    let opened : value_from m (drop i ds) ≡ value_from (m * 10 + (get_or ds i 0 - 48)) (drop (suc i) ds) = ap (value_from m) (drop-cons ds i 0 h) in
    let more : m * 10 + (get_or ds i 0 - 48) ≤ value_from (m * 10 + (get_or ds i 0 - 48)) (drop (suc i) ds) = grows (m * 10 + (get_or ds i 0 - 48)) (drop (suc i) ds) in
    omega (arith, opened, more, e, le)
