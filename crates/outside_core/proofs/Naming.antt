-- Stores by their names, and the store of a keeper that is given back.
use Rattle.std.proofs.Common.{◌≡◌, ℕ, suc, ◌+◌, ◌<◌, ◌≤◌, nat_lt, Bool, true, false, not, List, [], ◌∷◌, ◌++◌, length, cond, map, Option, Some, None, get_or, set, refl, ap, ◌∙◌, arith}
use Rattle.std.specs.List.{position, prefix_len}
use Rattle.std.specs.Str.{bytes_eq}
use Rattle.std.proofs.lemmas.Grind.{common_steps}
use Rattle.keeper_core.specs.Lists.{Lists}
use Rattle.outside_core.specs.Stores.{store_of, with_store}
use Rattle.outside_core.specs.Held.{StoreFacts, found, keeper_of, kept_by, named, with_tables}

-- the store has this name
abbrev pub has_name : List ℕ → StoreFacts → Bool
has_name name store = bytes_eq store.name name

-- how many stores come before the first that passes
abbrev before : (StoreFacts → Bool) → List StoreFacts → ℕ
before p stores = prefix_len (λ store. not (p store)) stores

abbrev fresh : List ℕ → Lists → StoreFacts
fresh name lists = record { name = name; lists = lists; fails = [] }

in_step : (lists : Lists) (d y : StoreFacts) (ys rest : List StoreFacts) (b : Bool) (k : ℕ) → (k < length ys → rest ≡ set ys k (record (get_or ys k d) { lists = lists }))
    → cond (not b) (1 + k) 0 < suc (length ys)
    → cond b (record y { lists = lists } ∷ ys) (y ∷ rest) ≡ set (y ∷ ys) (cond (not b) (1 + k) 0) (record (get_or (y ∷ ys) (cond (not b) (1 + k) 0) d) { lists = lists })
in_step lists d y ys rest true k more inside = refl
in_step lists d y ys rest false k more inside = let e : 1 + k ≡ suc k = omega arith in rw e (ap (λ l. y ∷ l) (more (omega (arith, inside))))

tables_in : (name : List ℕ) (lists : Lists) (d : StoreFacts) (stores : List StoreFacts) → before (has_name name) stores < length stores
    → with_tables name lists stores ≡ set stores (before (has_name name) stores) (record (get_or stores (before (has_name name) stores) d) { lists = lists })
tables_in name lists d [] inside = absurd (omega (arith, inside))
tables_in name lists d (y ∷ ys) inside = in_step lists d y ys (with_tables name lists ys) (has_name name y) (before (has_name name) ys) (tables_in name lists d ys) inside

end_step : (x y z : StoreFacts) (ys rest : List StoreFacts) (b : Bool) (k : ℕ) → (length ys ≤ k → rest ≡ ys ++ x ∷ []) → suc (length ys) ≤ cond (not b) (1 + k) 0
    → cond b (z ∷ ys) (y ∷ rest) ≡ y ∷ ys ++ x ∷ []
end_step x y z ys rest true k more past = absurd (omega (arith, past))
end_step x y z ys rest false k more past = ap (λ l. y ∷ l) (more (omega (arith, past)))

tables_behind : (name : List ℕ) (lists : Lists) (stores : List StoreFacts) → length stores ≤ before (has_name name) stores → with_tables name lists stores ≡ stores ++ fresh name lists ∷ []
tables_behind name lists [] past = refl
tables_behind name lists (y ∷ ys) past = end_step (fresh name lists) y (record y { lists = lists }) ys (with_tables name lists ys) (has_name name y) (before (has_name name) ys) (tables_behind name lists ys) past

in_place : (name : List ℕ) (lists : Lists) (d : StoreFacts) (stores : List StoreFacts) (i : ℕ) (b : Bool) → nat_lt (before (has_name name) stores) (length stores) ≡ b
    → cond b (Some (before (has_name name) stores)) None ≡ Some i → with_tables name lists stores ≡ set stores i (record (get_or stores i d) { lists = lists })
in_place name lists d stores i true h e =
    let same : before (has_name name) stores ≡ i = cc in
    tables_in name lists d stores (grind (arith, common_steps)) ∙ ap (λ k. set stores k (record (get_or stores k d) { lists = lists })) same
in_place name lists d stores i false h e = absurd cc

-- the store of this name is there: it has the tables
pub tables_there : (name : List ℕ) (lists : Lists) (d : StoreFacts) (stores : List StoreFacts) (i : ℕ) → position (has_name name) stores ≡ Some i
    → with_tables name lists stores ≡ set stores i (record (get_or stores i d) { lists = lists })
tables_there name lists d stores i e = in_place name lists d stores i (nat_lt (before (has_name name) stores) (length stores)) refl e

at_end : (name : List ℕ) (lists : Lists) (stores : List StoreFacts) (b : Bool) → nat_lt (before (has_name name) stores) (length stores) ≡ b
    → cond b (Some (before (has_name name) stores)) None ≡ None → with_tables name lists stores ≡ stores ++ fresh name lists ∷ []
at_end name lists stores true h e = absurd cc
at_end name lists stores false h e = tables_behind name lists stores (grind (arith, common_steps))

-- it is not there: a new one has them
pub tables_new : (name : List ℕ) (lists : Lists) (stores : List StoreFacts) → position (has_name name) stores ≡ None
    → with_tables name lists stores ≡ stores ++ fresh name lists ∷ []
tables_new name lists stores e = at_end name lists stores (nat_lt (before (has_name name) stores) (length stores)) refl e

-- what is told of the stores afterwards
told_step : (name : List ℕ) (lists : Lists) (y : StoreFacts) (ys : List StoreFacts) (rest : List StoreFacts) (b : Bool) → map named rest ≡ with_store name lists (map named ys)
    → map named (cond b (record y { lists = lists } ∷ ys) (y ∷ rest)) ≡ cond b ((y.name, lists) ∷ map named ys) (named y ∷ with_store name lists (map named ys))
told_step name lists y ys rest true more = refl
told_step name lists y ys rest false more = ap (λ l. named y ∷ l) more

pub tables_told : (name : List ℕ) (lists : Lists) (stores : List StoreFacts) → map named (with_tables name lists stores) ≡ with_store name lists (map named stores)
tables_told name lists [] = refl
tables_told name lists (y ∷ ys) = told_step name lists y ys (with_tables name lists ys) (has_name name y) (tables_told name lists ys)

-- a keeper has the tables that are told of its store
lent_step : (y : StoreFacts) (rest : Option StoreFacts) (lists : Lists) (b : Bool) → (kept_by rest).lists ≡ lists → (kept_by (cond b (Some y) rest)).lists ≡ cond b y.lists lists
lent_step y rest lists true more = refl
lent_step y rest lists false more = more

pub keeper_tables : (name : List ℕ) (stores : List StoreFacts) → (keeper_of name stores).lists ≡ store_of name (map named stores)
keeper_tables name [] = refl
keeper_tables name (y ∷ ys) = lent_step y (found name ys) (store_of name (map named ys)) (has_name name y) (keeper_tables name ys)
