-- Tables whose rows are taken one after another: at most so many, each good by itself, and no two of them clashing.
use Rattle.std.proofs.Common.{◌≡◌, ℕ, suc, ◌+◌, ◌<◌, ◌≤◌, Bool, true, false, not, ◌||◌, List, [], ◌∷◌, length, cond, find, is_none, Option, Some, None, refl, sym, ap, subst, ◌∙◌, arith}
use Rattle.std.specs.Prelude.{⊤}
use Rattle.std.specs.List.{AllByRecursion, list_any}
use Rattle.keeper_core.specs.Lists.{Ascends, adjust, insert_before, put_by}
use Rattle.book_rules.specs.Good.{first_refused}

-- an earlier row clashes with no later one
abbrev pub Apart : {R : Type 0} → (R → R → Bool) → List R → Type 0
Apart clash [] = ⊤
Apart clash (row ∷ rows) = AllByRecursion (λ later. clash row later ≡ false) rows × Apart clash rows

pub record AreTaken {R : Type 0} (most : ℕ) (P : R → Type 0) (clash : R → R → Bool) (rows : List R) : Type 0 where
  pub few : length rows ≤ most
  pub each : AllByRecursion P rows
  pub apart : Apart clash rows

taken_first : (b : Bool) (n : ℕ) (rest : Option ℕ) → cond (not b) (Some n) rest ≡ None → (b ≡ true) × (rest ≡ None)
taken_first true n rest e = (refl, e)
taken_first false n rest e = absurd cc

neither : (a b : Bool) → (a || b) ≡ false → (a ≡ false) × (b ≡ false)
neither true b e = absurd cc
neither false b e = (refl, e)

both_no : (a b : Bool) → a ≡ false → b ≡ false → (a || b) ≡ false
both_no true b e f = absurd cc
both_no false b e f = f

-- what holds of each item, by what holds of it otherwise
pub all_map : {R : Type 0} (P Q : R → Type 0) → ((row : R) → P row → Q row) → (rows : List R) → AllByRecursion P rows → AllByRecursion Q rows
all_map P Q f [] all = tt
all_map P Q f (row ∷ rows) all = (f row all.0, all_map P Q f rows all.1)

pub all_both : {R : Type 0} (P Q : R → Type 0) (rows : List R) → AllByRecursion P rows → AllByRecursion Q rows → AllByRecursion (λ row. P row × Q row) rows
all_both P Q [] p q = tt
all_both P Q (row ∷ rows) p q = ((p.0, q.0), all_both P Q rows p.1 q.1)

-- a row that is found is one of them
pub found_is : {R : Type 0} (P : R → Type 0) (p : R → Bool) (rows : List R) (row : R) → AllByRecursion P rows → find p rows ≡ Some row → P row
found_is P p [] row all e = absurd cc
found_is {R} P p (y ∷ ys) row all e = pick (p y) e (found_is P p ys row all.1)
  where
    same : (a b : R) → Some a ≡ Some b → a ≡ b
    same a b s = cc

    pick : (b : Bool) → cond b (Some y) (find p ys) ≡ Some row → (find p ys ≡ Some row → P row) → P row
    pick true f more = subst P (same y row f) all.0
    pick false f more = more f

module _ {R : Type 0} (most : ℕ) (P : R → Type 0) (clash : R → R → Bool) (takes : List R → R → Bool) where
  abbrev IsClear : List R → List R → Type 0
  IsClear before rows = AllByRecursion (λ row. list_any (λ other. clash other row) before ≡ false) rows

  front_clear : (y : R) (before rows : List R) → IsClear (y ∷ before) rows → IsClear before rows
  front_clear y before rows = all_map _ _ (λ row c. (neither (clash y row) (list_any (λ other. clash other row) before) c).1) rows

  head_clear : (y : R) (before rows : List R) → IsClear (y ∷ before) rows → AllByRecursion (λ row. clash y row ≡ false) rows
  head_clear y before rows = all_map _ _ (λ row c. (neither (clash y row) (list_any (λ other. clash other row) before) c).0) rows

  more_clear : (y : R) (before rows : List R) → AllByRecursion (λ row. clash y row ≡ false) rows → IsClear before rows → IsClear (y ∷ before) rows
  more_clear y before rows a c =
      all_map _ _ (λ row both. both_no (clash y row) (list_any (λ other. clash other row) before) both.0 both.1) rows (all_both _ _ rows a c)

  walk : (split : (before : List R) (row : R) → takes before row ≡ true → (length before < most) × P row × (list_any (λ other. clash other row) before ≡ false))
      → (before rows : List R) → length before ≤ most → first_refused (λ b r. not (takes b r)) before rows ≡ None
      → (length before + length rows ≤ most) × AllByRecursion P rows × IsClear before rows × Apart clash rows
  walk split before [] le e = (omega (arith, le), tt, tt, tt)
  walk split before (y ∷ ys) le e =
      let here = taken_first (takes before y) (length before) (first_refused (λ b r. not (takes b r)) (y ∷ before) ys) e in
      let said = split before y here.0 in
      let less = said.0 in
      let more = walk split (y ∷ before) ys (omega (arith, less)) here.1 in
      let sum = more.0 in (
        omega (arith, sum),
        (said.1, more.1),
        (said.2, front_clear y before ys more.2),
        (head_clear y before ys more.2, more.3),
      )

  -- what is known of rows that were taken
  pub taken_by : (split : (before : List R) (row : R) → takes before row ≡ true → (length before < most) × P row × (list_any (λ other. clash other row) before ≡ false))
      → (rows : List R) → first_refused (λ b r. not (takes b r)) [] rows ≡ None → AreTaken most P clash rows
  taken_by split rows e =
      let w = walk split [] rows (omega arith) e in
      let sum = w.0 in
      record { few = omega (arith, sum); each = w.1; apart = w.3 }

  walked : (join : (before : List R) (row : R) → length before < most → P row → list_any (λ other. clash other row) before ≡ false → takes before row ≡ true)
      → (before rows : List R) → length before + length rows ≤ most → AllByRecursion P rows → IsClear before rows → Apart clash rows
      → first_refused (λ b r. not (takes b r)) before rows ≡ None
  walked join before [] le each clear apart = refl
  walked join before (y ∷ ys) le each clear apart =
      ap (λ t. cond (not t) (Some (length before)) (first_refused (λ b r. not (takes b r)) (y ∷ before) ys)) (join before y (omega (arith, le)) each.0 clear.0)
      ∙ walked join (y ∷ before) ys (omega (arith, le)) each.1 (more_clear y before ys apart.0 clear.1) apart.1

  none_clash : (rows : List R) → IsClear [] rows
  none_clash [] = tt
  none_clash (y ∷ ys) = (refl, none_clash ys)

  -- and such rows are taken
  pub takes_all : (join : (before : List R) (row : R) → length before < most → P row → list_any (λ other. clash other row) before ≡ false → takes before row ≡ true)
      → (rows : List R) → AreTaken most P clash rows → first_refused (λ b r. not (takes b r)) [] rows ≡ None
  takes_all join rows h = let few = h.few in walked join [] rows (omega (arith, few)) h.each (none_clash rows) h.apart

-- A ROW THAT IS PUT
module _ {R : Type 0} (has_key has_greater : R → Bool) (x : R) where
  length_adjusted : (rows : List R) → length (adjust has_key (λ old. x) rows) ≡ length rows
  length_adjusted [] = refl
  length_adjusted (y ∷ ys) =
      elim (has_key y) as (λ b. length (cond b (x ∷ ys) (y ∷ adjust has_key (λ old. x) ys)) ≡ suc (length ys)) [ true ↦ refl | false ↦ ap suc (length_adjusted ys) ]

  length_inserted : (rows : List R) → length (insert_before has_greater x rows) ≡ suc (length rows)
  length_inserted [] = refl
  length_inserted (y ∷ ys) =
      elim (has_greater y) as (λ b. length (cond b (x ∷ y ∷ ys) (y ∷ insert_before has_greater x ys)) ≡ suc (suc (length ys))) [ true ↦ refl | false ↦ ap suc (length_inserted ys) ]

  pub few_put : (most : ℕ) (rows : List R) → (is_none (find has_key rows) ≡ true → length rows < most) → length rows ≤ most → length (put_by has_key has_greater x rows) ≤ most
  few_put most rows room few =
      elim (is_none (find has_key rows)) as (λ b. is_none (find has_key rows) ≡ b → length (cond b (insert_before has_greater x rows) (adjust has_key (λ old. x) rows)) ≤ most) [
        | true ↦ λ e. let less = room e in let l = length_inserted rows in omega (arith, less, l)
        | false ↦ λ e. let l = length_adjusted rows in omega (arith, few, l)
      ] refl

  all_adjusted : (P : R → Type 0) (rows : List R) → P x → AllByRecursion P rows → AllByRecursion P (adjust has_key (λ old. x) rows)
  all_adjusted P [] here all = tt
  all_adjusted P (y ∷ ys) here all =
      let more = all_adjusted P ys here all.1 in
      elim (has_key y) as (λ b. AllByRecursion P (cond b (x ∷ ys) (y ∷ adjust has_key (λ old. x) ys))) [ true ↦ (here, all.1) | false ↦ (all.0, more) ]

  all_inserted : (P : R → Type 0) (rows : List R) → P x → AllByRecursion P rows → AllByRecursion P (insert_before has_greater x rows)
  all_inserted P [] here all = (here, tt)
  all_inserted P (y ∷ ys) here all =
      let more = all_inserted P ys here all.1 in
      elim (has_greater y) as (λ b. AllByRecursion P (cond b (x ∷ y ∷ ys) (y ∷ insert_before has_greater x ys))) [ true ↦ (here, all) | false ↦ (all.0, more) ]

  pub each_put : (P : R → Type 0) (rows : List R) → P x → AllByRecursion P rows → AllByRecursion P (put_by has_key has_greater x rows)
  each_put P rows here all =
      elim (is_none (find has_key rows)) as (λ b. AllByRecursion P (cond b (insert_before has_greater x rows) (adjust has_key (λ old. x) rows))) [
        | true ↦ all_inserted P rows here all
        | false ↦ all_adjusted P rows here all
      ]

  not_first : (b : Bool) (y : R) (rest : Option R) → is_none (cond b (Some y) rest) ≡ true → (b ≡ false) × (is_none rest ≡ true)
  not_first true y rest e = absurd cc
  not_first false y rest e = (refl, e)

  module _ (clash : R → R → Bool) where
    -- the row clashes with none of another key
    abbrev pub IsFree : List R → Type 0
    IsFree rows = AllByRecursion (λ y. has_key y ≡ false → (clash y x ≡ false) × (clash x y ≡ false)) rows

    free_all : (rows : List R) → is_none (find has_key rows) ≡ true → IsFree rows → AllByRecursion (λ y. (clash y x ≡ false) × (clash x y ≡ false)) rows
    free_all [] e free = tt
    free_all (y ∷ ys) e free = let n = not_first (has_key y) y (find has_key ys) e in (free.0 n.0, free_all ys n.1 free.1)

    insert_apart : (rows : List R) → AllByRecursion (λ y. (clash y x ≡ false) × (clash x y ≡ false)) rows → Apart clash rows → Apart clash (insert_before has_greater x rows)
    insert_apart [] free apart = (tt, tt)
    insert_apart (y ∷ ys) free apart =
        let more = insert_apart ys free.1 apart.1 in
        elim (has_greater y) as (λ b. Apart clash (cond b (x ∷ y ∷ ys) (y ∷ insert_before has_greater x ys))) [
          | true ↦ ((free.0.1, all_map _ _ (λ z f. f.1) ys free.1), apart)
          | false ↦ (all_inserted (λ z. clash y z ≡ false) ys free.0.0 apart.0, more)
        ]

    module _ (behind : R → R → Bool) (differs : (y z : R) → behind y z ≡ true → has_key y ≡ true → has_key z ≡ false) where
      adjust_apart : (rows : List R) → Ascends behind rows → IsFree rows → Apart clash rows → Apart clash (adjust has_key (λ old. x) rows)
      adjust_apart [] up free apart = tt
      adjust_apart (y ∷ ys) up free apart =
          let more = adjust_apart ys up.1 free.1 apart.1 in
          elim (has_key y) as (λ b. has_key y ≡ b → Apart clash (cond b (x ∷ ys) (y ∷ adjust has_key (λ old. x) ys))) [
            | true ↦ λ e. (all_map _ _ (λ z both. (both.1 (differs y z both.0 e)).1) ys (all_both _ _ ys up.0 free.1), apart.1)
            | false ↦ λ e. (all_adjusted (λ z. clash y z ≡ false) ys (free.0 e).0 apart.0, more)
          ] refl

      pub apart_put : (rows : List R) → Ascends behind rows → IsFree rows → Apart clash rows → Apart clash (put_by has_key has_greater x rows)
      apart_put rows up free apart =
          elim (is_none (find has_key rows)) as (λ b. is_none (find has_key rows) ≡ b → Apart clash (cond b (insert_before has_greater x rows) (adjust has_key (λ old. x) rows))) [
            | true ↦ λ e. insert_apart rows (free_all rows e free) apart
            | false ↦ λ e. adjust_apart rows up free apart
          ] refl

-- where no row clashes with any
pub none_apart : {R : Type 0} (rows : List R) → Apart (λ (x y : R). false) rows
none_apart [] = tt
none_apart (y ∷ ys) = (all_same ys, none_apart ys)
  where
    all_same : {R : Type 0} (rows : List R) → AllByRecursion (λ (z : R). false ≡ false) rows
    all_same [] = tt
    all_same (z ∷ zs) = (refl, all_same zs)

-- rows that are apart stay so, where two that do not clash go on not to
pub apart_map : {R : Type 0} (clash other : R → R → Bool) (behind : R → R → Bool) (M : R → Type 0)
    → ((x y : R) → M x → M y → behind x y ≡ true → clash x y ≡ false → other x y ≡ false)
    → (rows : List R) → Ascends behind rows → AllByRecursion M rows → Apart clash rows → Apart other rows
apart_map clash other behind M f [] up all apart = tt
apart_map clash other behind M f (x ∷ xs) up all apart = (
  all_map _ _ (λ y three. f x y all.0 three.1.0 three.0 three.1.1) xs (all_both _ _ xs up.0 (all_both _ _ xs all.1 apart.0)),
  apart_map clash other behind M f xs up.1 all.1 apart.1,
)

-- each row is found under its own key
pub members : {R : Type 0} (has_key : R → R → Bool) → ((row : R) → has_key row row ≡ true) → (rows : List R) → AllByRecursion (λ row. is_none (find (has_key row) rows) ≡ false) rows
members {R} has_key itself rows = below rows rows (λ row e. e)
  where
    here : {R : Type 0} (p : R → Bool) (y : R) (ys : List R) → p y ≡ true → is_none (cond (p y) (Some y) (find p ys)) ≡ false
    here p y ys e = ap (λ b. is_none (cond b (Some y) (find p ys))) e

    there : {R : Type 0} (p : R → Bool) (y : R) (ys : List R) → is_none (find p ys) ≡ false → is_none (cond (p y) (Some y) (find p ys)) ≡ false
    there p y ys e = elim (p y) as (λ b. is_none (cond b (Some y) (find p ys)) ≡ false) [ true ↦ refl | false ↦ e ]

    below : (part whole : List R) → ((row : R) → is_none (find (has_key row) part) ≡ false → is_none (find (has_key row) whole) ≡ false)
        → AllByRecursion (λ row. is_none (find (has_key row) whole) ≡ false) part
    below [] whole inside = tt
    below (y ∷ ys) whole inside = (inside y (here (has_key y) y ys (itself y)), below ys whole (λ row e. inside row (there (has_key row) y ys e)))
