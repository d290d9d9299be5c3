-- Rows of keys, plans and joins that may stand, and go on to.
use Rattle.std.proofs.Common.{◌≡◌, ◌≢◌, ◌∙◌, sym, ap, subst, refl, ℕ, ◌+◌, ◌*◌, ◌-◌, ◌/◌, ◌<◌, ◌≤◌, ◌^◌, ◌==◌, Bool, true, false, not, ◌&&◌, ◌||◌, List, [], ◌∷◌, length, find, max, suc, zero, Option, Some, None, IfSome, option_map, cond, arith}
use Rattle.std.specs.Prelude.{is_some, nat_le, nat_lt}
use Rattle.std.specs.Int.{IsInRange}
use Rattle.std.specs.Str.{bytes_eq}
use Rattle.std.proofs.lemmas.Bool.{and_parts}
use Rattle.std.proofs.lemmas.Slice.Eq.{bytes_eq-Decides}
use Rattle.gw_base.specs.Names.{is_name}
use Rattle.usage_meter.specs.Levels.{capacity}
use Rattle.usage_meter.specs.Months.{month_days, month_from, month_of}
use Rattle.usage_meter.specs.Periods.{number_at, nth_begin, begin_of, period_at, Holds}
use Rattle.usage_meter.specs.declared.period.PeriodKind.{PeriodKind}
use Rattle.usage_meter.specs.declared.period.PeriodKind.TheVariants.{Day, Week, Month}
use Rattle.usage_meter.specs.declared.throttle.Throttle.{Throttle}
use Rattle.usage_meter.proofs.MonthLemmas.{month_start-mono}
use Rattle.usage_meter.proofs.PeriodLemmas.{holds_own}
use Rattle.usage_plans.specs.Rows.{IsPlanRow, kind_in, period_in, tally_in, terms_in, throttle_in}
use Rattle.usage_plans.specs.Tallies.{IsCounted, IsFilled, IsTally}
use Rattle.usage_plans.specs.declared.terms.TheConstants.{MOST_UNITS}
use Rattle.keeper_core.specs.Lists.{Lists, is_key, is_plan, is_join, key_row, plan_row, join_row}
use Rattle.keeper_core.specs.declared.rows.KeyRow.{KeyRow}
use Rattle.keeper_core.specs.declared.rows.PlanRow.{PlanRow}
use Rattle.keeper_core.specs.declared.rows.JoinRow.{JoinRow}
use Rattle.keeper_core.specs.declared.table.Table.{Table}
use Rattle.keeper_core.specs.declared.table.Table.TheVariants as table
use Rattle.book_rules.proofs.Times.{opens_in_time}
use Rattle.book_rules.proofs.Viewing.{found_holds}
use Rattle.book_rules.specs.Fits.{AreFit, IsFitJoin, IsFitPlan}
use Rattle.book_rules.specs.Good.{bad_row, first_bad, first_refused, refused_by, is_flag, takes_meta, takes_api, takes_deployment, takes_stage, takes_key, takes_plan, takes_join, takes_throttle, takes_of_plan, takes_level, takes_period, joined_already, are_plan_stages}
use Rattle.book_rules.specs.Limits.{most_keys, most_plans, most_joins, most_per_second, most_versions}
use Rattle.book_rules.specs.Machine.{latest_of}
use Rattle.book_rules.specs.Names.{is_key_value}
use Rattle.book_rules.specs.PlanStages.{stages_in}

same_text : (a b : List ℕ) → bytes_eq a b ≡ true → a ≡ b
same_text a b e = (bytes_eq-Decides a b).0 e

-- AT A LATER MOMENT
counted_later : (allowance : Rattle.usage_meter.specs.declared.allowance.Allowance.Allowance) (x t : ℕ) → x ≤ t → IsCounted allowance x → IsCounted allowance t
counted_later allowance x t le h = record { begun = begun_later allowance.period h.begun; within = h.within; bounded = h.bounded }
  where
    begun_later : (period : Option Rattle.usage_meter.specs.declared.period.Period.Period) → IfSome period (λ p. begin_of p ≤ x) → IfSome period (λ p. begin_of p ≤ t)
    begun_later None h = tt
    begun_later (Some p) h = omega (arith, h)

join_later : (of : PlanRow) (row : JoinRow) (x t : ℕ) → x ≤ t → IsFitJoin of row x → IsFitJoin of row t
join_later of row x t le h =
    record {
      tally = record { filled = h.tally.filled; later = let l = h.tally.later in omega (arith, l, le); counted = counted_later (tally_in row).allowance x t le h.tally.counted };
      number = h.number;
      version = h.version;
    }

pub fits_later : (lists : Lists) (x t : ℕ) → x ≤ t → t < 4102444800000 → AreFit lists x → AreFit lists t
fits_later lists x t le early h =
    record {
      early = early;
      keys = h.keys;
      plans = h.plans;
      planned = h.planned;
      joins = λ plan key of row p j. join_later of row x t le (h.joins plan key of row p j);
    }

-- TABLES THAT A BOOK STARTS FROM
-- a row that is found in a walk that refused none was taken
taken_first : (b : Bool) (n : ℕ) (rest : Option ℕ) → cond (not b) (Some n) rest ≡ None → (b ≡ true) × (rest ≡ None)
taken_first true n rest e = (refl, e)
taken_first false n rest e = absurd cc

some_same : {A : Type 0} (a b : A) → Some a ≡ Some b → a ≡ b
some_same a b same = cc

module _ {R : Type 0} (takes : List R → R → Bool) (p : R → Bool) where
  taken_found : (before rows : List R) (row : R) → first_refused (λ b r. not (takes b r)) before rows ≡ None → find p rows ≡ Some row → (b : List R) × (takes b row ≡ true)
  taken_found before [] row e found = absurd cc
  taken_found before (y ∷ ys) row e found =
      let here = taken_first (takes before y) (length before) (first_refused (λ b r. not (takes b r)) (y ∷ before) ys) e in
      pick (p y) found here.0 (taken_found (y ∷ before) ys row here.1)
    where
      pick : (b : Bool) → cond b (Some y) (find p ys) ≡ Some row → takes before y ≡ true → (find p ys ≡ Some row → (b : List R) × (takes b row ≡ true)) → (b : List R) × (takes b row ≡ true)
      pick true f here more = (before, subst (λ r. takes before r ≡ true) (some_same y row f) here)
      pick false f here more = more f

later_bad : (table : Table) (found : Option ℕ) (more : List (Table × Option ℕ)) → first_bad ((table, found) ∷ more) ≡ None → (found ≡ None) × (first_bad more ≡ None)
later_bad table None more e = (refl, e)
later_bad table (Some row) more e = absurd cc

-- none of the keys, plans and joins is refused
record AllTaken (lists : Lists) : Type 0 where
  keys : refused_by takes_key lists.keys ≡ None
  plans : refused_by (takes_plan lists) lists.plans ≡ None
  joins : refused_by (takes_join lists) lists.joins ≡ None

all_taken : (lists : Lists) → bad_row lists ≡ None → AllTaken lists
unfolding bad_row
all_taken lists e =
    let from_joins : List (Table × Option ℕ) = (table.Joins, refused_by (takes_join lists) lists.joins) ∷ [] in
    let from_plans : List (Table × Option ℕ) = (table.Plans, refused_by (takes_plan lists) lists.plans) ∷ from_joins in
    let from_keys : List (Table × Option ℕ) = (table.Keys, refused_by takes_key lists.keys) ∷ from_plans in
    let from_stages : List (Table × Option ℕ) = (table.Stages, refused_by (takes_stage lists) lists.stages) ∷ from_keys in
    let from_deployments : List (Table × Option ℕ) = (table.Deployments, refused_by (takes_deployment lists) lists.deployments) ∷ from_stages in
    let from_apis : List (Table × Option ℕ) = (table.Apis, refused_by takes_api lists.apis) ∷ from_deployments in
    let apis = (later_bad table.Meta (refused_by takes_meta lists.metas) from_apis e).1 in
    let deployments = (later_bad table.Apis (refused_by takes_api lists.apis) from_deployments apis).1 in
    let stages = (later_bad table.Deployments (refused_by (takes_deployment lists) lists.deployments) from_stages deployments).1 in
    let keys = later_bad table.Stages (refused_by (takes_stage lists) lists.stages) from_keys stages in
    let plans = later_bad table.Keys (refused_by takes_key lists.keys) from_plans keys.1 in
    let joins = later_bad table.Plans (refused_by (takes_plan lists) lists.plans) from_joins plans.1 in
    record { keys = plans.0; plans = joins.0; joins = (later_bad table.Joins (refused_by (takes_join lists) lists.joins) [] joins.1).0 }

key_named : (before : List KeyRow) (row : KeyRow) → takes_key before row ≡ true → is_name row.key ≡ true
key_named before row h =
    let a = nat_lt (length before) most_keys in
    let b = is_name row.key in
    let c = is_key_value row.value in
    let d = is_flag row.enabled in
    (and_parts a b (and_parts (a && b) c (and_parts (a && b && c) d (and_parts (a && b && c && d) _ h).0).0).0).1

-- the columns of a plan that is taken
throttle_columns : (rate burst : ℕ) → ((rate == 0) && (burst == 0) || nat_le 1 rate && nat_le rate 1000000 && nat_le 1 burst && nat_le burst 1000000) ≡ true
    → (burst ≢ 0 → IsInRange 1 1_000_000 rate) × (burst ≤ 1_000_000)
throttle_columns rate burst h =
    ((λ some. (lower some, upper some)), within)
  where
    within : burst ≤ 1_000_000
    within = grind arith

    lower : burst ≢ 0 → 1 ≤ rate
    lower some = grind arith

    upper : burst ≢ 0 → rate ≤ 1_000_000
    upper some = grind arith

plan_fits : (lists : Lists) (before : List PlanRow) (row : PlanRow) → takes_plan lists before row ≡ true → IsFitPlan row
unfolding most_per_second most_versions
plan_fits lists before row h =
    let a = nat_lt (length before) most_plans in
    let b = is_name row.plan in
    let c = takes_throttle row in
    let d = nat_le row.tversion most_versions in
    let e = nat_le row.qkind 3 in
    let f = nat_le row.qlimit MOST_UNITS in
    let g = nat_le row.qoffset row.qlimit in
    let i = are_plan_stages lists (stages_in row.stages) in
    let to_g = (and_parts (a && b && c && d && e && f && g) i h).0 in
    let at_g = and_parts (a && b && c && d && e && f) g to_g in
    let at_f = and_parts (a && b && c && d && e) f at_g.0 in
    let at_e = and_parts (a && b && c && d) e at_f.0 in
    let at_d = and_parts (a && b && c) d at_e.0 in
    let at_c = and_parts (a && b) c at_d.0 in
    let at_b = and_parts a b at_c.0 in
    let columns = throttle_columns row.rate row.burst at_c.1 in
    record {
      named = at_b.1;
      columns = record { rate = columns.0; burst = columns.1; limit = le_of row.qlimit MOST_UNITS at_f.1; offset = le_of row.qoffset row.qlimit at_g.1 };
      version = le_of row.tversion 9223372036854775807 at_d.1;
    }
  where
    le_of : (x y : ℕ) → nat_le x y ≡ true → x ≤ y
    le_of x y e = grind arith

-- a join that is taken
kinds : (kind : PeriodKind) (n t : ℕ) → n ≤ number_at kind t → t < 4102444800000 → nth_begin kind n ≤ t
kinds kind n t le early = let held = holds_own kind t early in mono kind le held.begun
  where
    mono : (kind : PeriodKind) → n ≤ number_at kind t → nth_begin kind (number_at kind t) ≤ t → nth_begin kind n ≤ t
    mono Day l b = omega (arith, l, b)
    mono Week l b = omega (arith, l, b)
    mono Month l b = let m = month_start-mono n (number_at Month t) l in omega (arith, m, b)

month_most : (more n rest : ℕ) → month_from more n rest ≤ n + more
unfolding month_from
month_most zero n rest = omega arith
month_most (suc more) n rest = pick (nat_lt rest (month_days n)) (month_most more (n + 1) (rest - month_days n))
  where
    pick : (b : Bool) → month_from more (n + 1) (rest - month_days n) ≤ n + 1 + more → elim b [ true ↦ n | false ↦ month_from more (n + 1) (rest - month_days n) ] ≤ n + suc more
    pick true h = omega arith
    pick false h = omega (arith, h)

pub number_small : (kind : PeriodKind) (t : ℕ) → t < 4102444800000 → number_at kind t < 2 ^ 32
number_small Day t early = omega (arith, early)
number_small Week t early = omega (arith, early)
number_small Month t early = let m = month_most 1560 0 (t / 86_400_000) in omega (arith, m)

latest_least : (p : JoinRow → Bool) (rows : List JoinRow) (row : JoinRow) → find p rows ≡ Some row → row.at ≤ latest_of rows
latest_least p [] row e = absurd cc
latest_least p (y ∷ ys) row e = pick (p y) e (latest_least p ys row)
  where
    pick : (b : Bool) → cond b (Some y) (find p ys) ≡ Some row → (find p ys ≡ Some row → row.at ≤ latest_of ys) → row.at ≤ max y.at (latest_of ys)
    pick true f more = subst (λ (r : JoinRow). r.at ≤ max y.at (latest_of ys)) (some_same y row f) (omega arith)
    pick false f more = let l = more f in omega (arith, l)

joined_first : (a b : Bool) → (a && b) ≡ true → a ≡ true
joined_first a b e = (and_parts a b e).0

joined_second : (a b : Bool) → (a && b) ≡ true → b ≡ true
joined_second a b e = (and_parts a b e).1

-- what a join that is taken says
record JoinTaken (lists : Lists) (row : JoinRow) : Type 0 where
  plan : takes_of_plan row (plan_row lists row.plan) ≡ true
  early : row.at < 4102444800000
  period : takes_period row (kind_in row.pkind) ≡ true

join_taken : (lists : Lists) (before : List JoinRow) (row : JoinRow) → takes_join lists before row ≡ true → JoinTaken lists row
join_taken lists before row h =
    let a = nat_lt (length before) most_joins in
    let b = is_some (key_row lists row.key) in
    let c = takes_of_plan row (plan_row lists row.plan) in
    let d = nat_lt row.at 4102444800000 in
    let e = takes_period row (kind_in row.pkind) in
    let at_e = and_parts (a && b && c && d) e (and_parts (a && b && c && d && e) _ h).0 in
    let at_d = and_parts (a && b && c) d at_e.0 in
    let at_c = and_parts (a && b) c at_d.0 in
    record { plan = at_c.1; early = lt_of row.at 4102444800000 at_d.1; period = at_e.1 }
  where
    lt_of : (x y : ℕ) → nat_lt x y ≡ true → x < y
    lt_of x y e = grind arith

join_counted : (row : JoinRow) (t : ℕ) → row.at ≤ t → row.at < 4102444800000 → (kind : Option PeriodKind) → kind_in row.pkind ≡ kind → takes_period row kind ≡ true
    → IsCounted (tally_in row).allowance t × (row.pnumber < 2 ^ 32)
join_counted row t le early None is h =
    let at_used = and_parts ((row.pkind == 0) && (row.first == 1) && (row.pnumber == 0) && (row.allowance == 0)) (row.used == 0) h in
    let at_allowance = and_parts ((row.pkind == 0) && (row.first == 1) && (row.pnumber == 0)) (row.allowance == 0) at_used.0 in
    let at_number = and_parts ((row.pkind == 0) && (row.first == 1)) (row.pnumber == 0) at_allowance.0 in
    let used = zero_of row.used at_used.1 in
    let allowance = zero_of row.allowance at_allowance.1 in
    let number = zero_of row.pnumber at_number.1 in (
      record {
        begun = subst (λ k. IfSome (option_map (λ (kind : PeriodKind). record { kind = kind; number = row.pnumber }) k) (λ p. begin_of p ≤ t)) (sym is) tt;
        within = omega (arith, used, allowance);
        bounded = omega (arith, allowance);
      },
      omega (arith, number),
    )
  where
    zero_of : (n : ℕ) → (n == 0) ≡ true → n ≡ 0
    zero_of n e = grind arith
join_counted row t le early (Some kind) is h =
    let at_used = and_parts (is_flag row.first && nat_le row.pnumber (number_at kind row.at) && nat_le row.allowance MOST_UNITS) (nat_le row.used row.allowance) h in
    let at_allowance = and_parts (is_flag row.first && nat_le row.pnumber (number_at kind row.at)) (nat_le row.allowance MOST_UNITS) at_used.0 in
    let at_number = and_parts (is_flag row.first) (nat_le row.pnumber (number_at kind row.at)) at_allowance.0 in
    let number = le_of row.pnumber (number_at kind row.at) at_number.1 in
    let begun = kinds kind row.pnumber row.at number early in
    let small = number_small kind row.at early in (
      record {
        begun = subst (λ k. IfSome (option_map (λ (kind : PeriodKind). record { kind = kind; number = row.pnumber }) k) (λ p. begin_of p ≤ t)) (sym is) (omega (arith, begun, le));
        within = le_of row.used row.allowance at_used.1;
        bounded = le_of row.allowance MOST_UNITS at_allowance.1;
      },
      omega (arith, number, small),
    )
  where
    le_of : (x y : ℕ) → nat_le x y ≡ true → x ≤ y
    le_of x y e = grind arith

join_filled : (of : PlanRow) (row : JoinRow) → takes_level row of ≡ true → IsFilled (terms_in of) (tally_in row)
join_filled of row h same = pick (of.burst == 0)
  where
    pick : (b : Bool) → IfSome (cond b None (Some (record { rate = of.rate; burst = of.burst }))) (λ (throttle : Throttle). row.level ≤ capacity throttle)
    pick true = tt
    pick false = level
      where
        level : row.level ≤ 1000 * of.burst
        level = grind (arith, h, same)

version_below : (of : PlanRow) (row : JoinRow) → takes_level row of ≡ true → row.tversion ≤ of.tversion
version_below of row h = grind (arith, h)

pub opens_fit : (lists : Lists) → bad_row lists ≡ None → AreFit lists (latest_of lists.joins)
opens_fit lists good =
    record {
      early = let e = opens_in_time lists good in omega (arith, e);
      keys = λ key row found. let t = taken_found takes_key (is_key key) [] lists.keys row taken.keys found in key_named t.0 row t.1;
      plans = λ plan row found. let t = taken_found (takes_plan lists) (is_plan plan) [] lists.plans row taken.plans found in plan_fits lists t.0 row t.1;
      planned = λ plan key row found. plan_stands plan key row found;
      joins = λ plan key of row p found. join_fits plan key of row p found;
    }
  where
    taken : AllTaken lists
    taken = all_taken lists good

    of_join : (plan key : List ℕ) (row : JoinRow) → join_row lists plan key ≡ Some row → JoinTaken lists row
    of_join plan key row found = let t = taken_found (takes_join lists) (is_join plan key) [] lists.joins row taken.joins found in join_taken lists t.0 row t.1

    of_plan : (plan key : List ℕ) (row : JoinRow) → join_row lists plan key ≡ Some row → row.plan ≡ plan
    of_plan plan key row found = same_text row.plan plan (and_parts (bytes_eq row.plan plan) (bytes_eq row.key key) (found_holds (is_join plan key) lists.joins row found)).0

    stands_if : (row : JoinRow) (found : Option PlanRow) → takes_of_plan row found ≡ true → is_some found ≡ true
    stands_if row None e = absurd cc
    stands_if row (Some of) e = refl

    plan_stands : (plan key : List ℕ) (row : JoinRow) → join_row lists plan key ≡ Some row → is_some (plan_row lists plan) ≡ true
    plan_stands plan key row found =
        subst (λ p. is_some (plan_row lists p) ≡ true) (of_plan plan key row found) (stands_if row (plan_row lists row.plan) (of_join plan key row found).plan)

    join_fits : (plan key : List ℕ) (of : PlanRow) (row : JoinRow) → plan_row lists plan ≡ Some of → join_row lists plan key ≡ Some row → IsFitJoin of row (latest_of lists.joins)
    join_fits plan key of row p found =
        let said = of_join plan key row found in
        let level : takes_level row of ≡ true = subst (λ o. takes_of_plan row o ≡ true) (ap (plan_row lists) (of_plan plan key row found) ∙ p) said.plan in
        let later = latest_least (is_join plan key) lists.joins row found in
        let counted = join_counted row (latest_of lists.joins) later said.early (kind_in row.pkind) refl said.period in
        record {
          tally = record { filled = join_filled of row level; later = later; counted = counted.0 };
          number = counted.1;
          version = version_below of row level;
        }
