-- Rows that may stand go on to, whatever befalls them.
use Rattle.std.proofs.Common.{◌≡◌, ◌≢◌, ◌∙◌, sym, ap, subst, refl, ℕ, ◌+◌, ◌-◌, ◌*◌, ◌<◌, ◌≤◌, ◌^◌, ◌==◌, min, Bool, true, false, not, ◌&&◌, ◌||◌, List, [], ◌∷◌, length, find, Option, Some, None, IfSome, option_map, unwrap_or, is_none, Result, Ok, Err, cond, arith}
use Rattle.std.specs.Prelude.{is_some, nat_le, nat_lt}
use Rattle.std.specs.Int.{IsInRange}
use Rattle.std.specs.Str.{bytes_eq}
use Rattle.std.proofs.lemmas.Bool.{and_parts}
use Rattle.std.proofs.lemmas.Slice.Eq.{bytes_eq-Decides}
use Rattle.gw_base.specs.Names.{is_name}
use Rattle.call_facts.specs.Pairs.{Pairs}
use Rattle.usage_meter.specs.Allowances.{allowance_at, opened_allowance}
use Rattle.usage_meter.specs.Levels.{capacity, level_at}
use Rattle.usage_meter.specs.Periods.{begin_of, is_standing, number_at}
use Rattle.usage_meter.specs.declared.allowance.Allowance.{Allowance}
use Rattle.usage_meter.specs.declared.allowance.Quota.{Quota}
use Rattle.usage_meter.specs.declared.period.Period.{Period}
use Rattle.usage_meter.specs.declared.period.PeriodKind.{PeriodKind}
use Rattle.usage_meter.specs.declared.period.PeriodKind.TheVariants.{Day, Week, Month}
use Rattle.usage_meter.specs.declared.throttle.Throttle.{Throttle}
use Rattle.usage_meter.proofs.PeriodLemmas.{holds_own}
use Rattle.usage_plans.proofs.Showing.{throttle-same}
use Rattle.usage_plans.specs.Deeds.{kind_number, same_throttle}
use Rattle.usage_plans.specs.Rows.{IsPlanRow, kind_column, kind_in, number_column, period_in, quota_in, row_with, tally_in, terms_in, throttle_in}
use Rattle.usage_plans.specs.Tallies.{IsCounted, IsFilled, IsTally, admission_of, bucket_under, counted, decided, decided_grant, enlarged_by, grant_of, is_spent, joined_at, level_taken, level_under, more_allowed, no_allowance, one_used, written}
use Rattle.usage_plans.specs.declared.tally.Admission.{Admission}
use Rattle.usage_plans.specs.declared.tally.Admission.TheVariants as admission
use Rattle.usage_plans.specs.declared.tally.GrantRefusal.{GrantRefusal}
use Rattle.usage_plans.specs.declared.tally.Tally.{Tally}
use Rattle.usage_plans.specs.declared.terms.TheConstants.{MOST_UNITS}
use Rattle.usage_plans.specs.declared.terms.Terms.{Terms}
use Rattle.keeper_core.specs.Lists.{Lists, is_key, is_plan, is_join, key_behind, plan_behind, join_behind, key_row, plan_row, join_row, put, put_by}
use Rattle.keeper_core.specs.declared.rows.Row.{Row}
use Rattle.keeper_core.specs.declared.rows.Row.TheVariants.{Meta, Api, Deployment, Stage, Key, Plan, Join}
use Rattle.keeper_core.specs.declared.rows.KeyRow.{KeyRow}
use Rattle.keeper_core.specs.declared.rows.PlanRow.{PlanRow}
use Rattle.keeper_core.specs.declared.rows.JoinRow.{JoinRow}
use Rattle.keeper_core.proofs.Finding.{find_put, find_beside_put}
use Rattle.book_rules.proofs.Viewing.{found_holds}
use Rattle.book_rules.specs.Fits.{AreFit, IsFitJoin, IsFitPlan}
use Rattle.book_rules.specs.Limits.{most_joins, most_keys, most_per_second, most_plan_stages, most_plans, most_versions}
use Rattle.book_rules.specs.Machine.{put_kept}
use Rattle.book_rules.specs.Outcomes.{Outcome, first_refusal, says, unless, writes}
use Rattle.book_rules.specs.PlanCommands.{all_stand, burst_in, has_other_plan, is_of_another, is_quota, is_stage_taken, is_throttle, join_tests, key_with, kind_of_quota, limit_in, offset_in, plan_of, put_key_tests, put_plan_tests, rate_in, unused, version_with}
use Rattle.book_rules.specs.Names.{is_key_value}
use Rattle.book_rules.specs.PlanStages.{are_stage_names, stages_of}
use Rattle.book_rules.specs.declared.replies.Refusal.{Refusal}
use Rattle.book_rules.specs.declared.replies.Refusal.TheVariants.{BadName, BadThrottle, BadQuota, NoStage, StageTaken, Full}
use Rattle.fit_rows.proofs.Fitting.{number_small}

same_text : (a b : List ℕ) → bytes_eq a b ≡ true → a ≡ b
same_text a b e = (bytes_eq-Decides a b).0 e

is_itself : (a : List ℕ) → bytes_eq a a ≡ true
is_itself a = (bytes_eq-Decides a a).1 refl

some_same : {A : Type 0} (a b : A) → Some a ≡ Some b → a ≡ b
some_same a b same = cc

-- WHAT IS WRITTEN IS READ
pub read_back : (row : JoinRow) (tally : Tally) → tally_in (row_with row tally) ≡ tally
read_back row tally =
    ap (λ p. record {
      bucket = tally.bucket;
      version = tally.version;
      allowance = record {
        period = p;
        allowance = tally.allowance.allowance;
        used = tally.allowance.used;
        first = (cond tally.allowance.first 1 0) == 1;
      };
    }) (period_back tally.allowance.period)
    ∙ ap (λ f. record { bucket = tally.bucket; version = tally.version; allowance = record { period = tally.allowance.period; allowance = tally.allowance.allowance; used = tally.allowance.used; first = f } })
    (flag_back tally.allowance.first)
  where
    flag_back : (b : Bool) → ((cond b 1 0) == 1) ≡ b
    flag_back true = refl
    flag_back false = refl

    kind_back : (kind : PeriodKind) (n : ℕ) → option_map {U = Period} (λ (k : PeriodKind). record { kind = k; number = n }) (kind_in (kind_number kind)) ≡ Some (record { kind = kind; number = n })
    kind_back Day n = refl
    kind_back Week n = refl
    kind_back Month n = refl

    period_back : (period : Option Period) → option_map {U = Period} (λ (k : PeriodKind). record { kind = k; number = number_column period }) (kind_in (kind_column period)) ≡ period
    period_back None = refl
    period_back (Some p) = kind_back p.kind p.number

-- A ROW'S LEVEL is full at most
filled_with : (terms : Terms) (f : ℕ → ℕ) (bucket : (Throttle → ℕ)) (t : ℕ) (allowance : Allowance)
    → ((throttle : Throttle) → f (bucket throttle) ≤ capacity throttle)
    → IsFilled terms (written terms (option_map f (option_map bucket terms.throttle)) t allowance)
filled_with terms f bucket t allowance small same = pick terms.throttle
  where
    pick : (throttle : Option Throttle) → IfSome throttle (λ th. unwrap_or (option_map f (option_map bucket throttle)) 0 ≤ capacity th)
    pick None = tt
    pick (Some th) = small th

least_left : (throttle : Throttle) (n : ℕ) → min (capacity throttle) n - 1000 ≤ capacity throttle
least_left throttle n = omega arith

least : (throttle : Throttle) (n : ℕ) → min (capacity throttle) n ≤ capacity throttle
least throttle n = omega arith

-- WHAT STANDS of a row's period
record Stands (allowance : Allowance) (t : ℕ) : Type 0 where
  counted : IsCounted allowance t
  small : IfSome allowance.period (λ p. p.number < 2 ^ 32)

record IsQuotaIn (quota : Option Quota) : Type 0 where
  limit : IfSome quota (λ q. q.limit ≤ MOST_UNITS)

standing_stands : (own : Allowance) (quota : Option Quota) (t : ℕ) → t < 4102444800000 → IsQuotaIn quota → Stands own t → IfSome (allowance_at own quota t) (λ s. Stands s t)
standing_stands own quota t early bounded h = pick (is_standing own.period t)
  where
    opened : (q : Quota) → q.limit ≤ MOST_UNITS → Stands (opened_allowance q t (is_none own.period)) t
    opened q bound =
        record {
          counted = record { begun = (holds_own q.kind t early).begun; within = omega arith; bounded = less (is_none own.period) };
          small = number_small q.kind t early;
        }
      where
        less : (first : Bool) → q.limit - cond first q.offset 0 ≤ MOST_UNITS
        less true = omega (arith, bound)
        less false = omega (arith, bound)

    anew : (quota : Option Quota) → IfSome quota (λ q. q.limit ≤ MOST_UNITS) → IfSome (option_map (λ q. opened_allowance q t (is_none own.period)) quota) (λ s. Stands s t)
    anew None b = tt
    anew (Some q) b = opened q b

    pick : (b : Bool) → IfSome (cond b (Some own) (option_map (λ q. opened_allowance q t (is_none own.period)) quota)) (λ s. Stands s t)
    pick true = h
    pick false = anew quota bounded.limit

quota_bounded : (of : PlanRow) → IsFitPlan of → IsQuotaIn (terms_in of).quota
quota_bounded of h = record { limit = pick (kind_in of.qkind) }
  where
    pick : (kind : Option PeriodKind) → IfSome {T = Quota} (option_map {U = Quota} (λ (k : PeriodKind). record { limit = of.qlimit; offset = of.qoffset; kind = k }) kind) (λ q. q.limit ≤ MOST_UNITS)
    pick None = tt
    pick (Some kind) = h.columns.limit

-- the number of a period's column
period_small : (row : JoinRow) → row.pnumber < 2 ^ 32 → IfSome (period_in row) (λ p. p.number < 2 ^ 32)
period_small row h = pick (kind_in row.pkind)
  where
    pick : (kind : Option PeriodKind) → IfSome {T = Period} (option_map {U = Period} (λ (k : PeriodKind). record { kind = k; number = row.pnumber }) kind) (λ p. p.number < 2 ^ 32)
    pick None = tt
    pick (Some kind) = h

column_small : (period : Option Period) → IfSome period (λ p. p.number < 2 ^ 32) → number_column period < 2 ^ 32
column_small None h = omega arith
column_small (Some p) h = h

-- A ROW THAT IS WRITTEN with a tally under a plan fits
fits_written : (of : PlanRow) (row : JoinRow) (level : Option ℕ) (allowance : Allowance) (t : ℕ)
    → IsFilled (terms_in of) (written (terms_in of) level t allowance) → Stands allowance t → IsFitJoin of (row_with row (written (terms_in of) level t allowance)) t
fits_written of row level allowance t filled stands =
    let tally = written (terms_in of) level t allowance in
    record {
      tally = subst (λ x. IsTally (terms_in of) x t) (sym (read_back row tally)) (record { filled = filled; later = omega arith; counted = stands.counted });
      number = column_small allowance.period stands.small;
      version = omega arith;
    }

abbrev pub AdmittedFits : PlanRow → JoinRow → ℕ → Admission → Type 0
AdmittedFits of row t (admission.Admitted tally) = IsFitJoin of (row_with row tally) t
AdmittedFits of row t (admission.Throttled level) = Unit {0}
AdmittedFits of row t (admission.QuotaExceeded allowance used) = Unit {0}

abbrev pub GrantedFits : PlanRow → JoinRow → ℕ → Result Tally GrantRefusal → Type 0
GrantedFits of row t (Ok tally) = IsFitJoin of (row_with row tally) t
GrantedFits of row t (Err refusal) = Unit {0}

module _ (of : PlanRow) (row : JoinRow) (t : ℕ) (early : t < 4102444800000) (plan : IsFitPlan of) (join : IsFitJoin of row t) where
  own_stands : Stands (tally_in row).allowance t
  own_stands = record { counted = join.tally.counted; small = period_small row join.number }

  stands : IfSome (allowance_at (tally_in row).allowance (terms_in of).quota t) (λ s. Stands s t)
  stands = standing_stands (tally_in row).allowance (terms_in of).quota t early (quota_bounded of plan) own_stands

  abbrev bucket_level : Throttle → ℕ
  bucket_level throttle = level_at throttle (bucket_under of.tversion throttle (tally_in row) t) t

  taken_filled : (allowance : Allowance) → IsFilled (terms_in of) (written (terms_in of) (level_taken (level_under (terms_in of) (tally_in row) t)) t allowance)
  taken_filled allowance = filled_with (terms_in of) (λ l. l - 1000) bucket_level t allowance (λ throttle. least_left throttle _)

  kept_filled : (allowance : Allowance) → IsFilled (terms_in of) (written (terms_in of) (level_under (terms_in of) (tally_in row) t) t allowance)
  kept_filled allowance same = pick (terms_in of).throttle
    where
      pick : (throttle : Option Throttle) → IfSome throttle (λ th. unwrap_or (option_map bucket_level throttle) 0 ≤ capacity th)
      pick None = tt
      pick (Some th) = least th _

  counted_fits : (standing : Option Allowance) → IfSome standing (λ s. Stands s t)
      → AdmittedFits of row t (counted (terms_in of) (level_under (terms_in of) (tally_in row) t) t (tally_in row).allowance standing)
  counted_fits None h = fits_written of row (level_taken (level_under (terms_in of) (tally_in row) t)) (tally_in row).allowance t (taken_filled (tally_in row).allowance) own_stands
  counted_fits (Some s) h = pick (nat_le s.allowance s.used) refl
    where
      used_too : nat_le s.allowance s.used ≡ false → Stands (one_used s) t
      used_too left = record { counted = record { begun = h.counted.begun; within = more; bounded = h.counted.bounded }; small = h.small }
        where
          more : s.used + 1 ≤ s.allowance
          more = grind (arith, left)

      pick : (b : Bool) → nat_le s.allowance s.used ≡ b
          → AdmittedFits of row t (cond b (admission.QuotaExceeded s.allowance s.used) (admission.Admitted (written (terms_in of) (level_taken (level_under (terms_in of) (tally_in row) t)) t (one_used s))))
      pick true e = tt
      pick false e = fits_written of row (level_taken (level_under (terms_in of) (tally_in row) t)) (one_used s) t (taken_filled (one_used s)) (used_too e)

  pub admitted_fits : AdmittedFits of row t (admission_of (terms_in of) (tally_in row) t)
  admitted_fits = pick (is_spent (level_under (terms_in of) (tally_in row) t))
    where
      pick : (b : Bool) → AdmittedFits of row t (cond b (admission.Throttled (unwrap_or (level_under (terms_in of) (tally_in row) t) 0))
          (counted (terms_in of) (level_under (terms_in of) (tally_in row) t) t (tally_in row).allowance (allowance_at (tally_in row).allowance (terms_in of).quota t)))
      pick true = tt
      pick false = counted_fits (allowance_at (tally_in row).allowance (terms_in of).quota t) stands

  granted_fits : (amount : ℕ) (standing : Option Allowance) → IfSome standing (λ s. Stands s t)
      → GrantedFits of row t (decided_grant (terms_in of) (level_under (terms_in of) (tally_in row) t) standing amount t)
  granted_fits amount None h = tt
  granted_fits amount (Some s) h = pick (nat_le (s.allowance + amount) MOST_UNITS) refl
    where
      allowed : nat_le (s.allowance + amount) MOST_UNITS ≡ true → Stands (more_allowed amount s) t
      allowed e = record { counted = record { begun = h.counted.begun; within = let w = h.counted.within in omega (arith, w); bounded = le_of (s.allowance + amount) MOST_UNITS e }; small = h.small }
        where
          le_of : (x y : ℕ) → nat_le x y ≡ true → x ≤ y
          le_of x y e = grind arith

      pick : (b : Bool) → nat_le (s.allowance + amount) MOST_UNITS ≡ b → GrantedFits of row t (Rattle.std.specs.Result.result_map_both (λ allowance. written (terms_in of) (level_under (terms_in of) (tally_in row) t) t allowance) (λ refusal. refusal) (cond b (Ok (more_allowed amount s)) (Err Rattle.usage_plans.specs.declared.tally.GrantRefusal.TheVariants.TooLarge)))
      pick true e = fits_written of row (level_under (terms_in of) (tally_in row) t) (more_allowed amount s) t (kept_filled (more_allowed amount s)) (allowed e)
      pick false e = tt

  pub grant_fits : (amount : ℕ) → GrantedFits of row t (grant_of (terms_in of) (tally_in row) amount t)
  grant_fits amount = granted_fits amount (allowance_at (tally_in row).allowance (terms_in of).quota t) stands

-- a key that joins
pub joined_fits : (of : PlanRow) (row : JoinRow) (t : ℕ) → IsFitJoin of (row_with row (joined_at (terms_in of) t)) t
joined_fits of row t =
    fits_written of row (option_map capacity (terms_in of).throttle) no_allowance t filled (record { counted = record { begun = tt; within = omega arith; bounded = omega arith }; small = tt })
  where
    filled : IsFilled (terms_in of) (written (terms_in of) (option_map capacity (terms_in of).throttle) t no_allowance)
    filled same = pick (terms_in of).throttle
      where
        pick : (throttle : Option Throttle) → IfSome throttle (λ th. unwrap_or (option_map capacity throttle) 0 ≤ capacity th)
        pick None = tt
        pick (Some th) = omega arith

-- A PLAN THAT IS PUT
pub no_refusal : (b : Bool) (refusal : Refusal) (tests : List (Bool × Refusal)) → first_refusal ((b, refusal) ∷ tests) ≡ None → (b ≡ false) × (first_refusal tests ≡ None)
no_refusal true refusal tests e = absurd cc
no_refusal false refusal tests e = (refl, e)

pub not_false : (b : Bool) → not b ≡ false → b ≡ true
not_false true e = refl
not_false false e = absurd cc

le_of : (x y : ℕ) → nat_le x y ≡ true → x ≤ y
le_of x y e = grind arith

throttle_read : (throttle : Option Throttle) (plan : PlanRow) → plan.rate ≡ rate_in throttle → plan.burst ≡ burst_in throttle → is_throttle throttle ≡ true → throttle_in plan ≡ throttle
unfolding most_per_second
throttle_read None plan r b h = ap (λ n. cond (n == 0) None (Some (record { rate = plan.rate; burst = plan.burst }))) b
throttle_read (Some throttle) plan r b h =
    ap (λ n. cond n None (Some (record { rate = plan.rate; burst = plan.burst }))) some ∙ ap (λ n. Some (record { rate = n; burst = plan.burst })) r ∙ ap (λ n. Some (record { rate = throttle.rate; burst = n })) b
  where
    above : 1 ≤ throttle.burst
    above =
        le_of 1 throttle.burst
        (and_parts (nat_le 1 throttle.rate && nat_le throttle.rate 1000000) (nat_le 1 throttle.burst)
        (and_parts (nat_le 1 throttle.rate && nat_le throttle.rate 1000000 && nat_le 1 throttle.burst) (nat_le throttle.burst 1000000) h).0).1

    not_none : (n : ℕ) → 1 ≤ n → (n == 0) ≡ false
    not_none n l = grind (arith, l)

    some : (plan.burst == 0) ≡ false
    some = ap (λ n. n == 0) b ∙ not_none throttle.burst above

throttle_columns : (throttle : Option Throttle) → is_throttle throttle ≡ true → (burst_in throttle ≢ 0 → IsInRange 1 1_000_000 (rate_in throttle)) × (burst_in throttle ≤ 1_000_000)
unfolding most_per_second
throttle_columns None h = ((λ some. absurd (some refl)), omega arith)
throttle_columns (Some throttle) h =
    let at_d = and_parts (nat_le 1 throttle.rate && nat_le throttle.rate 1000000 && nat_le 1 throttle.burst) (nat_le throttle.burst 1000000) h in
    let at_c = and_parts (nat_le 1 throttle.rate && nat_le throttle.rate 1000000) (nat_le 1 throttle.burst) at_d.0 in
    let at_b = and_parts (nat_le 1 throttle.rate) (nat_le throttle.rate 1000000) at_c.0 in
    ((λ some. (le_of 1 throttle.rate at_b.0, le_of throttle.rate 1000000 at_b.1)), le_of throttle.burst 1000000 at_d.1)

quota_columns : (quota : Option Quota) → is_quota quota ≡ true → (limit_in quota ≤ MOST_UNITS) × (offset_in quota ≤ limit_in quota)
quota_columns None h = (omega arith, omega arith)
quota_columns (Some quota) h = let b = and_parts (nat_le quota.limit MOST_UNITS) (nat_le quota.offset quota.limit) h in (le_of quota.limit MOST_UNITS b.0, le_of quota.offset quota.limit b.1)

or_first : (a b : Bool) → (a || b) ≡ false → (a ≡ false) × (b ≡ false)
or_first true b e = absurd cc
or_first false b e = (refl, e)

-- what is known of a plan that is not refused
pub record PlanTaken (lists : Lists) (plan : List ℕ) (throttle : Option Throttle) (quota : Option Quota) : Type 0 where
  pub named : is_name plan ≡ true
  pub throttled : is_throttle throttle ≡ true
  pub metered : is_quota quota ≡ true
  pub version : version_with (plan_row lists plan) throttle ≤ most_versions

pub plan_taken : (lists : Lists) (plan : List ℕ) (throttle : Option Throttle) (quota : Option Quota) (stages : Pairs) → first_refusal (put_plan_tests lists plan throttle quota stages) ≡ None
    → PlanTaken lists plan throttle quota
plan_taken lists plan throttle quota stages none =
    let full = nat_lt most_plan_stages (length stages) || is_none (plan_row lists plan) && nat_le most_plans (length lists.plans) || nat_lt most_versions (version_with (plan_row lists plan) throttle) in
    let at_full : List (Bool × Refusal) = (full, Full) ∷ [] in
    let at_taken : List (Bool × Refusal) = (is_stage_taken lists plan stages, StageTaken) ∷ at_full in
    let at_stand : List (Bool × Refusal) = (not (all_stand lists stages), NoStage) ∷ at_taken in
    let at_quota : List (Bool × Refusal) = (not (is_quota quota), BadQuota) ∷ at_stand in
    let at_throttle : List (Bool × Refusal) = (not (is_throttle throttle), BadThrottle) ∷ at_quota in
    let a = no_refusal (not (is_name plan && are_stage_names stages)) BadName at_throttle none in
    let b = no_refusal (not (is_throttle throttle)) BadThrottle at_quota a.1 in
    let c = no_refusal (not (is_quota quota)) BadQuota at_stand b.1 in
    let d = no_refusal (not (all_stand lists stages)) NoStage at_taken c.1 in
    let e = no_refusal (is_stage_taken lists plan stages) StageTaken at_full d.1 in
    let f = no_refusal full Full [] e.1 in
    let g = or_first (nat_lt most_plan_stages (length stages) || is_none (plan_row lists plan) && nat_le most_plans (length lists.plans)) (nat_lt most_versions (version_with (plan_row lists plan) throttle)) f.0 in
    record { named = (and_parts (is_name plan) (are_stage_names stages) (not_false (is_name plan && are_stage_names stages) a.0)).0; throttled = not_false (is_throttle throttle) b.0; metered = not_false (is_quota quota) c.0; version = at_most most_versions (version_with (plan_row lists plan) throttle) g.1 }
  where
    at_most : (x y : ℕ) → nat_lt x y ≡ false → y ≤ x
    at_most x y e = grind arith

pub plan_fits : (lists : Lists) (plan : List ℕ) (throttle : Option Throttle) (quota : Option Quota) (stages : Pairs) → PlanTaken lists plan throttle quota
    → IsFitPlan (plan_of (plan_row lists plan) plan throttle quota stages)
plan_fits lists plan throttle quota stages h =
    let t = throttle_columns throttle h.throttled in
    let q = quota_columns quota h.metered in
    record { named = h.named; columns = record { rate = t.0; burst = t.1; limit = q.0; offset = q.1 }; version = h.version }

-- a join outlasts the plan that it stood under
pub outlasts : (of : PlanRow) (plan : List ℕ) (throttle : Option Throttle) (quota : Option Quota) (stages : Pairs) (row : JoinRow) (t : ℕ) → is_throttle throttle ≡ true → IsFitJoin of row t
    → IsFitJoin (plan_of (Some of) plan throttle quota stages) row t
outlasts of plan throttle quota stages row t taken h = pick (same_throttle (throttle_in of) throttle) refl
  where
    new : PlanRow
    new = plan_of (Some of) plan throttle quota stages

    read : throttle_in new ≡ throttle
    read = throttle_read throttle new refl refl taken

    with_version : (b : Bool) → same_throttle (throttle_in of) throttle ≡ b → new.tversion ≡ cond b of.tversion (of.tversion + 1)
    with_version b e = ap (λ c. cond c of.tversion (of.tversion + 1)) e

    pick : (b : Bool) → same_throttle (throttle_in of) throttle ≡ b → IsFitJoin new row t
    pick true e =
        record {
          tally = record {
            filled = λ same. subst (λ (th : Option Throttle). IfSome th (λ throttle. row.level ≤ capacity throttle)) (throttle-same (throttle_in of) throttle e ∙ sym read) (h.tally.filled (same ∙ with_version true e));
            later = h.tally.later;
            counted = h.tally.counted;
          };
          number = h.number;
          version = let v = with_version true e in let w = h.version in omega (arith, v, w);
        }
    pick false e =
        record {
          tally = record {
            filled = λ same. absurd (let v = with_version false e in let w = h.version in let s : row.tversion ≡ new.tversion = same in omega (arith, v, w, s));
            later = h.tally.later;
            counted = h.tally.counted;
          };
          number = h.number;
          version = let v = with_version false e in let w = h.version in omega (arith, v, w);
        }

-- A ROW THAT IS PUT
key_put : (rows : List KeyRow) (row : KeyRow) (key : List ℕ) (b : Bool) → bytes_eq row.key key ≡ b
    → find (is_key key) (put_by (is_key row.key) (key_behind row.key) row rows) ≡ cond b (Some row) (find (is_key key) rows)
key_put rows row key true e =
    subst (λ k. find (is_key k) (put_by (is_key row.key) (key_behind row.key) row rows) ≡ Some row) (same_text row.key key e) (find_put (is_key row.key) (key_behind row.key) row (is_itself row.key) rows)
key_put rows row key false e = find_beside_put (is_key row.key) (key_behind row.key) (is_key key) row e (λ y h. ap (λ k. bytes_eq k key) (same_text y.key row.key h) ∙ e) rows

plan_put : (rows : List PlanRow) (row : PlanRow) (plan : List ℕ) (b : Bool) → bytes_eq row.plan plan ≡ b
    → find (is_plan plan) (put_by (is_plan row.plan) (plan_behind row.plan) row rows) ≡ cond b (Some row) (find (is_plan plan) rows)
plan_put rows row plan true e =
    subst (λ p. find (is_plan p) (put_by (is_plan row.plan) (plan_behind row.plan) row rows) ≡ Some row) (same_text row.plan plan e) (find_put (is_plan row.plan) (plan_behind row.plan) row (is_itself row.plan) rows)
plan_put rows row plan false e = find_beside_put (is_plan row.plan) (plan_behind row.plan) (is_plan plan) row e (λ y h. ap (λ p. bytes_eq p plan) (same_text y.plan row.plan h) ∙ e) rows

both_are : (a b : Bool) → a ≡ true → b ≡ true → (a && b) ≡ true
both_are true true e f = refl
both_are true false e f = f
both_are false b e f = absurd cc

join_put : (rows : List JoinRow) (row : JoinRow) (plan key : List ℕ) (b : Bool) → (bytes_eq row.plan plan && bytes_eq row.key key) ≡ b
    → find (is_join plan key) (put_by (is_join row.plan row.key) (join_behind row.plan row.key) row rows) ≡ cond b (Some row) (find (is_join plan key) rows)
join_put rows row plan key true e =
    let parts = and_parts (bytes_eq row.plan plan) (bytes_eq row.key key) e in
    subst (λ p. find (is_join p key) (put_by (is_join row.plan row.key) (join_behind row.plan row.key) row rows) ≡ Some row) (same_text row.plan plan parts.0)
    (subst (λ k. find (is_join row.plan k) (put_by (is_join row.plan row.key) (join_behind row.plan row.key) row rows) ≡ Some row) (same_text row.key key parts.1)
    (find_put (is_join row.plan row.key) (join_behind row.plan row.key) row (both_are (bytes_eq row.plan row.plan) (bytes_eq row.key row.key) (is_itself row.plan) (is_itself row.key)) rows))
join_put rows row plan key false e =
    find_beside_put (is_join row.plan row.key) (join_behind row.plan row.key) (is_join plan key) row e
    (λ y h. let parts = and_parts (bytes_eq y.plan row.plan) (bytes_eq y.key row.key) h in
    ap (λ p. bytes_eq p plan && bytes_eq y.key key) (same_text y.plan row.plan parts.0) ∙ ap (λ k. bytes_eq row.plan plan && bytes_eq k key) (same_text y.key row.key parts.1) ∙ e) rows

-- the row may stand, once it is put
abbrev pub IsFitRow : Lists → ℕ → Row → Type 0
IsFitRow lists t (Meta row) = Unit {0}
IsFitRow lists t (Api row) = Unit {0}
IsFitRow lists t (Deployment row) = Unit {0}
IsFitRow lists t (Stage row) = Unit {0}
IsFitRow lists t (Key row) = is_name row.key ≡ true
IsFitRow lists t (Plan row) = IsFitPlan row × ((key : List ℕ) (join : JoinRow) → join_row lists row.plan key ≡ Some join → IsFitJoin row join t)
IsFitRow lists t (Join row) = (is_some (plan_row lists row.plan) ≡ true) × ((of : PlanRow) → plan_row lists row.plan ≡ Some of → IsFitJoin of row t)

-- what is found after a row was put is that row, or what was found before
found_either : {R : Type 0} (b : Bool) (row found : R) (before : Option R) (P : R → Type 0) → cond b (Some row) before ≡ Some found → (b ≡ true → P row) → (b ≡ false → before ≡ Some found → P found) → P found
found_either true row found before P e here there = subst P (some_same row found e) (here refl)
found_either false row found before P e here there = there refl e

pub put_fits : (row : Row) (lists : Lists) (t : ℕ) → IsFitRow lists t row → AreFit lists t → AreFit (put row lists) t
put_fits (Meta row) lists t new h = record { early = h.early; keys = h.keys; plans = h.plans; planned = h.planned; joins = h.joins }
put_fits (Api row) lists t new h = record { early = h.early; keys = h.keys; plans = h.plans; planned = h.planned; joins = h.joins }
put_fits (Deployment row) lists t new h = record { early = h.early; keys = h.keys; plans = h.plans; planned = h.planned; joins = h.joins }
put_fits (Stage row) lists t new h = record { early = h.early; keys = h.keys; plans = h.plans; planned = h.planned; joins = h.joins }
put_fits (Key row) lists t new h =
    record {
      early = h.early;
      keys = λ key found e. found_either (bytes_eq row.key key) row found (key_row lists key) (λ r. is_name r.key ≡ true) (sym (key_put lists.keys row key (bytes_eq row.key key) refl) ∙ e)
          (λ here. new) (λ other f. h.keys key found f);
      plans = h.plans;
      planned = h.planned;
      joins = h.joins;
    }
put_fits (Plan row) lists t new h =
    record {
      early = h.early;
      keys = h.keys;
      plans = λ plan found e. found_either (bytes_eq row.plan plan) row found (plan_row lists plan) IsFitPlan (sym (plan_put lists.plans row plan (bytes_eq row.plan plan) refl) ∙ e)
          (λ here. new.0) (λ other f. h.plans plan found f);
      planned = λ plan key join e. ap is_some (plan_put lists.plans row plan (bytes_eq row.plan plan) refl) ∙ some_of (bytes_eq row.plan plan) (plan_row lists plan) (h.planned plan key join e);
      joins = λ plan key of join p j. found_either (bytes_eq row.plan plan) row of (plan_row lists plan) (λ o. IsFitJoin o join t) (sym (plan_put lists.plans row plan (bytes_eq row.plan plan) refl) ∙ p)
          (λ here. new.1 key join (ap (λ q. join_row lists q key) (same_text row.plan plan here) ∙ j)) (λ other f. h.joins plan key of join f j);
    }
  where
    some_of : (b : Bool) (before : Option PlanRow) → is_some before ≡ true → is_some (cond b (Some row) before) ≡ true
    some_of true before e = refl
    some_of false before e = e
put_fits (Join row) lists t new h =
    record {
      early = h.early;
      keys = h.keys;
      plans = h.plans;
      planned = λ plan key join e. found_either (bytes_eq row.plan plan && bytes_eq row.key key) row join (join_row lists plan key) (λ j. is_some (plan_row lists plan) ≡ true)
          (sym (join_put lists.joins row plan key (bytes_eq row.plan plan && bytes_eq row.key key) refl) ∙ e)
          (λ here. subst (λ p. is_some (plan_row lists p) ≡ true) (same_text row.plan plan (and_parts (bytes_eq row.plan plan) (bytes_eq row.key key) here).0) new.0)
          (λ other f. h.planned plan key join f);
      joins = λ plan key of join p j. found_either (bytes_eq row.plan plan && bytes_eq row.key key) row join (join_row lists plan key) (λ x. IsFitJoin of x t)
          (sym (join_put lists.joins row plan key (bytes_eq row.plan plan && bytes_eq row.key key) refl) ∙ j)
          (λ here. new.1 of (ap (plan_row lists) (same_text row.plan plan (and_parts (bytes_eq row.plan plan) (bytes_eq row.key key) here).0) ∙ p))
          (λ other f. h.joins plan key of join p f);
    }
