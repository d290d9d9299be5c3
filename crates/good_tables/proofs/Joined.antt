-- A join whose numbers an admission or a grant has written is good.
use Rattle.std.proofs.Common.{◌≡◌, ℕ, suc, ◌+◌, ◌-◌, ◌*◌, ◌<◌, ◌≤◌, ◌==◌, min, Bool, true, false, not, ◌&&◌, ◌||◌, List, [], ◌∷◌, cond, Option, Some, None, IfSome, Result, Ok, Err, option_map, unwrap_or, refl, sym, ap, subst, ◌∙◌, arith}
use Rattle.std.specs.Prelude.{⊤, is_none, is_some, nat_le, nat_lt}
use Rattle.std.proofs.lemmas.Bool.{and_parts}
use Rattle.std.proofs.lemmas.Bool.Decides.{nat_tests}
use Rattle.usage_meter.proofs.MonthLemmas.{month_start-mono}
use Rattle.usage_meter.proofs.PeriodLemmas.{holds_own}
use Rattle.usage_meter.specs.Allowances.{allowance_at, opened_allowance}
use Rattle.usage_meter.specs.Levels.{capacity, level_at}
use Rattle.usage_meter.specs.Periods.{begin_of, is_standing, nth_begin, number_at}
use Rattle.usage_meter.specs.declared.allowance.Allowance.{Allowance}
use Rattle.usage_meter.specs.declared.allowance.Quota.{Quota}
use Rattle.usage_meter.specs.declared.period.Period.{Period}
use Rattle.usage_meter.specs.declared.period.PeriodKind.{PeriodKind}
use Rattle.usage_meter.specs.declared.period.PeriodKind.TheVariants.{Day, Week, Month}
use Rattle.usage_meter.specs.declared.throttle.Bucket.{Bucket}
use Rattle.usage_meter.specs.declared.throttle.Throttle.{Throttle}
use Rattle.usage_plans.specs.Rows.{kind_column, kind_in, number_column, period_in, row_with, tally_in, terms_in, throttle_in}
use Rattle.usage_plans.specs.Tallies.{IsTally, admission_of, bucket_under, counted, decided, decided_grant, enlarged_by, grant_of, is_spent, level_taken, level_under, more_allowed, one_used, written}
use Rattle.usage_plans.specs.declared.tally.Admission.{Admission}
use Rattle.usage_plans.specs.declared.tally.Admission.TheVariants as admission
use Rattle.usage_plans.specs.declared.tally.GrantRefusal.{GrantRefusal}
use Rattle.usage_plans.specs.declared.tally.GrantRefusal.TheVariants.{NoQuota, TooLarge}
use Rattle.usage_plans.specs.declared.tally.Tally.{Tally}
use Rattle.usage_plans.specs.declared.terms.TheConstants.{MOST_UNITS}
use Rattle.keeper_core.specs.Lists.{Lists, plan_row}
use Rattle.keeper_core.specs.declared.rows.JoinRow.{JoinRow}
use Rattle.keeper_core.specs.declared.rows.PlanRow.{PlanRow}
use Rattle.book_rules.specs.Fits.{IsFitJoin}
use Rattle.book_rules.specs.Good.{is_flag, takes_level, takes_of_plan, takes_period}
use Rattle.fit_rows.proofs.FitsOn.{read_back}
use Rattle.good_tables.proofs.Onces.{both_are}
use Rattle.good_tables.proofs.Tables.{IsJoin}

-- what a call or a grant writes under a plan at t: a level that is full at most, and without a period the row's own numbers
pub record IsWritten (of : PlanRow) (own : Allowance) (tally : Tally) (t : ℕ) : Type 0 where
  pub version : tally.version ≡ of.tversion
  pub level : tally.bucket.level ≤ 1000 * of.burst
  pub at : tally.bucket.at ≡ t
  pub kept : tally.allowance.period ≡ None → tally.allowance ≡ own

-- LEVELS
abbrev IsWithin : PlanRow → Option ℕ → Type 0
IsWithin of level = unwrap_or level 0 ≤ 1000 * of.burst

throttled : (of : PlanRow) (f : Throttle → ℕ) → ((throttle : Throttle) → f throttle ≤ capacity throttle) → IsWithin of (option_map f (throttle_in of))
throttled of f least = pick (of.burst == 0)
  where
    pick : (b : Bool) → IsWithin of (option_map f (cond b None (Some (record { rate = of.rate; burst = of.burst }))))
    pick true = omega arith
    pick false = least (record { rate = of.rate; burst = of.burst })

level_within : (of : PlanRow) (tally : Tally) (t : ℕ) → IsWithin of (level_under (terms_in of) tally t)
level_within of tally t =
    throttled of (λ throttle. level_at throttle (bucket_under of.tversion throttle tally t) t) (λ throttle. let n = (bucket_under of.tversion throttle tally t).level + throttle.rate * (t - (bucket_under of.tversion throttle tally t).at) in least (capacity throttle) n)
  where
    least : (c n : ℕ) → min c n ≤ c
    least c n = omega arith

taken_within : (of : PlanRow) (level : Option ℕ) → IsWithin of level → IsWithin of (level_taken level)
taken_within of None h = h
taken_within of (Some l) h = omega (arith, h)

-- what is written has the terms' version and this moment
written_is : (of : PlanRow) (own allowance : Allowance) (level : Option ℕ) (t : ℕ) → IsWithin of level → (allowance.period ≡ None → allowance ≡ own) → IsWritten of own (written (terms_in of) level t allowance) t
written_is of own allowance level t within kept = record { version = refl; level = within; at = refl; kept = kept }

-- what stands has a period
stands_some : (own : Allowance) (quota : Option Quota) (t : ℕ) (s : Allowance) → allowance_at own quota t ≡ Some s → s.period ≡ None → ⊥
stands_some own quota t s e none = by_own own.period refl
  where
    same : (a b : Allowance) → Some a ≡ Some b → a ≡ b
    same a b f = cc

    opened : (q : Option Quota) → option_map (λ q. opened_allowance q t (is_none own.period)) q ≡ Some s → ⊥
    opened None f = cc
    opened (Some q) f = let bad = ap (λ (a : Allowance). a.period) (same (opened_allowance q t (is_none own.period)) s f) ∙ none in cc

    by_own : (p : Option Period) → own.period ≡ p → ⊥
    by_own None f = opened quota (sym (ap (λ p. cond (is_standing p t) (Some own) (option_map (λ q. opened_allowance q t (is_none own.period)) quota)) f) ∙ e)
    by_own (Some p) f = by_stands (number_at p.kind t == p.number) (sym (ap (λ p. cond (is_standing p t) (Some own) (option_map (λ q. opened_allowance q t (is_none own.period)) quota)) f) ∙ e)
      where
        by_stands : (b : Bool) → cond b (Some own) (option_map (λ q. opened_allowance q t (is_none own.period)) quota) ≡ Some s → ⊥
        by_stands true g = let bad : Some p ≡ None = sym f ∙ ap (λ (a : Allowance). a.period) (same own s g) ∙ none in cc
        by_stands false g = opened quota g

-- AN ADMISSION
abbrev pub AdmittedIs : PlanRow → Allowance → ℕ → Admission → Type 0
AdmittedIs of own t (admission.Admitted tally) = IsWritten of own tally t
AdmittedIs of own t (admission.Throttled level) = ⊤
AdmittedIs of own t (admission.QuotaExceeded allowance used) = ⊤

pub admitted_is : (of : PlanRow) (tally : Tally) (t : ℕ) → AdmittedIs of tally.allowance t (admission_of (terms_in of) tally t)
admitted_is of tally t = by_level (is_spent level)
  where
    level : Option ℕ
    level = level_under (terms_in of) tally t

    standing : Option Allowance
    standing = allowance_at tally.allowance (terms_in of).quota t

    by_standing : (found : Option Allowance) → standing ≡ found → AdmittedIs of tally.allowance t (counted (terms_in of) level t tally.allowance found)
    by_standing None e = written_is of tally.allowance tally.allowance (level_taken level) t (taken_within of level (level_within of tally t)) (λ _. refl)
    by_standing (Some s) e =
        elim (nat_le s.allowance s.used) as (λ b. AdmittedIs of tally.allowance t (cond b (admission.QuotaExceeded s.allowance s.used) (admission.Admitted (written (terms_in of) (level_taken level) t (one_used s))))) [
          | true ↦ tt
          | false ↦ written_is of tally.allowance (one_used s) (level_taken level) t (taken_within of level (level_within of tally t)) (λ none. absurd (stands_some tally.allowance (terms_in of).quota t s e none))
        ]

    by_level : (b : Bool) → AdmittedIs of tally.allowance t (cond b (admission.Throttled (unwrap_or level 0)) (counted (terms_in of) level t tally.allowance standing))
    by_level true = tt
    by_level false = by_standing standing refl

-- A GRANT
abbrev pub GrantedIs : PlanRow → Allowance → ℕ → Result Tally GrantRefusal → Type 0
GrantedIs of own t (Ok tally) = IsWritten of own tally t
GrantedIs of own t (Err refusal) = ⊤

pub granted_is : (of : PlanRow) (tally : Tally) (amount t : ℕ) → GrantedIs of tally.allowance t (grant_of (terms_in of) tally amount t)
granted_is of tally amount t = by_standing (allowance_at tally.allowance (terms_in of).quota t) refl
  where
    level : Option ℕ
    level = level_under (terms_in of) tally t

    by_standing : (found : Option Allowance) → allowance_at tally.allowance (terms_in of).quota t ≡ found → GrantedIs of tally.allowance t (decided_grant (terms_in of) level found amount t)
    by_standing None e = tt
    by_standing (Some s) e =
        elim (nat_le (s.allowance + amount) MOST_UNITS) as (λ b. GrantedIs of tally.allowance t (Rattle.std.specs.Result.result_map_both (λ allowance. written (terms_in of) level t allowance) (λ refusal. refusal) (cond b (Ok (more_allowed amount s)) (Err TooLarge)))) [
          | true ↦ written_is of tally.allowance (more_allowed amount s) level t (level_within of tally t) (λ none. absurd (stands_some tally.allowance (terms_in of).quota t s e none))
          | false ↦ tt
        ]

-- PERIODS
pub number_within : (kind : PeriodKind) (n t : ℕ) → nth_begin kind n ≤ t → t < 4102444800000 → n ≤ number_at kind t
number_within kind n t begun early = let going = (holds_own kind t early).going in by_kind kind begun going
  where
    by_kind : (kind : PeriodKind) → nth_begin kind n ≤ t → t < nth_begin kind (number_at kind t + 1) → n ≤ number_at kind t
    by_kind Day b g = omega (arith, b, g)
    by_kind Week b g = omega (arith, b, g)
    by_kind Month b g =
        elim (nat_le n (number_at Month t)) as (λ x. nat_le n (number_at Month t) ≡ x → n ≤ number_at Month t) [
          | true ↦ λ e. is_le n (number_at Month t) e
          | false ↦ λ e. let more = is_more n (number_at Month t) e in let m = month_start-mono (number_at Month t + 1) n more in absurd (omega (arith, m, b, g))
        ] refl
      where
        is_le : (x y : ℕ) → nat_le x y ≡ true → x ≤ y
        is_le x y e = grind (arith, nat_tests)

        is_more : (x y : ℕ) → nat_le x y ≡ false → y + 1 ≤ x
        is_more x y e = grind (arith, nat_tests)

le_is : (x y : ℕ) → x ≤ y → nat_le x y ≡ true
le_is x y e = grind (arith, nat_tests)

flag_of : (b : Bool) → is_flag (cond b 1 0) ≡ true
flag_of true = refl
flag_of false = refl

kind_back : (kind : PeriodKind) (number : ℕ) → kind_in (kind_column (Some (record { kind = kind; number = number }))) ≡ Some kind
kind_back Day number = refl
kind_back Week number = refl
kind_back Month number = refl

-- a row without a period has no numbers
none_of : (row : JoinRow) → kind_in row.pkind ≡ None → takes_period row (kind_in row.pkind) ≡ true → (t : ℕ) (tally : Tally) → tally.allowance ≡ (tally_in row).allowance
    → takes_period (row_with row tally) (kind_in (kind_column tally.allowance.period)) ≡ true
none_of row none taken t tally own =
    subst (λ (a : Allowance). takes_period (row_with row (record { bucket = tally.bucket; version = tally.version; allowance = a })) (kind_in (kind_column a.period)) ≡ true) (sym own) of_own
  where
    said : takes_period row None ≡ true
    said = subst (λ k. takes_period row k ≡ true) none taken

    of_own : takes_period (row_with row (record { bucket = tally.bucket; version = tally.version; allowance = (tally_in row).allowance })) (kind_in (kind_column (period_in row))) ≡ true
    of_own =
        let at_used = and_parts ((row.pkind == 0) && (row.first == 1) && (row.pnumber == 0) && (row.allowance == 0)) (row.used == 0) said in
        let at_allowance = and_parts ((row.pkind == 0) && (row.first == 1) && (row.pnumber == 0)) (row.allowance == 0) at_used.0 in
        let at_number = and_parts ((row.pkind == 0) && (row.first == 1)) (row.pnumber == 0) at_allowance.0 in
        let at_first = and_parts (row.pkind == 0) (row.first == 1) at_number.0 in
        subst (λ (p : Option Period). takes_period (row_with row (record { bucket = tally.bucket; version = tally.version; allowance = record { period = p; allowance = row.allowance; used = row.used; first = row.first == 1 } })) (kind_in (kind_column p)) ≡ true)
        (sym (ap (option_map {U = Period} (λ (kind : PeriodKind). record { kind = kind; number = row.pnumber })) none))
        (both_are _ _ (both_are _ _ (both_are (cond (row.first == 1) 1 0 == 1) true (ap (λ b. cond b 1 0 == 1) at_first.1) refl) at_allowance.1) at_used.1)

-- THE ROW that is written
pub written_join : (lists : Lists) (of : PlanRow) (row : JoinRow) (tally : Tally) (t : ℕ) → t < 4102444800000 → plan_row lists row.plan ≡ Some of → IsJoin lists row → IsWritten of (tally_in row).allowance tally t
    → IsFitJoin of (row_with row tally) t → IsJoin lists (row_with row tally)
written_join lists of row tally t early plan was is fit =
    record {
      owner = was.owner;
      plan = ap (takes_of_plan (row_with row tally)) plan ∙ level;
      early = let at = is.at in is_early tally.bucket.at (omega (arith, at, early));
      period = by_period tally.allowance.period refl;
    }
  where
    is_early : (x : ℕ) → x < 4102444800000 → nat_lt x 4102444800000 ≡ true
    is_early x e = grind (arith, nat_tests)

    or_right : (a b : Bool) → b ≡ true → (a || b) ≡ true
    or_right true b e = refl
    or_right false b e = e

    level : takes_level (row_with row tally) of ≡ true
    level = let v = is.version in both_are _ _ (le_is tally.version of.tversion (omega (arith, v))) (or_right _ _ (le_is tally.bucket.level (1000 * of.burst) is.level))

    numbers : IsTally (terms_in of) tally t
    numbers = subst (λ x. IsTally (terms_in of) x t) (read_back row tally) fit.tally

    none_kind : (k : Option PeriodKind) → option_map {U = Period} (λ (kind : PeriodKind). record { kind = kind; number = row.pnumber }) k ≡ None → k ≡ None
    none_kind None e = refl
    none_kind (Some k) e = absurd cc

    by_period : (p : Option Period) → tally.allowance.period ≡ p → takes_period (row_with row tally) (kind_in (kind_column tally.allowance.period)) ≡ true
    by_period None e =
        let own = is.kept e in
        none_of row (none_kind (kind_in row.pkind) (sym (ap (λ (a : Allowance). a.period) own) ∙ e)) was.period t tally own
    by_period (Some p) e =
        let begun : begin_of p ≤ t = subst (λ q. IfSome q (λ (p : Period). begin_of p ≤ t)) e numbers.counted.begun in
        let at = is.at in
        let number : p.number ≤ number_at p.kind tally.bucket.at = subst (λ x. p.number ≤ number_at p.kind x) (sym at) (number_within p.kind p.number t begun early) in
        subst (λ (q : Option Period). takes_period (row_with row (record { bucket = tally.bucket; version = tally.version; allowance = record { period = q; allowance = tally.allowance.allowance; used = tally.allowance.used; first = tally.allowance.first } })) (kind_in (kind_column q)) ≡ true)
        (sym e)
        (ap (takes_period (row_with row (record { bucket = tally.bucket; version = tally.version; allowance = record { period = Some p; allowance = tally.allowance.allowance; used = tally.allowance.used; first = tally.allowance.first } }))) (kind_back p.kind p.number)
        ∙ both_are _ _ (both_are _ _ (both_are _ _ (flag_of tally.allowance.first) (le_is p.number (number_at p.kind tally.bucket.at) number)) (le_is tally.allowance.allowance MOST_UNITS numbers.counted.bounded)) (le_is tally.allowance.used tally.allowance.allowance numbers.counted.within))
