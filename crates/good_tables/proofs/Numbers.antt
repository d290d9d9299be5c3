-- Deployments: those of an API are numbered from 1 without gaps, and the next one goes on.
use Rattle.std.proofs.Common.{◌≡◌, ℕ, zero, suc, ◌+◌, ◌<◌, ◌≤◌, ◌==◌, nat_lt, Bool, true, false, not, ◌&&◌, ◌||◌, List, [], ◌∷◌, length, cond, find, is_none, count_by, Option, Some, None, refl, sym, ap, subst, ◌∙◌, arith}
use Rattle.std.specs.Prelude.{⊤, nat_le, is_some}
use Rattle.std.specs.List.{AllByRecursion}
use Rattle.std.specs.Str.{bytes_eq}
use Rattle.std.specs.Cmp.Lexicographic.{slice_cmp}
use Rattle.std.specs.Ordering.{is_gt, nat_cmp, ordering_reverse}
use Rattle.std.specs.declared.cmp.Ordering.{Ordering}
use Rattle.std.specs.declared.cmp.Ordering.TheVariants.{Less, Equal, Greater}
use Rattle.std.proofs.lemmas.Bool.{and_parts}
use Rattle.std.proofs.lemmas.Bool.Decides.{nat_tests}
use Rattle.std.proofs.lemmas.Cmp.{nat_list_cmp_total}
use Rattle.std.proofs.lemmas.List.Sums.{sum_by-cons}
use Rattle.keeper_core.specs.Lists.{Ascends, Lists, adjust, api_row, deployment_behind, insert_before, is_behind, is_deployment, put_by}
use Rattle.keeper_core.specs.declared.rows.DeploymentRow.{DeploymentRow}
use Rattle.book_rules.specs.Good.{first_refused, is_flag, is_stated, next_number, takes_deployment}
use Rattle.book_rules.specs.Limits.{most_deployments}
use Rattle.book_rules.specs.Stored.{deployed_of}
use Rattle.good_tables.proofs.Onces.{both_are, itself, same_text, turned}

-- what is known of a deployment by itself
pub record IsDeployment (lists : Lists) (row : DeploymentRow) : Type 0 where
  pub owner : is_some (api_row lists row.api) ≡ true
  pub many : nat_le row.number most_deployments ≡ true
  pub flag : is_flag row.text ≡ true
  pub said : is_stated (deployed_of row) ≡ true

-- each is the next one of its API behind those before it
abbrev pub AreNumbered : List DeploymentRow → List DeploymentRow → Type 0
AreNumbered before [] = ⊤
AreNumbered before (row ∷ rows) = (row.number ≡ next_number row.api before) × AreNumbered (row ∷ before) rows

taken_first : (b : Bool) (n : ℕ) (rest : Option ℕ) → cond (not b) (Some n) rest ≡ None → (b ≡ true) × (rest ≡ None)
taken_first true n rest e = (refl, e)
taken_first false n rest e = absurd cc

number_is : (x y : ℕ) → (x == y) ≡ true → x ≡ y
number_is x y e = grind (arith, nat_tests)

is_number : (x y : ℕ) → x ≡ y → (x == y) ≡ true
is_number x y e = grind (arith, nat_tests)

pub numbered_of : (lists : Lists) (before rows : List DeploymentRow) → first_refused (λ b r. not (takes_deployment lists b r)) before rows ≡ None
    → AllByRecursion (IsDeployment lists) rows × AreNumbered before rows
numbered_of lists before [] e = (tt, tt)
numbered_of lists before (row ∷ rows) e =
    let here = taken_first (takes_deployment lists before row) (length before) (first_refused (λ b r. not (takes_deployment lists b r)) (row ∷ before) rows) e in
    let more = numbered_of lists (row ∷ before) rows here.1 in
    let owner = is_some (api_row lists row.api) in
    let next = row.number == next_number row.api before in
    let many = nat_le row.number most_deployments in
    let flag = is_flag row.text in
    let at_said = and_parts (owner && next && many && flag) (is_stated (deployed_of row)) here.0 in
    let at_flag = and_parts (owner && next && many) flag at_said.0 in
    let at_many = and_parts (owner && next) many at_flag.0 in
    let at_next = and_parts owner next at_many.0 in (
      (record { owner = at_next.0; many = at_many.1; flag = at_flag.1; said = at_said.1 }, more.0),
      (number_is row.number (next_number row.api before) at_next.1, more.1),
    )

pub of_numbered : (lists : Lists) (before rows : List DeploymentRow) → AllByRecursion (IsDeployment lists) rows → AreNumbered before rows
    → first_refused (λ b r. not (takes_deployment lists b r)) before rows ≡ None
of_numbered lists before [] each numbered = refl
of_numbered lists before (row ∷ rows) each numbered =
    ap (λ t. cond (not t) (Some (length before)) (first_refused (λ b r. not (takes_deployment lists b r)) (row ∷ before) rows))
    (both_are _ _ (both_are _ _ (both_are _ _ (both_are _ _ each.0.owner (is_number row.number (next_number row.api before) numbered.0)) each.0.many) each.0.flag) each.0.said)
    ∙ of_numbered lists (row ∷ before) rows each.1 numbered.1

-- only the row before counts
head_counts : (row : DeploymentRow) (before other rows : List DeploymentRow) → AreNumbered (row ∷ before) rows → AreNumbered (row ∷ other) rows
head_counts row before other [] h = tt
head_counts row before other (next ∷ rows) h = (h.0, head_counts next (row ∷ before) (row ∷ other) rows h.1)

-- THE ORDER of texts
gt_back : (c d : Ordering) → d ≡ ordering_reverse c → is_gt c ≡ true → is_gt d ≡ false
gt_back Less d e h = absurd cc
gt_back Equal d e h = absurd cc
gt_back Greater d e h = ap is_gt e

pub behind_back : (x y : List ℕ) → is_behind x y ≡ true → is_behind y x ≡ false
behind_back x y h = gt_back (slice_cmp nat_cmp x y) (slice_cmp nat_cmp y x) (nat_list_cmp_total.antisymm y x) h

pub opposed : {A : Type 0} (b : Bool) → b ≡ true → b ≡ false → A
opposed b e f = absurd (let bad : true ≡ false = sym e ∙ f in cc)

behind_differs : (x y : List ℕ) → is_behind x y ≡ true → bytes_eq x y ≡ false
behind_differs x y h =
    elim (bytes_eq x y) as (λ t. bytes_eq x y ≡ t → t ≡ false) [
      | true ↦ λ e. let same : is_behind y y ≡ true = subst (λ (z : List ℕ). is_behind z y ≡ true) (same_text x y e) h in opposed (is_behind y y) same (behind_back y y same)
      | false ↦ λ e. refl
    ] refl

abbrev in_turn : DeploymentRow → DeploymentRow → Bool
in_turn row other = deployment_behind row.api row.number other

or_second : (a b : Bool) → a ≡ false → (a || b) ≡ true → b ≡ true
or_second true b e h = absurd cc
or_second false b e h = h

no_or : (a b : Bool) → (a || b) ≡ false → a ≡ false
no_or true b h = absurd cc
no_or false b h = refl

yes_or : (a b : Bool) → a ≡ true → (a || b) ≡ true
yes_or true b e = refl
yes_or false b e = absurd cc

-- THE NEXT DEPLOYMENT
module _ (a : List ℕ) (m : ℕ) where
  abbrev is_own : DeploymentRow → Bool
  is_own row = bytes_eq row.api a

  count_step : (y : DeploymentRow) (ys : List DeploymentRow) → count_by is_own (y ∷ ys) ≡ cond (is_own y) 1 0 + count_by is_own ys
  count_step y ys = sum_by-cons (λ (row : DeploymentRow). cond (is_own row) 1 0) y ys

  count_with : (y : DeploymentRow) (ys : List DeploymentRow) (b : Bool) → is_own y ≡ b → count_by is_own (y ∷ ys) ≡ cond b 1 0 + count_by is_own ys
  count_with y ys b e = count_step y ys ∙ ap (λ t. cond t 1 0 + count_by is_own ys) e

  -- the rows follow those before them in order, of which the last is not behind the new one
  abbrev Follow : List DeploymentRow → List DeploymentRow → Type 0
  Follow [] rows = Ascends in_turn rows
  Follow (last ∷ before) rows = Ascends in_turn (last ∷ rows) × (deployment_behind a m last ≡ false)

  ascend : (before rows : List DeploymentRow) → Follow before rows → Ascends in_turn rows
  ascend [] rows f = f
  ascend (last ∷ before) rows f = f.0.1

  -- behind a row of a greater API none is of this one
  not_own : (y z : DeploymentRow) → is_behind y.api a ≡ true → in_turn y z ≡ true → bytes_eq z.api a ≡ false
  not_own y z up turn =
      elim (bytes_eq z.api a) as (λ t. bytes_eq z.api a ≡ t → t ≡ false) [
        | true ↦ λ e.
            let same = same_text z.api a e in
            let first : is_behind z.api y.api ≡ false = subst (λ (x : List ℕ). is_behind x y.api ≡ false) (sym same) (behind_back y.api a up) in
            let second : bytes_eq z.api y.api ≡ true = (and_parts (bytes_eq z.api y.api) (nat_lt y.number z.number) (or_second (is_behind z.api y.api) _ first turn)).0 in
            opposed (bytes_eq y.api a) (subst (λ (x : List ℕ). bytes_eq x a ≡ true) (sym same ∙ same_text z.api y.api second) (itself a)) (behind_differs y.api a up)
        | false ↦ λ e. refl
      ] refl

  none_own : (y : DeploymentRow) (rows : List DeploymentRow) → is_behind y.api a ≡ true → AllByRecursion (λ z. in_turn y z ≡ true) rows → (count_by is_own rows ≡ 0) × (is_none (find (is_deployment a m) rows) ≡ true)
  none_own y [] up turns = (refl, refl)
  none_own y (z ∷ zs) up turns =
      let other = not_own y z up turns.0 in
      let more = none_own y zs up turns.1 in
      let step : count_by is_own (z ∷ zs) ≡ 0 + count_by is_own zs = count_with z zs false other in
      let rest = more.0 in (
        omega (arith, step, rest),
        ap (λ b. is_none (cond (b && (z.number == m)) (Some z) (find (is_deployment a m) zs))) other ∙ more.1,
      )

  -- a row that the new one goes before is of a greater API
  goes_before : (before : List DeploymentRow) (y : DeploymentRow) (ys : List DeploymentRow) → y.number ≡ next_number y.api before → m ≡ next_number a before + count_by is_own (y ∷ ys)
      → deployment_behind a m y ≡ true → is_behind y.api a ≡ true
  goes_before before y ys number sum goes =
      elim (is_behind y.api a) as (λ t. is_behind y.api a ≡ t → t ≡ true) [
        | true ↦ λ e. refl
        | false ↦ λ e.
            let parts = and_parts (bytes_eq y.api a) (nat_lt m y.number) (or_second (is_behind y.api a) _ e goes) in
            let same = same_text y.api a parts.0 in
            let own : y.number ≡ next_number a before = number ∙ ap (λ (x : List ℕ). next_number x before) same in
            let less = parts.1 in
            absurd (too_many y.number (next_number a before) (count_by is_own (y ∷ ys)) own sum less)
      ] refl
    where
      too_many : (n x count : ℕ) → n ≡ x → m ≡ x + count → nat_lt m n ≡ true → ⊥
      too_many n x count e s l = let less : m < n = grind (arith, nat_tests) in omega (arith, e, s, less)

  -- behind a smaller row the count goes on
  goes_on : (before : List DeploymentRow) (y : DeploymentRow) (ys : List DeploymentRow) → Follow before (y ∷ ys) → y.number ≡ next_number y.api before
      → m ≡ next_number a before + count_by is_own (y ∷ ys) → deployment_behind a m y ≡ false → m ≡ next_number a (y ∷ before) + count_by is_own ys
  goes_on before y ys follow number sum stays =
      elim (bytes_eq y.api a) as (λ t. bytes_eq y.api a ≡ t → m ≡ cond t (y.number + 1) 1 + count_by is_own ys) [
        | true ↦ λ e.
            let own : y.number ≡ next_number a before = number ∙ ap (λ (x : List ℕ). next_number x before) (same_text y.api a e) in
            let all : m ≡ next_number a before + (1 + count_by is_own ys) = sum ∙ ap (λ n. next_number a before + n) (count_with y ys _ e) in
            omega (arith, own, all)
        | false ↦ λ e.
            let all : m ≡ next_number a before + (0 + count_by is_own ys) = sum ∙ ap (λ n. next_number a before + n) (count_with y ys _ e) in
            let one : next_number a before ≡ 1 = first before follow e in
            omega (arith, one, all)
      ] refl
    where
      first : (before : List DeploymentRow) → Follow before (y ∷ ys) → bytes_eq y.api a ≡ false → next_number a before ≡ 1
      first [] f other = refl
      first (last ∷ older) f other =
          elim (bytes_eq last.api a) as (λ t. bytes_eq last.api a ≡ t → cond t (last.number + 1) 1 ≡ 1) [
            | true ↦ λ e.
                let turn : deployment_behind a last.number y ≡ true = subst (λ (x : List ℕ). deployment_behind x last.number y ≡ true) (same_text last.api a e) f.0.0.0 in
                let up : is_behind y.api a ≡ true = by_first (is_behind y.api a) (nat_lt last.number y.number) other turn in
                opposed (deployment_behind a m y) (yes_or (is_behind y.api a) _ up) stays
            | false ↦ λ e. refl
          ] refl
        where
          by_first : (g less : Bool) → bytes_eq y.api a ≡ false → (g || bytes_eq y.api a && less) ≡ true → g ≡ true
          by_first true less e h = refl
          by_first false less e h = absurd (let bad : (bytes_eq y.api a && less) ≡ false = ap (λ b. b && less) e in let f : true ≡ false = sym h ∙ bad in cc)

  pub free : (before rows : List DeploymentRow) → Follow before rows → AreNumbered before rows → m ≡ next_number a before + count_by is_own rows → is_none (find (is_deployment a m) rows) ≡ true
  free before [] follow numbered sum = refl
  free before (y ∷ ys) follow numbered sum =
      elim (deployment_behind a m y) as (λ t. deployment_behind a m y ≡ t → is_none (find (is_deployment a m) (y ∷ ys)) ≡ true) [
        | true ↦ λ e.
            let up = goes_before before y ys numbered.0 sum e in
            ap (λ b. is_none (cond (b && (y.number == m)) (Some y) (find (is_deployment a m) ys))) (behind_differs y.api a up) ∙ (none_own y ys up (ascend before (y ∷ ys) follow).0).1
        | false ↦ λ e.
            let more = free (y ∷ before) ys (ascend before (y ∷ ys) follow, e) numbered.1 (goes_on before y ys follow numbered.0 sum e) in
            ap (λ b. is_none (cond b (Some y) (find (is_deployment a m) ys))) (other (bytes_eq y.api a) refl) ∙ more
      ] refl
    where
      other : (t : Bool) → bytes_eq y.api a ≡ t → (bytes_eq y.api a && (y.number == m)) ≡ false
      other true e =
          let own : y.number ≡ next_number a before = numbered.0 ∙ ap (λ (x : List ℕ). next_number x before) (same_text y.api a e) in
          let all : m ≡ next_number a before + (1 + count_by is_own ys) = sum ∙ ap (λ n. next_number a before + n) (count_with y ys _ e) in
          ap (λ b. b && (y.number == m)) e ∙ not_number y.number m (omega (arith, own, all))
        where
          not_number : (x z : ℕ) → x < z → (x == z) ≡ false
          not_number x z less = grind (arith, nat_tests)
      other false e = ap (λ b. b && (y.number == m)) e

  pub inserted : (n : DeploymentRow) → n.api ≡ a → n.number ≡ m → (before rows : List DeploymentRow) → Follow before rows → AreNumbered before rows → m ≡ next_number a before + count_by is_own rows
      → AreNumbered before (insert_before (deployment_behind a m) n rows)
  inserted n api number before [] follow numbered sum = (number ∙ sum ∙ omega arith ∙ ap (λ (x : List ℕ). next_number x before) (sym api), tt)
  inserted n api number before (y ∷ ys) follow numbered sum =
      elim (deployment_behind a m y) as (λ t. deployment_behind a m y ≡ t → AreNumbered before (cond t (n ∷ y ∷ ys) (y ∷ insert_before (deployment_behind a m) n ys))) [
        | true ↦ λ e.
            let up = goes_before before y ys numbered.0 sum e in
            let none = (none_own y ys up (ascend before (y ∷ ys) follow).0).0 in
            let all : m ≡ next_number a before + (0 + count_by is_own ys) = sum ∙ ap (λ n. next_number a before + n) (count_with y ys false (behind_differs y.api a up)) in
            let own : m ≡ next_number a before = omega (arith, all, none) in (
              number ∙ own ∙ ap (λ (x : List ℕ). next_number x before) (sym api),
              (numbered.0 ∙ alone before follow up ∙ sym (ap (λ b. cond b (n.number + 1) 1) (ap (λ (x : List ℕ). bytes_eq x y.api) api ∙ turned y.api a (behind_differs y.api a up))), head_counts y before (n ∷ before) ys numbered.1),
            )
        | false ↦ λ e. (numbered.0, inserted n api number (y ∷ before) ys (ascend before (y ∷ ys) follow, e) numbered.1 (goes_on before y ys follow numbered.0 sum e))
      ] refl
    where
      alone : (before : List DeploymentRow) → Follow before (y ∷ ys) → is_behind y.api a ≡ true → next_number y.api before ≡ 1
      alone [] f up = refl
      alone (last ∷ older) f up =
          elim (bytes_eq last.api y.api) as (λ t. bytes_eq last.api y.api ≡ t → cond t (last.number + 1) 1 ≡ 1) [
            | true ↦ λ e.
                let same : is_behind last.api a ≡ true = subst (λ (x : List ℕ). is_behind x a ≡ true) (sym (same_text last.api y.api e)) up in
                opposed (deployment_behind a m last) (yes_or (is_behind last.api a) _ same) f.1
            | false ↦ λ e. refl
          ] refl

-- the next deployment of an API is put behind those before it
pub next_put : (n : DeploymentRow) (rows : List DeploymentRow) → Ascends in_turn rows → AreNumbered [] rows → n.number ≡ count_by (λ (row : DeploymentRow). bytes_eq row.api n.api) rows + 1
    → AreNumbered [] (put_by (is_deployment n.api n.number) (deployment_behind n.api n.number) n rows)
next_put n rows up numbered sum =
    let m : n.number ≡ 1 + count_by (λ (row : DeploymentRow). bytes_eq row.api n.api) rows = omega (arith, sum) in
    let none = free n.api n.number [] rows up numbered m in
    subst (λ b. AreNumbered [] (cond b (insert_before (deployment_behind n.api n.number) n rows) (adjust (is_deployment n.api n.number) (λ old. n) rows))) (sym none)
    (inserted n.api n.number n refl refl [] rows up numbered m)
