-- The keys of the seven tables are ordered, so that each search finds its place and each row that is put keeps the order.
use Rattle.std.proofs.Common.{◌≡◌, ℕ, ◌<◌, get_or, Some, nat_lt, ◌==◌, Bool, ◌&&◌, ◌||◌, List, [], ◌∷◌, length, Result, refl, sym, arith}
use Rattle.std.specs.List.{position}
use Rattle.std.specs.List.Sorted.{IsSearchInRange, IsBinarySearchResult}
use Rattle.std.specs.Str.{bytes_eq}
use Rattle.std.specs.Cmp.Lexicographic.{slice_cmp}
use Rattle.std.specs.Ordering.{is_eq, is_gt, nat_cmp, ordering_then}
use Rattle.std.specs.declared.cmp.Ordering.{Ordering}
use Rattle.std.specs.declared.cmp.Ordering.TheVariants.{Less, Equal, Greater}
use Rattle.std.proofs.lemmas.Bool.Decides.{nat_tests}
use Rattle.std.proofs.lemmas.Cmp.{nat_cmp_total, nat_list_cmp_total, on_total, then_total, tied_itself}
use Rattle.std.proofs.lemmas.Map.Text.{is_eq-slice_cmp}
use Rattle.keeper_core.specs.Lists.{Lists, Ascends, AreInOrder, ListsStayInOrder, put, put_all, put_by, is_meta, is_api, is_deployment, is_stage, is_key, is_plan, is_join, meta_behind, api_behind, deployment_behind, stage_behind, key_behind, plan_behind, join_behind}
use Rattle.keeper_core.specs.Places.{IsPlace, place_of}
use Rattle.keeper_core.proofs.Orders.{OrdersBy, found, orders_by, placed, put_ascends}
use Rattle.keeper_core.specs.declared.rows.MetaRow.{MetaRow}
use Rattle.keeper_core.specs.declared.rows.ApiRow.{ApiRow}
use Rattle.keeper_core.specs.declared.rows.DeploymentRow.{DeploymentRow}
use Rattle.keeper_core.specs.declared.rows.StageRow.{StageRow}
use Rattle.keeper_core.specs.declared.rows.KeyRow.{KeyRow}
use Rattle.keeper_core.specs.declared.rows.PlanRow.{PlanRow}
use Rattle.keeper_core.specs.declared.rows.JoinRow.{JoinRow}
use Rattle.keeper_core.specs.declared.rows.Row.{Row}
use Rattle.keeper_core.specs.declared.rows.Row.TheVariants.{Meta, Api, Deployment, Stage, Key, Plan, Join}

number_same : (n m : ℕ) → (n == m) ≡ is_eq (nat_cmp n m)
number_same n m = grind (arith, nat_tests)

number_greater : (n m : ℕ) → nat_lt m n ≡ is_gt (nat_cmp n m)
number_greater n m = grind (arith, nat_tests)

text_same : (a b : List ℕ) → bytes_eq a b ≡ is_eq (slice_cmp nat_cmp a b)
text_same a b = sym (is_eq-slice_cmp a b)

-- keys of two columns
both_same : (a b : Ordering) (c d : Bool) → c ≡ is_eq a → d ≡ is_eq b → (c && d) ≡ is_eq (ordering_then a b)
both_same Less b c d e f = rw e refl
both_same Equal b c d e f = rw e f
both_same Greater b c d e f = rw e refl

then_greater : (a b : Ordering) (c d : Bool) → c ≡ is_eq a → d ≡ is_gt b → (is_gt a || c && d) ≡ is_gt (ordering_then a b)
then_greater Less b c d e f = rw e refl
then_greater Equal b c d e f = rw e f
then_greater Greater b c d e f = refl

meta_order : (id : ℕ) → OrdersBy (λ (row other : MetaRow). meta_behind row.id other) (λ (row : MetaRow). nat_cmp row.id id)
meta_order id = orders_by nat_cmp_total (λ (row : MetaRow). row.id) (λ (row other : MetaRow). meta_behind row.id other) (λ row other. number_greater other.id row.id) id

meta_same : (id : ℕ) (row : MetaRow) → is_meta id row ≡ is_eq (nat_cmp row.id id)
meta_same id row = number_same row.id id

meta_greater : (id : ℕ) (row : MetaRow) → meta_behind id row ≡ is_gt (nat_cmp row.id id)
meta_greater id row = number_greater row.id id

pub placed_meta : (id : ℕ) (rows : List MetaRow) → Ascends (λ row. meta_behind row.id) rows → (found : Result ℕ ℕ) → IsSearchInRange found (length rows)
    → IsBinarySearchResult (λ row. nat_cmp row.id id) rows found → IsPlace (is_meta id) (meta_behind id) rows (place_of found)
placed_meta id =
    placed (λ (row : MetaRow). meta_behind row.id) (λ row. nat_cmp row.id id) (meta_order id)
    (is_meta id) (meta_behind id) (meta_same id) (meta_greater id)

pub meta_kept : (row : MetaRow) (rows : List MetaRow) → Ascends (λ row. meta_behind row.id) rows → Ascends (λ row. meta_behind row.id) (put_by (is_meta row.id) (meta_behind row.id) row rows)
meta_kept row =
    put_ascends (λ (row : MetaRow). meta_behind row.id) (λ other. nat_cmp other.id row.id) (meta_order row.id)
    (is_meta row.id) (meta_behind row.id) (meta_same row.id) (meta_greater row.id) row (tied_itself nat_cmp_total row.id)

api_order : (api : List ℕ) → OrdersBy (λ (row other : ApiRow). api_behind row.api other) (λ (row : ApiRow). slice_cmp nat_cmp row.api api)
api_order api = orders_by nat_list_cmp_total (λ (row : ApiRow). row.api) (λ (row other : ApiRow). api_behind row.api other) (λ row other. refl) api

api_same : (api : List ℕ) (row : ApiRow) → is_api api row ≡ is_eq (slice_cmp nat_cmp row.api api)
api_same api row = text_same row.api api

api_greater : (api : List ℕ) (row : ApiRow) → api_behind api row ≡ is_gt (slice_cmp nat_cmp row.api api)
api_greater api row = refl

pub placed_api : (api : List ℕ) (rows : List ApiRow) → Ascends (λ row. api_behind row.api) rows → (found : Result ℕ ℕ) → IsSearchInRange found (length rows)
    → IsBinarySearchResult (λ row. slice_cmp nat_cmp row.api api) rows found → IsPlace (is_api api) (api_behind api) rows (place_of found)
placed_api api =
    placed (λ (row : ApiRow). api_behind row.api) (λ row. slice_cmp nat_cmp row.api api) (api_order api)
    (is_api api) (api_behind api) (api_same api) (api_greater api)

pub api_kept : (row : ApiRow) (rows : List ApiRow) → Ascends (λ row. api_behind row.api) rows → Ascends (λ row. api_behind row.api) (put_by (is_api row.api) (api_behind row.api) row rows)
api_kept row =
    put_ascends (λ (row : ApiRow). api_behind row.api) (λ other. slice_cmp nat_cmp other.api row.api) (api_order row.api)
    (is_api row.api) (api_behind row.api) (api_same row.api) (api_greater row.api) row (tied_itself nat_list_cmp_total row.api)

deployment_order : (api : List ℕ) (number : ℕ) → OrdersBy (λ (row other : DeploymentRow). deployment_behind row.api row.number other) (λ (row : DeploymentRow). ordering_then (slice_cmp nat_cmp row.api api) (nat_cmp row.number number))
deployment_order api number = orders_by (then_total (on_total (λ (k : List ℕ × ℕ). k.0) nat_list_cmp_total) (on_total (λ (k : List ℕ × ℕ). k.1) nat_cmp_total)) (λ (row : DeploymentRow). (row.api, row.number)) (λ (row other : DeploymentRow). deployment_behind row.api row.number other) (λ row other. then_greater (slice_cmp nat_cmp other.api row.api) (nat_cmp other.number row.number) _ (nat_lt row.number other.number) (text_same other.api row.api) (number_greater other.number row.number)) (api, number)

deployment_same : (api : List ℕ) (number : ℕ) (row : DeploymentRow) → is_deployment api number row ≡ is_eq (ordering_then (slice_cmp nat_cmp row.api api) (nat_cmp row.number number))
deployment_same api number row = both_same (slice_cmp nat_cmp row.api api) (nat_cmp row.number number) _ _ (text_same row.api api) (number_same row.number number)

deployment_greater : (api : List ℕ) (number : ℕ) (row : DeploymentRow) → deployment_behind api number row ≡ is_gt (ordering_then (slice_cmp nat_cmp row.api api) (nat_cmp row.number number))
deployment_greater api number row = then_greater (slice_cmp nat_cmp row.api api) (nat_cmp row.number number) _ (nat_lt number row.number) (text_same row.api api) (number_greater row.number number)

pub placed_deployment : (api : List ℕ) (number : ℕ) (rows : List DeploymentRow) → Ascends (λ row. deployment_behind row.api row.number) rows → (found : Result ℕ ℕ) → IsSearchInRange found (length rows)
    → IsBinarySearchResult (λ row. ordering_then (slice_cmp nat_cmp row.api api) (nat_cmp row.number number)) rows found → IsPlace (is_deployment api number) (deployment_behind api number) rows (place_of found)
placed_deployment api number =
    placed (λ (row : DeploymentRow). deployment_behind row.api row.number) (λ row. ordering_then (slice_cmp nat_cmp row.api api) (nat_cmp row.number number)) (deployment_order api number)
    (is_deployment api number) (deployment_behind api number) (deployment_same api number) (deployment_greater api number)

pub deployment_kept : (row : DeploymentRow) (rows : List DeploymentRow) → Ascends (λ row. deployment_behind row.api row.number) rows → Ascends (λ row. deployment_behind row.api row.number) (put_by (is_deployment row.api row.number) (deployment_behind row.api row.number) row rows)
deployment_kept row =
    put_ascends (λ (row : DeploymentRow). deployment_behind row.api row.number) (λ other. ordering_then (slice_cmp nat_cmp other.api row.api) (nat_cmp other.number row.number)) (deployment_order row.api row.number)
    (is_deployment row.api row.number) (deployment_behind row.api row.number) (deployment_same row.api row.number) (deployment_greater row.api row.number) row (tied_itself (then_total (on_total (λ (k : List ℕ × ℕ). k.0) nat_list_cmp_total) (on_total (λ (k : List ℕ × ℕ). k.1) nat_cmp_total)) (row.api, row.number))

stage_order : (api : List ℕ) (stage : List ℕ) → OrdersBy (λ (row other : StageRow). stage_behind row.api row.stage other) (λ (row : StageRow). ordering_then (slice_cmp nat_cmp row.api api) (slice_cmp nat_cmp row.stage stage))
stage_order api stage = orders_by (then_total (on_total (λ (k : List ℕ × List ℕ). k.0) nat_list_cmp_total) (on_total (λ (k : List ℕ × List ℕ). k.1) nat_list_cmp_total)) (λ (row : StageRow). (row.api, row.stage)) (λ (row other : StageRow). stage_behind row.api row.stage other) (λ row other. then_greater (slice_cmp nat_cmp other.api row.api) (slice_cmp nat_cmp other.stage row.stage) _ (is_gt (slice_cmp nat_cmp other.stage row.stage)) (text_same other.api row.api) refl) (api, stage)

stage_same : (api : List ℕ) (stage : List ℕ) (row : StageRow) → is_stage api stage row ≡ is_eq (ordering_then (slice_cmp nat_cmp row.api api) (slice_cmp nat_cmp row.stage stage))
stage_same api stage row = both_same (slice_cmp nat_cmp row.api api) (slice_cmp nat_cmp row.stage stage) _ _ (text_same row.api api) (text_same row.stage stage)

stage_greater : (api : List ℕ) (stage : List ℕ) (row : StageRow) → stage_behind api stage row ≡ is_gt (ordering_then (slice_cmp nat_cmp row.api api) (slice_cmp nat_cmp row.stage stage))
stage_greater api stage row = then_greater (slice_cmp nat_cmp row.api api) (slice_cmp nat_cmp row.stage stage) _ (is_gt (slice_cmp nat_cmp row.stage stage)) (text_same row.api api) refl

pub placed_stage : (api : List ℕ) (stage : List ℕ) (rows : List StageRow) → Ascends (λ row. stage_behind row.api row.stage) rows → (found : Result ℕ ℕ) → IsSearchInRange found (length rows)
    → IsBinarySearchResult (λ row. ordering_then (slice_cmp nat_cmp row.api api) (slice_cmp nat_cmp row.stage stage)) rows found → IsPlace (is_stage api stage) (stage_behind api stage) rows (place_of found)
placed_stage api stage =
    placed (λ (row : StageRow). stage_behind row.api row.stage) (λ row. ordering_then (slice_cmp nat_cmp row.api api) (slice_cmp nat_cmp row.stage stage)) (stage_order api stage)
    (is_stage api stage) (stage_behind api stage) (stage_same api stage) (stage_greater api stage)

pub stage_kept : (row : StageRow) (rows : List StageRow) → Ascends (λ row. stage_behind row.api row.stage) rows → Ascends (λ row. stage_behind row.api row.stage) (put_by (is_stage row.api row.stage) (stage_behind row.api row.stage) row rows)
stage_kept row =
    put_ascends (λ (row : StageRow). stage_behind row.api row.stage) (λ other. ordering_then (slice_cmp nat_cmp other.api row.api) (slice_cmp nat_cmp other.stage row.stage)) (stage_order row.api row.stage)
    (is_stage row.api row.stage) (stage_behind row.api row.stage) (stage_same row.api row.stage) (stage_greater row.api row.stage) row (tied_itself (then_total (on_total (λ (k : List ℕ × List ℕ). k.0) nat_list_cmp_total) (on_total (λ (k : List ℕ × List ℕ). k.1) nat_list_cmp_total)) (row.api, row.stage))

key_order : (key : List ℕ) → OrdersBy (λ (row other : KeyRow). key_behind row.key other) (λ (row : KeyRow). slice_cmp nat_cmp row.key key)
key_order key = orders_by nat_list_cmp_total (λ (row : KeyRow). row.key) (λ (row other : KeyRow). key_behind row.key other) (λ row other. refl) key

key_same : (key : List ℕ) (row : KeyRow) → is_key key row ≡ is_eq (slice_cmp nat_cmp row.key key)
key_same key row = text_same row.key key

key_greater : (key : List ℕ) (row : KeyRow) → key_behind key row ≡ is_gt (slice_cmp nat_cmp row.key key)
key_greater key row = refl

pub placed_key : (key : List ℕ) (rows : List KeyRow) → Ascends (λ row. key_behind row.key) rows → (found : Result ℕ ℕ) → IsSearchInRange found (length rows)
    → IsBinarySearchResult (λ row. slice_cmp nat_cmp row.key key) rows found → IsPlace (is_key key) (key_behind key) rows (place_of found)
placed_key key =
    placed (λ (row : KeyRow). key_behind row.key) (λ row. slice_cmp nat_cmp row.key key) (key_order key)
    (is_key key) (key_behind key) (key_same key) (key_greater key)

pub key_kept : (row : KeyRow) (rows : List KeyRow) → Ascends (λ row. key_behind row.key) rows → Ascends (λ row. key_behind row.key) (put_by (is_key row.key) (key_behind row.key) row rows)
key_kept row =
    put_ascends (λ (row : KeyRow). key_behind row.key) (λ other. slice_cmp nat_cmp other.key row.key) (key_order row.key)
    (is_key row.key) (key_behind row.key) (key_same row.key) (key_greater row.key) row (tied_itself nat_list_cmp_total row.key)

plan_order : (plan : List ℕ) → OrdersBy (λ (row other : PlanRow). plan_behind row.plan other) (λ (row : PlanRow). slice_cmp nat_cmp row.plan plan)
plan_order plan = orders_by nat_list_cmp_total (λ (row : PlanRow). row.plan) (λ (row other : PlanRow). plan_behind row.plan other) (λ row other. refl) plan

plan_same : (plan : List ℕ) (row : PlanRow) → is_plan plan row ≡ is_eq (slice_cmp nat_cmp row.plan plan)
plan_same plan row = text_same row.plan plan

plan_greater : (plan : List ℕ) (row : PlanRow) → plan_behind plan row ≡ is_gt (slice_cmp nat_cmp row.plan plan)
plan_greater plan row = refl

pub placed_plan : (plan : List ℕ) (rows : List PlanRow) → Ascends (λ row. plan_behind row.plan) rows → (found : Result ℕ ℕ) → IsSearchInRange found (length rows)
    → IsBinarySearchResult (λ row. slice_cmp nat_cmp row.plan plan) rows found → IsPlace (is_plan plan) (plan_behind plan) rows (place_of found)
placed_plan plan =
    placed (λ (row : PlanRow). plan_behind row.plan) (λ row. slice_cmp nat_cmp row.plan plan) (plan_order plan)
    (is_plan plan) (plan_behind plan) (plan_same plan) (plan_greater plan)

pub plan_kept : (row : PlanRow) (rows : List PlanRow) → Ascends (λ row. plan_behind row.plan) rows → Ascends (λ row. plan_behind row.plan) (put_by (is_plan row.plan) (plan_behind row.plan) row rows)
plan_kept row =
    put_ascends (λ (row : PlanRow). plan_behind row.plan) (λ other. slice_cmp nat_cmp other.plan row.plan) (plan_order row.plan)
    (is_plan row.plan) (plan_behind row.plan) (plan_same row.plan) (plan_greater row.plan) row (tied_itself nat_list_cmp_total row.plan)

join_order : (plan : List ℕ) (key : List ℕ) → OrdersBy (λ (row other : JoinRow). join_behind row.plan row.key other) (λ (row : JoinRow). ordering_then (slice_cmp nat_cmp row.plan plan) (slice_cmp nat_cmp row.key key))
join_order plan key = orders_by (then_total (on_total (λ (k : List ℕ × List ℕ). k.0) nat_list_cmp_total) (on_total (λ (k : List ℕ × List ℕ). k.1) nat_list_cmp_total)) (λ (row : JoinRow). (row.plan, row.key)) (λ (row other : JoinRow). join_behind row.plan row.key other) (λ row other. then_greater (slice_cmp nat_cmp other.plan row.plan) (slice_cmp nat_cmp other.key row.key) _ (is_gt (slice_cmp nat_cmp other.key row.key)) (text_same other.plan row.plan) refl) (plan, key)

join_same : (plan : List ℕ) (key : List ℕ) (row : JoinRow) → is_join plan key row ≡ is_eq (ordering_then (slice_cmp nat_cmp row.plan plan) (slice_cmp nat_cmp row.key key))
join_same plan key row = both_same (slice_cmp nat_cmp row.plan plan) (slice_cmp nat_cmp row.key key) _ _ (text_same row.plan plan) (text_same row.key key)

join_greater : (plan : List ℕ) (key : List ℕ) (row : JoinRow) → join_behind plan key row ≡ is_gt (ordering_then (slice_cmp nat_cmp row.plan plan) (slice_cmp nat_cmp row.key key))
join_greater plan key row = then_greater (slice_cmp nat_cmp row.plan plan) (slice_cmp nat_cmp row.key key) _ (is_gt (slice_cmp nat_cmp row.key key)) (text_same row.plan plan) refl

pub placed_join : (plan : List ℕ) (key : List ℕ) (rows : List JoinRow) → Ascends (λ row. join_behind row.plan row.key) rows → (found : Result ℕ ℕ) → IsSearchInRange found (length rows)
    → IsBinarySearchResult (λ row. ordering_then (slice_cmp nat_cmp row.plan plan) (slice_cmp nat_cmp row.key key)) rows found → IsPlace (is_join plan key) (join_behind plan key) rows (place_of found)
placed_join plan key =
    placed (λ (row : JoinRow). join_behind row.plan row.key) (λ row. ordering_then (slice_cmp nat_cmp row.plan plan) (slice_cmp nat_cmp row.key key)) (join_order plan key)
    (is_join plan key) (join_behind plan key) (join_same plan key) (join_greater plan key)

pub join_kept : (row : JoinRow) (rows : List JoinRow) → Ascends (λ row. join_behind row.plan row.key) rows → Ascends (λ row. join_behind row.plan row.key) (put_by (is_join row.plan row.key) (join_behind row.plan row.key) row rows)
join_kept row =
    put_ascends (λ (row : JoinRow). join_behind row.plan row.key) (λ other. ordering_then (slice_cmp nat_cmp other.plan row.plan) (slice_cmp nat_cmp other.key row.key)) (join_order row.plan row.key)
    (is_join row.plan row.key) (join_behind row.plan row.key) (join_same row.plan row.key) (join_greater row.plan row.key) row (tied_itself (then_total (on_total (λ (k : List ℕ × List ℕ). k.0) nat_list_cmp_total) (on_total (λ (k : List ℕ × List ℕ). k.1) nat_list_cmp_total)) (row.plan, row.key))

-- a join stands at the place of its own key
pub join_found : (rows : List JoinRow) (i : ℕ) (d : JoinRow) → Ascends (λ row. join_behind row.plan row.key) rows → i < length rows
    → position (is_join (get_or rows i d).plan (get_or rows i d).key) rows ≡ Some i
join_found rows i d up inside =
    let row : JoinRow = get_or rows i d in
    found (λ (row : JoinRow). join_behind row.plan row.key) (λ other. ordering_then (slice_cmp nat_cmp other.plan row.plan) (slice_cmp nat_cmp other.key row.key)) (join_order row.plan row.key)
    (is_join row.plan row.key) (join_behind row.plan row.key) (join_same row.plan row.key) (join_greater row.plan row.key) rows i d up inside
    (tied_itself (then_total (on_total (λ (k : List ℕ × List ℕ). k.0) nat_list_cmp_total) (on_total (λ (k : List ℕ × List ℕ). k.1) nat_list_cmp_total)) (row.plan, row.key))

put_in_order : (row : Row) (lists : Lists) → AreInOrder lists → AreInOrder (put row lists)
put_in_order (Meta row) lists order = record { metas = meta_kept row lists.metas order.metas; apis = order.apis; deployments = order.deployments; stages = order.stages; keys = order.keys; plans = order.plans; joins = order.joins }
put_in_order (Api row) lists order = record { metas = order.metas; apis = api_kept row lists.apis order.apis; deployments = order.deployments; stages = order.stages; keys = order.keys; plans = order.plans; joins = order.joins }
put_in_order (Deployment row) lists order = record { metas = order.metas; apis = order.apis; deployments = deployment_kept row lists.deployments order.deployments; stages = order.stages; keys = order.keys; plans = order.plans; joins = order.joins }
put_in_order (Stage row) lists order = record { metas = order.metas; apis = order.apis; deployments = order.deployments; stages = stage_kept row lists.stages order.stages; keys = order.keys; plans = order.plans; joins = order.joins }
put_in_order (Key row) lists order = record { metas = order.metas; apis = order.apis; deployments = order.deployments; stages = order.stages; keys = key_kept row lists.keys order.keys; plans = order.plans; joins = order.joins }
put_in_order (Plan row) lists order = record { metas = order.metas; apis = order.apis; deployments = order.deployments; stages = order.stages; keys = order.keys; plans = plan_kept row lists.plans order.plans; joins = order.joins }
put_in_order (Join row) lists order = record { metas = order.metas; apis = order.apis; deployments = order.deployments; stages = order.stages; keys = order.keys; plans = order.plans; joins = join_kept row lists.joins order.joins }

put_all_in_order : (rows : List Row) (lists : Lists) → AreInOrder lists → AreInOrder (put_all rows lists)
put_all_in_order [] lists order = order
put_all_in_order (row ∷ rows) lists order = put_all_in_order rows (put row lists) (put_in_order row lists order)

-- the lists stay in order
pub in_order : ListsStayInOrder
in_order = record {
  first = record { metas = tt; apis = tt; deployments = tt; stages = tt; keys = tt; plans = tt; joins = tt };
  put = put_in_order;
  put_all = put_all_in_order;
}
