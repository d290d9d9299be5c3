-- How a router of the table searches.
use Rattle.std.proofs.Common.{◌≡◌, ℕ, zero, suc, ◌==◌, Bool, true, false, cond, ◌&&◌, List, [], ◌∷◌, ◌++◌, codes, bytes_eq, Option, Some, None, Result, Ok, Err, IsUtf8, refl, ap, sym, ◌∙◌, arith}
use Rattle.std.specs.List.{slice_split, join_with_byte}
use Rattle.std.specs.Option.{option_and_then, option_map}
use Rattle.std.proofs.lemmas.List.Splits.{join_with_byte-slice_split}
use Rattle.record_fields.proofs.Utf8.{bytes_from_utf8}
use Rattle.matchit.specs.Rows.{Rows, prepend}
use Rattle.matchit.specs.Seek.{first, or_else, seek}
use Rattle.matchit.specs.Level.{IsText}
use Rattle.matchit.specs.declared.error.InsertError.{InsertError}
use Rattle.matchit.specs.Route.{Scan, parse_route, scan_start}
use Rattle.matchit.specs.Router.{RouteOf, map_key, rename, route_from}
use Rattle.matchit.proofs.OnLiterals.{matchit_on_literals}
use Rattle.matchit.proofs.RenameLemmas.{seek-rename}
use Rattle.matchit.proofs.SeekLemmas.{seek-empty}
use Rattle.admin_paths.specs.Paths.{is_apis, is_keys, is_parameter, is_plan_key, is_plans, is_stage, path_in, read_by}
use Rattle.admin_paths.specs.Router.{form_of, rows, table}
use Rattle.admin_paths.specs.declared.paths.AdminPath.{AdminPath}
use Rattle.admin_paths.specs.declared.paths.AdminPath.TheVariants as path
use Rattle.admin_paths.specs.declared.table.Form.{Form}
use Rattle.admin_paths.specs.declared.table.Form.TheVariants.{Document, Template, Deployments, Stage, Canary, Promote, Flush, Key, Plan, PlanKey, Grant, Usage, Shutdown}
use Rattle.admin_paths.proofs.Behind.{ending, ends_here, goes_on}
use Rattle.admin_paths.proofs.Segments.{AllPlain, Plain, no_slash_in, plain_by, split_plain, text_by}
use Rattle.admin_paths.proofs.Steps.{behind, exactly, fork, not_behind}

-- behind a stage and a slash
abbrev canary_rows : Rows
canary_rows = prepend (codes "canary") (([], 4) ∷ []) ++ (prepend (codes "flush") (([], 6) ∷ []) ++ prepend (codes "promote") (([], 5) ∷ []))

-- behind `stages` and a slash
abbrev stage_rows : Rows
stage_rows = prepend (256 ∷ []) (ending 3 canary_rows)

-- behind an API and a slash
abbrev api_rows : Rows
api_rows = prepend (codes "deployments") (([], 2) ∷ []) ++ (prepend (codes "stages" ++ 47 ∷ []) stage_rows ++ prepend (codes "text") (([], 1) ∷ []))

-- behind a plan's key and a slash
abbrev grant_rows : Rows
grant_rows = prepend (codes "grant") (([], 10) ∷ []) ++ prepend (codes "usage") (([], 11) ∷ [])

-- behind a plan, `keys` and a slash
abbrev plan_key_rows : Rows
plan_key_rows = prepend (256 ∷ []) (ending 9 grant_rows)

-- behind a plan and a slash
abbrev plan_rows : Rows
plan_rows = prepend (codes "keys" ++ 47 ∷ []) plan_key_rows

-- the table's rows, by numbers: those of APIs, of keys and of plans, and the last one
abbrev apis : Rows
apis = prepend (256 ∷ []) (ending 0 api_rows)

abbrev keys : Rows
keys = prepend (256 ∷ []) (ending 7 [])

abbrev plans : Rows
plans = prepend (256 ∷ []) (ending 8 plan_rows)

abbrev numbered : Rows
numbered =
    prepend (codes "apis" ++ 47 ∷ []) apis
    ++ (prepend (codes "keys" ++ 47 ∷ []) keys ++ (prepend (codes "plans" ++ 47 ∷ []) plans ++ prepend (codes "shutdown") (([], 12) ∷ [])))

-- the number of a path of the table
abbrev number : AdminPath → ℕ
number (path.Document api) = 0
number (path.Template api) = 1
number (path.Deployments api) = 2
number (path.Stage api stage) = 3
number (path.Canary api stage) = 4
number (path.Promote api stage) = 5
number (path.Flush api stage) = 6
number (path.Key key) = 7
number (path.Plan plan) = 8
number (path.PlanKey plan key) = 9
number (path.Grant plan key) = 10
number (path.Usage plan key) = 11
number path.Shutdown = 12

-- no literal has a slash
plain_apis : Plain (codes "apis")
plain_apis = plain_by (codes "apis") refl

plain_keys : Plain (codes "keys")
plain_keys = plain_by (codes "keys") refl

plain_plans : Plain (codes "plans")
plain_plans = plain_by (codes "plans") refl

plain_stages : Plain (codes "stages")
plain_stages = plain_by (codes "stages") refl

plain_deployments : Plain (codes "deployments")
plain_deployments = plain_by (codes "deployments") refl

plain_text : Plain (codes "text")
plain_text = plain_by (codes "text") refl

plain_shutdown : Plain (codes "shutdown")
plain_shutdown = plain_by (codes "shutdown") refl

plain_canary : Plain (codes "canary")
plain_canary = plain_by (codes "canary") refl

plain_promote : Plain (codes "promote")
plain_promote = plain_by (codes "promote") refl

plain_flush : Plain (codes "flush")
plain_flush = plain_by (codes "flush") refl

plain_grant : Plain (codes "grant")
plain_grant = plain_by (codes "grant") refl

plain_usage : Plain (codes "usage")
plain_usage = plain_by (codes "usage") refl

-- answers of which one or none is there
or_none : (found : Option ℕ) → or_else found None ≡ found
or_none None = refl
or_none (Some n) = refl

none_twice : (v w : Bool) → ◌≡◌ {A = Option ℕ} (cond v (cond w None None) None) None
none_twice true true = refl
none_twice true false = refl
none_twice false w = refl

abbrev three : Option ℕ → Option ℕ → Option ℕ → Option ℕ
three a b c = or_else a (or_else b c)

-- a text of one segment behind a literal, alone or of two
one : (w s : List ℕ) (k : ℕ) → Plain w → seek 0 (prepend w (([], k) ∷ [])) s ≡ cond (bytes_eq s w) (Some k) None
one w s k h = exactly w s k (text_by w h)

one_more : (w s r : List ℕ) (k : ℕ) → Plain w → seek 0 (prepend w (([], k) ∷ [])) (s ++ 47 ∷ r) ≡ None
one_more w s r k h = exactly w (s ++ 47 ∷ r) k (text_by w h) ∙ rw (no_slash_in s r w h) refl

-- behind a stage
canary_fork : (p : List ℕ) → seek 0 canary_rows p
    ≡ or_else (seek 0 (prepend (codes "canary") (([], 4) ∷ [])) p)
    (or_else (seek 0 (prepend (codes "flush") (([], 6) ∷ [])) p) (seek 0 (prepend (codes "promote") (([], 5) ∷ [])) p))
canary_fork p =
    let last = prepend (codes "promote") (([], 5) ∷ []) in
    fork 99 (codes "anary") (([], 4) ∷ []) (prepend (codes "flush") (([], 6) ∷ []) ++ last) p (omega arith) refl refl refl
    ∙ ap (or_else (seek 0 (prepend (codes "canary") (([], 4) ∷ [])) p)) (fork 102 (codes "lush") (([], 6) ∷ []) last p (omega arith) refl refl refl)

canary_last : (s : List ℕ) → seek 0 canary_rows s
    ≡ three (cond (bytes_eq s (codes "canary")) (Some 4) None) (cond (bytes_eq s (codes "flush")) (Some 6) None) (cond (bytes_eq s (codes "promote")) (Some 5) None)
canary_last s = canary_fork s ∙ rw (one (codes "canary") s 4 plain_canary, one (codes "flush") s 6 plain_flush, one (codes "promote") s 5 plain_promote) refl

canary_more : (s r : List ℕ) → seek 0 canary_rows (s ++ 47 ∷ r) ≡ None
canary_more s r =
    canary_fork (s ++ 47 ∷ r)
    ∙ rw (one_more (codes "canary") s r 4 plain_canary, one_more (codes "flush") s r 6 plain_flush, one_more (codes "promote") s r 5 plain_promote) refl

-- behind a plan's key
grant_fork : (p : List ℕ) → seek 0 grant_rows p ≡ or_else (seek 0 (prepend (codes "grant") (([], 10) ∷ [])) p) (seek 0 (prepend (codes "usage") (([], 11) ∷ [])) p)
grant_fork p = fork 103 (codes "rant") (([], 10) ∷ []) (prepend (codes "usage") (([], 11) ∷ [])) p (omega arith) refl refl refl

grant_last : (s : List ℕ) → seek 0 grant_rows s ≡ or_else (cond (bytes_eq s (codes "grant")) (Some 10) None) (cond (bytes_eq s (codes "usage")) (Some 11) None)
grant_last s = grant_fork s ∙ rw (one (codes "grant") s 10 plain_grant, one (codes "usage") s 11 plain_usage) refl

grant_more : (s r : List ℕ) → seek 0 grant_rows (s ++ 47 ∷ r) ≡ None
grant_more s r = grant_fork (s ++ 47 ∷ r) ∙ rw (one_more (codes "grant") s r 10 plain_grant, one_more (codes "usage") s r 11 plain_usage) refl

-- behind an API
api_fork : (p : List ℕ) → seek 0 api_rows p
    ≡ or_else (seek 0 (prepend (codes "deployments") (([], 2) ∷ [])) p)
    (or_else (seek 0 (prepend (codes "stages" ++ 47 ∷ []) stage_rows) p) (seek 0 (prepend (codes "text") (([], 1) ∷ [])) p))
api_fork p =
    fork 100 (codes "eployments") (([], 2) ∷ []) (prepend (codes "stages" ++ 47 ∷ []) stage_rows ++ prepend (codes "text") (([], 1) ∷ [])) p (omega arith) refl refl refl
    ∙ ap (or_else (seek 0 (prepend (codes "deployments") (([], 2) ∷ [])) p))
    (fork 115 (codes "tages" ++ 47 ∷ []) stage_rows (prepend (codes "text") (([], 1) ∷ [])) p (omega arith) refl refl refl)

api_last : (u : List ℕ) → Plain u → seek 0 api_rows u ≡ or_else (cond (bytes_eq u (codes "deployments")) (Some 2) None) (cond (bytes_eq u (codes "text")) (Some 1) None)
api_last u h =
    api_fork u ∙ rw (
      one (codes "deployments") u 2 plain_deployments,
      not_behind (codes "stages") u stage_rows plain_stages h,
      one (codes "text") u 1 plain_text,
    ) refl

api_more : (u r : List ℕ) → Plain u → seek 0 api_rows (u ++ 47 ∷ r) ≡ cond (bytes_eq u (codes "stages")) (seek 0 stage_rows r) None
api_more u r h =
    api_fork (u ++ 47 ∷ r) ∙ rw (
      one_more (codes "deployments") u r 2 plain_deployments,
      behind (codes "stages") u r stage_rows plain_stages h,
      one_more (codes "text") u r 1 plain_text,
    ) (or_none _)

-- the whole table
all_fork : (p : List ℕ) → seek 0 numbered p
    ≡ or_else (seek 0 (prepend (codes "apis" ++ 47 ∷ []) apis) p)
    (or_else (seek 0 (prepend (codes "keys" ++ 47 ∷ []) keys) p)
    (or_else (seek 0 (prepend (codes "plans" ++ 47 ∷ []) plans) p) (seek 0 (prepend (codes "shutdown") (([], 12) ∷ [])) p)))
all_fork p =
    let last = prepend (codes "shutdown") (([], 12) ∷ []) in
    let later = prepend (codes "plans" ++ 47 ∷ []) plans in
    let middle = prepend (codes "keys" ++ 47 ∷ []) keys in
    fork 97 (codes "pis" ++ 47 ∷ []) apis (middle ++ (later ++ last)) p (omega arith) refl refl refl
    ∙ ap (or_else (seek 0 (prepend (codes "apis" ++ 47 ∷ []) apis) p))
    (fork 107 (codes "eys" ++ 47 ∷ []) keys (later ++ last) p (omega arith) refl refl refl
    ∙ ap (or_else (seek 0 middle p)) (fork 112 (codes "lans" ++ 47 ∷ []) plans last p (omega arith) refl refl refl))

all_last : (s : List ℕ) → Plain s → seek 0 numbered s ≡ cond (bytes_eq s (codes "shutdown")) (Some 12) None
all_last s h =
    all_fork s ∙ rw (
      not_behind (codes "apis") s apis plain_apis h,
      not_behind (codes "keys") s keys plain_keys h,
      not_behind (codes "plans") s plans plain_plans h,
      one (codes "shutdown") s 12 plain_shutdown,
    ) refl

-- behind the first literal
all_more : (s r : List ℕ) → Plain s → seek 0 numbered (s ++ 47 ∷ r)
    ≡ three (cond (is_apis s) (seek 0 apis r) None) (cond (is_keys s) (seek 0 keys r) None) (cond (is_plans s) (seek 0 plans r) None)
all_more s r h =
    all_fork (s ++ 47 ∷ r) ∙ rw (
      behind (codes "apis") s r apis plain_apis h,
      behind (codes "keys") s r keys plain_keys h,
      behind (codes "plans") s r plans plain_plans h,
      one_more (codes "shutdown") s r 12 plain_shutdown,
      or_none (cond (is_plans s) (seek 0 plans r) None),
    ) refl

-- a segment more behind a key
keys_more : (t r : List ℕ) → Plain t → seek 0 keys (t ++ 47 ∷ r) ≡ None
keys_more t r h = goes_on 7 [] t r h ∙ rw (seek-empty 0 r) (by (is_parameter t))
  where
    by : (v : Bool) → ◌≡◌ {A = Option ℕ} (cond v None None) None
    by true = refl
    by false = refl

no_keys : (s t r : List ℕ) → Plain t → cond (is_keys s) (seek 0 keys (t ++ 47 ∷ r)) None ≡ None
no_keys s t r h = rw (keys_more t r h) (by (is_keys s))
  where
    by : (v : Bool) → ◌≡◌ {A = Option ℕ} (cond v None None) None
    by true = refl
    by false = refl

-- behind a plan
plans_more : (s t u r : List ℕ) → Plain t → Plain u
    → cond (is_plans s) (seek 0 plans (t ++ 47 ∷ (u ++ 47 ∷ r))) None ≡ cond (is_plans s && is_parameter t && is_keys u) (seek 0 plan_key_rows r) None
plans_more s t u r h k = rw (goes_on 8 plan_rows t (u ++ 47 ∷ r) h, behind (codes "keys") u r plan_key_rows plain_keys k) (by (is_plans s) (is_parameter t))
  where
    by : (v w : Bool) → cond v (cond w (cond (is_keys u) (seek 0 plan_key_rows r) None) None) None ≡ cond (v && w && is_keys u) (seek 0 plan_key_rows r) None
    by true true = refl
    by true false = refl
    by false w = refl

plans_part : (s t u : List ℕ) → Plain t → Plain u → cond (is_plans s) (seek 0 plans (t ++ 47 ∷ u)) None ≡ None
plans_part s t u h k = rw (goes_on 8 plan_rows t u h, not_behind (codes "keys") u plan_key_rows plain_keys k) (none_twice (is_plans s) (is_parameter t))

-- behind a stage
apis_more : (s t u r : List ℕ) → Plain t → Plain u
    → cond (is_apis s) (seek 0 apis (t ++ 47 ∷ (u ++ 47 ∷ r))) None ≡ cond (is_apis s && is_parameter t && bytes_eq u (codes "stages")) (seek 0 stage_rows r) None
apis_more s t u r h k = rw (goes_on 0 api_rows t (u ++ 47 ∷ r) h, api_more u r k) (by (is_apis s) (is_parameter t))
  where
    by : (v w : Bool) → cond v (cond w (cond (bytes_eq u (codes "stages")) (seek 0 stage_rows r) None) None) None
        ≡ cond (v && w && bytes_eq u (codes "stages")) (seek 0 stage_rows r) None
    by true true = refl
    by true false = refl
    by false w = refl

-- four segments and more
all_behind : (s t u r : List ℕ) → Plain s → Plain t → Plain u → seek 0 numbered (s ++ 47 ∷ (t ++ 47 ∷ (u ++ 47 ∷ r)))
    ≡ or_else (cond (is_apis s && is_parameter t && bytes_eq u (codes "stages")) (seek 0 stage_rows r) None)
    (cond (is_plans s && is_parameter t && is_keys u) (seek 0 plan_key_rows r) None)
all_behind s t u r h k l =
    all_more s (t ++ 47 ∷ (u ++ 47 ∷ r)) h ∙ rw (apis_more s t u r k l, no_keys s t (u ++ 47 ∷ r) k, plans_more s t u r k l) refl

-- the rows find what the table has
found : (segments : List (List ℕ)) → AllPlain segments → seek 0 numbered (join_with_byte 47 segments) ≡ option_map number (path_in segments)
unfolding path_in
found [] h = all_last [] tt
found (s ∷ []) h = all_last s h.0 ∙ by (bytes_eq s (codes "shutdown"))
  where
    by : (v : Bool) → cond v (Some 12) None ≡ option_map number (cond v (Some path.Shutdown) None)
    by true = refl
    by false = refl
found (s ∷ t ∷ []) h =
    all_more s t h.0 ∙ rw (ends_here 0 api_rows t h.1.0, ends_here 7 [] t h.1.0, ends_here 8 plan_rows t h.1.0)
    (by (is_apis s) (is_keys s) (is_plans s) (is_parameter t))
  where
    by : (a k p w : Bool) → three (cond a (cond w (Some 0) None) None) (cond k (cond w (Some 7) None) None) (cond p (cond w (Some 8) None) None)
        ≡ option_map number (cond (a && w) (Some (path.Document t)) (cond (k && w) (Some (path.Key t)) (cond (p && w) (Some (path.Plan t)) None)))
    by true k p true = refl
    by false true p true = refl
    by false false true true = refl
    by false false false true = refl
    by true true true false = refl
    by true true false false = refl
    by true false true false = refl
    by true false false false = refl
    by false true true false = refl
    by false true false false = refl
    by false false true false = refl
    by false false false false = refl
found (s ∷ t ∷ u ∷ []) h =
    all_more s (t ++ 47 ∷ u) h.0
    ∙ rw (goes_on 0 api_rows t u h.1.0, api_last u h.1.1.0, no_keys s t u h.1.0, plans_part s t u h.1.0 h.1.1.0)
    (or_none _ ∙ by (is_apis s) (is_parameter t) (bytes_eq u (codes "deployments")) (bytes_eq u (codes "text")))
  where
    by : (v w x y : Bool) → cond v (cond w (or_else (cond x (Some 2) None) (cond y (Some 1) None)) None) None
        ≡ option_map number (cond (v && w && x) (Some (path.Deployments t)) (cond (v && w && y) (Some (path.Template t)) None))
    by true true true y = refl
    by true true false true = refl
    by true true false false = refl
    by true false x y = refl
    by false w x y = refl
found (s ∷ t ∷ u ∷ a ∷ []) h =
    all_behind s t u a h.0 h.1.0 h.1.1.0 ∙ rw (ends_here 3 canary_rows a h.1.1.1.0, ends_here 9 grant_rows a h.1.1.1.0)
    (by (is_apis s && is_parameter t && bytes_eq u (codes "stages")) (is_plans s && is_parameter t && is_keys u) (is_parameter a))
  where
    by : (v w x : Bool) → or_else (cond v (cond x (Some 3) None) None) (cond w (cond x (Some 9) None) None)
        ≡ option_map number (cond (v && x) (Some (path.Stage t a)) (cond (w && x) (Some (path.PlanKey t a)) None))
    by true w true = refl
    by false true true = refl
    by false false true = refl
    by true true false = refl
    by true false false = refl
    by false true false = refl
    by false false false = refl
found (s ∷ t ∷ u ∷ a ∷ b ∷ []) h =
    all_behind s t u (a ++ 47 ∷ b) h.0 h.1.0 h.1.1.0
    ∙ rw (goes_on 3 canary_rows a b h.1.1.1.0, goes_on 9 grant_rows a b h.1.1.1.0, canary_last b, grant_last b)
    (by (is_apis s && is_parameter t && bytes_eq u (codes "stages")) (is_plans s && is_parameter t && is_keys u) (is_parameter a)
    (bytes_eq b (codes "canary")) (bytes_eq b (codes "flush")) (bytes_eq b (codes "promote")) (bytes_eq b (codes "grant")) (bytes_eq b (codes "usage")))
  where
    by : (v w x c g d e f : Bool)
        → or_else (cond v (cond x (three (cond c (Some 4) None) (cond g (Some 6) None) (cond d (Some 5) None)) None) None)
        (cond w (cond x (or_else (cond e (Some 10) None) (cond f (Some 11) None)) None) None)
        ≡ option_map number (cond (v && x && c) (Some (path.Canary t a)) (cond (v && x && g) (Some (path.Flush t a)) (cond (v && x && d) (Some (path.Promote t a))
        (cond (w && x && e) (Some (path.Grant t a)) (cond (w && x && f) (Some (path.Usage t a)) None)))))
    by true w true true g d e f = refl
    by true w true false true d e f = refl
    by true w true false false true e f = refl
    by true true true false false false true f = refl
    by true true true false false false false true = refl
    by true true true false false false false false = refl
    by true false true false false false e f = refl
    by false true true c g d true f = refl
    by false true true c g d false true = refl
    by false true true c g d false false = refl
    by false false true c g d e f = refl
    by true true false c g d e f = refl
    by true false false c g d e f = refl
    by false true false c g d e f = refl
    by false false false c g d e f = refl
found (s ∷ t ∷ u ∷ a ∷ b ∷ c ∷ rest) h =
    let r = join_with_byte 47 (c ∷ rest) in
    all_behind s t u (a ++ 47 ∷ (b ++ 47 ∷ r)) h.0 h.1.0 h.1.1.0
    ∙ rw (goes_on 3 canary_rows a (b ++ 47 ∷ r) h.1.1.1.0, goes_on 9 grant_rows a (b ++ 47 ∷ r) h.1.1.1.0, canary_more b r, grant_more b r)
    (by (is_apis s && is_parameter t && bytes_eq u (codes "stages")) (is_plans s && is_parameter t && is_keys u) (is_parameter a))
  where
    by : (v w x : Bool) → ◌≡◌ {A = Option ℕ} (or_else (cond v (cond x None None) None) (cond w (cond x None None) None)) None
    by true true true = refl
    by true true false = refl
    by true false true = refl
    by true false false = refl
    by false true true = refl
    by false true false = refl
    by false false x = refl

-- the routes of the table
abbrev scan_of : Result Scan InsertError → Scan
scan_of (Ok scan) = scan
scan_of (Err error) = scan_start

-- the entries of the table by their numbers
abbrev entry_at : List (List ℕ × Form) → ℕ → List ℕ × Form
entry_at [] n = ([], Shutdown)
entry_at (entry ∷ entries) zero = entry
entry_at (entry ∷ entries) (suc n) = entry_at entries n

abbrev route_at : ℕ → RouteOf Form
route_at n = route_from (scan_of (parse_route (entry_at table n).0)) (entry_at table n).1

rows_are : rows ≡ rename route_at numbered
unfolding matchit_on_literals
rows_are = refl

abbrev pub form_found : Option (RouteOf Form) → Option Form
form_found found = option_map (λ route. route.value) found

form_of_number : (found : Option AdminPath) → form_found (map_key route_at (option_map number found)) ≡ option_map form_of found
form_of_number None = refl
form_of_number (Some (path.Document api)) = refl
form_of_number (Some (path.Template api)) = refl
form_of_number (Some (path.Deployments api)) = refl
form_of_number (Some (path.Stage api stage)) = refl
form_of_number (Some (path.Canary api stage)) = refl
form_of_number (Some (path.Promote api stage)) = refl
form_of_number (Some (path.Flush api stage)) = refl
form_of_number (Some (path.Key key)) = refl
form_of_number (Some (path.Plan plan)) = refl
form_of_number (Some (path.PlanKey plan key)) = refl
form_of_number (Some (path.Grant plan key)) = refl
form_of_number (Some (path.Usage plan key)) = refl
form_of_number (Some path.Shutdown) = refl

-- a router of the table finds the path that has these segments
pub finds : (text : List ℕ) → IsUtf8 text → form_found (first rows text) ≡ option_map form_of (path_in (slice_split (λ b. b == 47) text))
finds text utf8 =
    let segments = slice_split (λ b. b == 47) text in
    ap (λ r. form_found (first r text)) rows_are
    ∙ ap form_found (seek-rename route_at 0 numbered text
    ∙ ap (map_key route_at) (ap (seek 0 numbered) (sym (join_with_byte-slice_split 47 text)) ∙ found segments (split_plain text (bytes_from_utf8 text utf8))))
    ∙ form_of_number (path_in segments)

-- the parameters at the places of its form are the path
abbrev Reads : List (List ℕ) → Option AdminPath → Type 0
Reads segments found = option_and_then (λ form. read_by form segments) (option_map form_of found) ≡ found

either_reads : (segments : List (List ℕ)) (v : Bool) (this : AdminPath) (other : Option AdminPath) → read_by (form_of this) segments ≡ Some this → Reads segments other
    → Reads segments (cond v (Some this) other)
either_reads segments true this other e f = e
either_reads segments false this other e f = f

pub read_back : (segments : List (List ℕ)) → option_and_then (λ form. read_by form segments) (option_map form_of (path_in segments)) ≡ path_in segments
unfolding path_in
read_back [] = refl
read_back (s ∷ []) = either_reads (s ∷ []) (bytes_eq s (codes "shutdown")) path.Shutdown None refl refl
read_back (s ∷ t ∷ []) =
    let all = s ∷ t ∷ [] in
    either_reads all (is_apis s && is_parameter t) (path.Document t) _ refl
    (either_reads all (is_keys s && is_parameter t) (path.Key t) _ refl (either_reads all (is_plans s && is_parameter t) (path.Plan t) None refl refl))
read_back (s ∷ t ∷ u ∷ []) =
    let all = s ∷ t ∷ u ∷ [] in
    either_reads all (is_apis s && is_parameter t && bytes_eq u (codes "deployments")) (path.Deployments t) _ refl
    (either_reads all (is_apis s && is_parameter t && bytes_eq u (codes "text")) (path.Template t) None refl refl)
read_back (s ∷ t ∷ u ∷ a ∷ []) =
    let all = s ∷ t ∷ u ∷ a ∷ [] in
    either_reads all (is_stage s t u a) (path.Stage t a) _ refl (either_reads all (is_plan_key s t u a) (path.PlanKey t a) None refl refl)
read_back (s ∷ t ∷ u ∷ a ∷ b ∷ []) =
    let all = s ∷ t ∷ u ∷ a ∷ b ∷ [] in
    either_reads all (is_stage s t u a && bytes_eq b (codes "canary")) (path.Canary t a) _ refl
    (either_reads all (is_stage s t u a && bytes_eq b (codes "flush")) (path.Flush t a) _ refl
    (either_reads all (is_stage s t u a && bytes_eq b (codes "promote")) (path.Promote t a) _ refl
    (either_reads all (is_plan_key s t u a && bytes_eq b (codes "grant")) (path.Grant t a) _ refl
    (either_reads all (is_plan_key s t u a && bytes_eq b (codes "usage")) (path.Usage t a) None refl refl))))
read_back (s ∷ t ∷ u ∷ a ∷ b ∷ c ∷ rest) = refl
