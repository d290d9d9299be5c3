-- A row is told by its columns.
use Rattle.std.proofs.Common.{◌≡◌, ℕ, pos, List, [], sym}
use Rattle.sqlite_value.specs.declared.value.Value.{Value}
use Rattle.sqlite_value.specs.declared.value.Value.TheVariants.{Int, Text}
use Rattle.keeper_core.specs.Lists.{table_of}
use Rattle.keeper_core.specs.declared.rows.Row.{Row}
use Rattle.keeper_core.specs.declared.rows.Row.TheVariants.{Meta, Api, Deployment, Stage, Key, Plan, Join}
use Rattle.keeper_sqlite.specs.Answers.{IsRowOf}
use Rattle.keeper_sqlite.specs.Columns.{columns}

word_in : Value → List ℕ
word_in (Text t) = t
word_in _ = []

number_in : Value → ℕ
number_in (Int (pos n)) = n
number_in _ = 0

pub told : (row other : Row) → IsRowOf (table_of row) (columns row) other → other ≡ row
unfolding word_in number_in
told (Meta a) (Meta b) h = let c = h.holds in sym (λ i. Meta (record { id = number_in (c.0 i); version = number_in (c.1.0 i) }))
told (Api a) (Api b) h = let c = h.holds in sym (λ i. Api (record { api = word_in (c.0 i); text = number_in (c.1.0 i); source = word_in (c.1.1.0 i) }))
told (Deployment a) (Deployment b) h =
    let c = h.holds in sym (λ i. Deployment (record { api = word_in (c.0 i); number = number_in (c.1.0 i); text = number_in (c.1.1.0 i); source = word_in (c.1.1.1.0 i) }))
told (Stage a) (Stage b) h =
    let c = h.holds in
    sym (λ i. Stage (record { api = word_in (c.0 i); stage = word_in (c.1.0 i); deployment = number_in (c.1.1.0 i); vars = word_in (c.1.1.1.0 i); canary = number_in (c.1.1.1.1.0 i); share = number_in (c.1.1.1.1.1.0 i); canary_vars = word_in (c.1.1.1.1.1.1.0 i) }))
told (Key a) (Key b) h = let c = h.holds in sym (λ i. Key (record { key = word_in (c.0 i); value = word_in (c.1.0 i); enabled = number_in (c.1.1.0 i) }))
told (Plan a) (Plan b) h =
    let c = h.holds in
    sym (λ i. Plan (record { plan = word_in (c.0 i); rate = number_in (c.1.0 i); burst = number_in (c.1.1.0 i); tversion = number_in (c.1.1.1.0 i); qlimit = number_in (c.1.1.1.1.0 i); qoffset = number_in (c.1.1.1.1.1.0 i); qkind = number_in (c.1.1.1.1.1.1.0 i); stages = word_in (c.1.1.1.1.1.1.1.0 i) }))
told (Join a) (Join b) h =
    let c = h.holds in
    sym (λ i. Join (record { plan = word_in (c.0 i); key = word_in (c.1.0 i); level = number_in (c.1.1.0 i); at = number_in (c.1.1.1.0 i); tversion = number_in (c.1.1.1.1.0 i); pkind = number_in (c.1.1.1.1.1.0 i); pnumber = number_in (c.1.1.1.1.1.1.0 i); allowance = number_in (c.1.1.1.1.1.1.1.0 i); used = number_in (c.1.1.1.1.1.1.1.1.0 i); first = number_in (c.1.1.1.1.1.1.1.1.1.0 i) }))
told row other h = absurd (let e = h.stands in cc)
