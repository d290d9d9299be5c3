-- What contracts see of a keeper over a file.
use Rattle.std.specs.Prelude.{ℕ, List, None, refl}
use Rattle.std.specs.Coded.{Coded, code_by, coded×, coded_ℕ, coded_list}
use Rattle.keeper_core.specs.Keeping.{KeeperFacts}
use Rattle.keeper_core.specs.declared.rows.Row.{Row}
use Rattle.keeper_core.specs.contracts.rows.Row as row
use Rattle.keeper_sqlite.specs.Links.{Linked, linked_code}

-- the rows that are staged; how often a call has failed, and a load, each up to 2^64 - 1; and the connection to the file
pub record StoreStand (S : Type 0) : Type 0 where
  pub staged : List Row
  pub faults : ℕ
  pub loads : ℕ
  pub link : Linked S

abbrev pub stand_code : {S : Type 0} → Coded S → Coded (StoreStand S)
stand_code {S} store =
    code_by (List Row × (ℕ × (ℕ × Linked S))) (coded× (coded_list row.the_row.coded) (coded× coded_ℕ (coded× coded_ℕ (linked_code store)))) (λ s. (s.staged, (s.faults, (s.loads, s.link))))
    (λ p. record { staged = p.0; faults = p.1.0; loads = p.1.1.0; link = p.1.1.1 })
    (λ _. refl)

-- it tells neither its tables nor which calls fail
abbrev pub told_by : {S : Type 0} → StoreStand S → KeeperFacts
told_by stand = record { tables = None; staged = stand.staged; faults = stand.faults; loads = stand.loads; planned = None }
