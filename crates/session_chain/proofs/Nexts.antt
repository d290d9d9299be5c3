-- Why a next book does not start.
use Rattle.std.proofs.Common.{◌≡◌, ℕ, Option, Some, None, Result, Ok, Err, IfSome, IfErr, ap, sym, ◌∙◌, refl}
use Rattle.book_core.specs.Starts.{IsNamed, StartFails}
use Rattle.book_core.specs.declared.start.StartFault.{StartFault}
use Rattle.book_core.specs.declared.start.StartFault.TheVariants.{BadStore, StoreFault, Memory}
use Rattle.book_rules.specs.Good.{bad_row}
use Rattle.keeper_core.specs.Keeping.{KeeperFacts}
use Rattle.keeper_core.specs.Lists.{Lists}
use Rattle.keeper_core.specs.declared.table.Table.{Table}
use Rattle.session_chain.specs.Served.{NextFails}

-- no row is bad of tables that are good
module _ (after : Lists) (good : bad_row after ≡ None) (before now : KeeperFacts) where
  none_named : (tables : Option Lists) (table : Table) (row : ℕ) → IfSome tables (λ lists. lists ≡ after) → IsNamed tables before table row now → (tables ≡ None) × IsNamed None before table row now
  none_named None table row told named = (refl, named)
  none_named (Some lists) table row told named = absurd (differ (sym named ∙ ap bad_row told ∙ good))
    where
      differ : ◌≡◌ {A = Option (Table × ℕ)} (Some (table, row)) None → ⊥
      differ e = cc

  pub next_fails : (fault : StartFault) → IfSome before.tables (λ lists. lists ≡ after) → StartFails before fault now → NextFails before fault now
  next_fails (BadStore table row) told fails = none_named before.tables table row told fails
  next_fails StoreFault told fails = fails
  next_fails Memory told fails = tt
