-- What contracts see of a keeper in memory that never fails.
use Rattle.std.specs.Prelude.{◌≡◌, []}
use Rattle.keeper_core.specs.Keeping.{MemFacts}

-- no call of the keeper has failed, and none is to fail
pub record NeverFails (keeper : MemFacts) : Type 0 where
  pub fails : keeper.planned.fails ≡ []
  pub faults : keeper.faults ≡ 0
  pub loads : keeper.loads ≡ 0
