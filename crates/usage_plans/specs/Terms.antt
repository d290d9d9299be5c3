-- The terms that a plan may have.
use Rattle.std.specs.Prelude.{◌≤◌, IfSome}
use Rattle.usage_meter.specs.declared.allowance.Quota.{Quota}
use Rattle.usage_meter.specs.Levels.{IsThrottle}
use Rattle.usage_plans.specs.declared.terms.TheConstants.{MOST_UNITS}
use Rattle.usage_plans.specs.declared.terms.Terms.{Terms}

-- a quota's limit is in range, and its offset not above it
pub record IsQuota (quota : Quota) : Type 0 where
  pub limit : quota.limit ≤ MOST_UNITS
  pub offset : quota.offset ≤ quota.limit

pub record IsTerms (terms : Terms) : Type 0 where
  pub throttle : IfSome terms.throttle IsThrottle
  pub quota : IfSome terms.quota IsQuota
