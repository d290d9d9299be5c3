-- How refusals and usage are printed.
use Rattle.std.specs.Prelude.{ℕ, ◌-◌, List, [], ◌∷◌, codes}
use Rattle.std.specs.Fmt.{decimal}
use Rattle.std.specs.List.{concat}
use Rattle.usage_meter.specs.declared.period.PeriodKind.{PeriodKind}
use Rattle.usage_meter.specs.declared.period.PeriodKind.TheVariants.{Day, Week, Month}
use Rattle.book_rules.specs.declared.replies.Refusal.{Refusal}
use Rattle.book_rules.specs.declared.replies.Refusal.TheVariants.{BadName, NoApi, NoDeployment, NoStage, NoCanary, NoKey, NoPlan, NoJoin, NoQuota, BadShare, BadThrottle, BadQuota, BadKey, ValueTaken, StageTaken, TooLarge, Full}
use Rattle.book_rules.specs.declared.replies.Usage.{Usage}

abbrev pub refusal_name : Refusal → List ℕ
refusal_name BadName = codes "BadName"
refusal_name NoApi = codes "NoApi"
refusal_name NoDeployment = codes "NoDeployment"
refusal_name NoStage = codes "NoStage"
refusal_name NoCanary = codes "NoCanary"
refusal_name NoKey = codes "NoKey"
refusal_name NoPlan = codes "NoPlan"
refusal_name NoJoin = codes "NoJoin"
refusal_name NoQuota = codes "NoQuota"
refusal_name BadShare = codes "BadShare"
refusal_name BadThrottle = codes "BadThrottle"
refusal_name BadQuota = codes "BadQuota"
refusal_name BadKey = codes "BadKey"
refusal_name ValueTaken = codes "ValueTaken"
refusal_name StageTaken = codes "StageTaken"
refusal_name TooLarge = codes "TooLarge"
refusal_name Full = codes "Full"

abbrev pub kind_name : PeriodKind → List ℕ
kind_name Day = codes "DAY"
kind_name Week = codes "WEEK"
kind_name Month = codes "MONTH"

-- the period that stands, what it allows, what is used of it, and what remains
unfoldable pub usage_text : Usage → List ℕ
usage_text usage =
    concat
    (codes "usage period=" ∷ kind_name usage.period.kind ∷ codes ":" ∷ decimal usage.period.number
    ∷ codes " allowance=" ∷ decimal usage.allowance
    ∷ codes " used=" ∷ decimal usage.used
    ∷ codes " remaining=" ∷ decimal (usage.allowance - usage.used)
    ∷ [])
