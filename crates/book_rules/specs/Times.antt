-- When a request happens.
use Rattle.std.specs.Prelude.{◌<◌}
use Rattle.book_rules.specs.declared.replies.Reply.{Reply}
use Rattle.book_rules.specs.declared.replies.Reply.TheVariants.{Entered, NoStage, Remembered, NotRemembered, Learned, Admitted, InvalidKey, Throttled, QuotaExceeded, Store, Left, Done, Deployed, Refused}
use Rattle.book_rules.specs.declared.replies.Reply.TheVariants.{Usage as Used}

-- the moment of a view is before the year 2100
abbrev pub IsInTime : Reply → Type 0
IsInTime (Entered view) = view.at < 4102444800000
IsInTime NoStage = Unit {0}
IsInTime (Remembered policy) = Unit {0}
IsInTime NotRemembered = Unit {0}
IsInTime Learned = Unit {0}
IsInTime (Admitted key plan) = Unit {0}
IsInTime InvalidKey = Unit {0}
IsInTime (Throttled level) = Unit {0}
IsInTime (QuotaExceeded allowance used) = Unit {0}
IsInTime Store = Unit {0}
IsInTime (Left closing) = Unit {0}
IsInTime Done = Unit {0}
IsInTime (Deployed number) = Unit {0}
IsInTime (Used usage) = Unit {0}
IsInTime (Refused refusal) = Unit {0}
