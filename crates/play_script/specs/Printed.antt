-- The lines that are printed.
use Rattle.std.specs.Prelude.{ℕ, List, [], ◌∷◌, codes}
use Rattle.std.specs.Fmt.{decimal}
use Rattle.std.specs.List.{concat}
use Rattle.admin_routes.specs.Asked.{fault_line}
use Rattle.book_rules.specs.Printed.{refusal_name, usage_text}
use Rattle.book_rules.specs.declared.replies.Reply.{Reply}
use Rattle.book_rules.specs.declared.replies.Reply.TheVariants.{Entered, NoStage, Remembered, NotRemembered, Learned, Admitted, InvalidKey, Throttled, QuotaExceeded, Store, Left, Done, Deployed, Usage, Refused}
use Rattle.script_records.specs.declared.records.LineFault.{LineFault}
use Rattle.script_records.specs.declared.records.LineFault.TheVariants.{BadRecord, Definition}
use Rattle.gate_walk.specs.declared.ended.SessionFull.{SessionFull}

abbrev pub line_feed : List ℕ
line_feed = 10 ∷ []

-- the line of a command's reply
abbrev pub reply_line : Reply → List ℕ
reply_line Done = concat (codes "done" ∷ line_feed ∷ [])
reply_line (Deployed number) = concat (codes "deployed " ∷ decimal number ∷ line_feed ∷ [])
reply_line (Usage usage) = concat (usage_text usage ∷ line_feed ∷ [])
reply_line (Refused refusal) = concat (codes "refused " ∷ refusal_name refusal ∷ line_feed ∷ [])
reply_line Store = concat (codes "store" ∷ line_feed ∷ [])
reply_line NoStage = []
reply_line (Entered view) = []
reply_line (Remembered policy) = []
reply_line NotRemembered = []
reply_line Learned = []
reply_line (Admitted key plan) = []
reply_line InvalidKey = []
reply_line (Throttled level) = []
reply_line (QuotaExceeded allowance used) = []
reply_line (Left closing) = []

-- a line's fault and its place; an empty place is `~`
abbrev pub line_fault : LineFault → List ℕ
line_fault BadRecord = codes "BadRecord at ~"
line_fault (Definition fault) = fault_line fault

-- the line that ends a play at a line of this number
unfoldable pub refused_line : ℕ → LineFault → List ℕ
refused_line number fault = concat (codes "refused line " ∷ decimal number ∷ codes " " ∷ line_fault fault ∷ line_feed ∷ [])

-- the line that ends a play where the session is full
unfoldable pub full_line : SessionFull → List ℕ
full_line full = concat (codes "full " ∷ decimal full.entries ∷ codes " " ∷ decimal full.bytes ∷ line_feed ∷ [])
