-- The answers to administration requests.
use Rattle.std.specs.Prelude.{ℕ, List, [], ◌∷◌, ◌++◌, codes, None}
use Rattle.std.specs.Fmt.{decimal}
use Rattle.book_rules.specs.Printed.{refusal_name, usage_text}
use Rattle.book_rules.specs.declared.replies.Reply.{Reply}
use Rattle.book_rules.specs.declared.replies.Reply.TheVariants.{Entered, NoStage, Remembered, NotRemembered, Learned, Admitted, InvalidKey, Throttled, QuotaExceeded, Store, Left, Done, Deployed, Usage, Refused}
use Rattle.call_facts.specs.declared.answer.Answer.{Answer}
use Rattle.gateway_vars.specs.Escapes.{json_string}
use Rattle.method_flow.specs.declared.answers.Made.{Made}

-- an object with one member
unfoldable pub json_of : List ℕ → List ℕ → List ℕ
json_of name text = codes "{\"" ++ name ++ codes "\":" ++ json_string text ++ codes "}"

-- such an answer has no cause
unfoldable pub json_answer : ℕ → List ℕ → Answer
json_answer status body = record { status = status; headers = (codes "content-type", codes "application/json") ∷ []; body = body }

abbrev pub json_made : ℕ → List ℕ → Made
json_made status body = record { answer = json_answer status body; cause = None }

-- why no command was asked of the book
abbrev pub refused_made : ℕ → List ℕ → Made
refused_made status why = json_made status (json_of (codes "refused") why)

-- the line of a command's reply, without its end; the others are no command's
abbrev pub reply_text : Reply → List ℕ
reply_text Done = codes "done"
reply_text (Deployed number) = codes "deployed " ++ decimal number
reply_text (Refused refusal) = codes "refused " ++ refusal_name refusal
reply_text (Usage usage) = usage_text usage
reply_text Store = codes "store"
reply_text NoStage = []
reply_text (Entered view) = []
reply_text (Remembered policy) = []
reply_text NotRemembered = []
reply_text Learned = []
reply_text (Admitted key plan) = []
reply_text InvalidKey = []
reply_text (Throttled level) = []
reply_text (QuotaExceeded allowance used) = []
reply_text (Left closing) = []

abbrev pub reply_status : Reply → ℕ
reply_status Done = 200
reply_status (Deployed number) = 200
reply_status (Usage usage) = 200
reply_status (Refused refusal) = 409
reply_status Store = 500
reply_status NoStage = 500
reply_status (Entered view) = 500
reply_status (Remembered policy) = 500
reply_status NotRemembered = 500
reply_status Learned = 500
reply_status (Admitted key plan) = 500
reply_status InvalidKey = 500
reply_status (Throttled level) = 500
reply_status (QuotaExceeded allowance used) = 500
reply_status (Left closing) = 500

-- what the book replied
abbrev pub replied_made : Reply → Made
replied_made reply = json_made (reply_status reply) (json_of (codes "reply") (reply_text reply))
