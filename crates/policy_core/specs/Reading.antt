-- How an authorizer's reply is read.
use Rattle.std.specs.Prelude.{ℕ, List, length, nat_lt, Option, Some, None, Result, Ok, Err, if◌then◌else◌}
use Rattle.json_subset.specs.Tree.{Tree}
use Rattle.json_subset.specs.Reading.{json}
use Rattle.json_subset.specs.declared.fault.JsonFault.{JsonFault}
use Rattle.json_subset.specs.declared.fault.JsonFault.TheVariants as of_json
use Rattle.policy_core.specs.declared.fault.PolicyFault.{PolicyFault}
use Rattle.policy_core.specs.declared.fault.PolicyFault.TheVariants.{Malformed, Memory}
use Rattle.policy_core.specs.declared.policy.Policy.{Policy}
use Rattle.policy_core.specs.Replies.{policy_of, reply_fault}

-- the most bytes of a reply
unfoldable pub limit : ℕ
limit = 65536

-- a reply that is no JSON document is malformed at that fault
abbrev pub malformed : JsonFault → PolicyFault
malformed (of_json.Syntax at) = Malformed at
malformed (of_json.Depth at) = Malformed at
malformed (of_json.Repeated at) = Malformed at
malformed (of_json.NotUtf8 at) = Malformed at
malformed of_json.Memory = Memory

abbrev pub judged : List ℕ → Tree → Option ℕ → Result Policy PolicyFault
judged bytes t None = Ok (policy_of bytes t)
judged bytes t (Some at) = Err (Malformed at)

abbrev pub read_by : List ℕ → Result Tree JsonFault → Result Policy PolicyFault
read_by bytes (Ok t) = judged bytes t (reply_fault t)
read_by bytes (Err fault) = Err (malformed fault)

-- the policy that a reply is, or its first fault; its length is tested first
unfoldable pub reply_of : List ℕ → Result Policy PolicyFault
reply_of bytes = if nat_lt limit (length bytes) then Err (Malformed limit) else read_by bytes (json bytes)
