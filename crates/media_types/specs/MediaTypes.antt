-- The media type of a message (RFC 9110, section 8.3).
use Rattle.std.specs.Prelude.{ℕ, List, codes, Option, Some, None}
use Rattle.gw_base.specs.Names.{lower}
use Rattle.call_facts.specs.Pairs.{Pairs, header_value}
use Rattle.call_facts.specs.Target.{until}
use Rattle.media_types.specs.Blanks.{trimmed}

-- of a content type: what stands before its parameters, without blanks around it, in lower case
abbrev pub media_type_in : Option (List ℕ) → List ℕ
media_type_in None = codes "application/json"
media_type_in (Some value) = lower (trimmed (until 59 value))

-- of a message with these header fields; where it has no content type, JSON
unfoldable pub media_type : Pairs → List ℕ
media_type headers = media_type_in (header_value headers (codes "content-type"))
