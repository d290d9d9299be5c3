-- Patterns and templates.
use Rattle.std.specs.Prelude.{nat_le, List, [], ◌∷◌, ◌++◌, length, Result, Ok, Err, if◌then◌else◌}
use Rattle.json_subset.specs.Tree.{Tree}
use Rattle.status_table.specs.Statuses.{is_whole_pattern}
use Rattle.vtl_grammar.specs.Tree.{Items}
use Rattle.vtl_grammar.specs.Templates.{read_of}
use Rattle.vtl_grammar.specs.declared.fault.TemplateFault.{TemplateFault}
use Rattle.api_parts.specs.Reading.{Text, Read, ◌>>=◌, each, here, bad}
use Rattle.api_parts.specs.declared.fault.ApiCause.TheVariants.{BadPattern, Template}
use Rattle.api_reading.specs.Values.{object_in, text_in}

-- a pattern has at most 1,024 bytes, and is one for whole texts
abbrev pub pattern_by : Text → Read Text
pattern_by p = if is_whole_pattern p then Ok p else Err (here BadPattern)

abbrev pub pattern_of : Text → Text → Read Text
pattern_of name p = if nat_le (length p) 1024 then pattern_by p else bad name

abbrev pub pattern_in : Text → Tree → Read Text
pattern_in name t = text_in name t >>= pattern_of name

-- a text that is read as a template
abbrev pub template_by : Text → Result Items TemplateFault → Read Text
template_by s (Ok is) = Ok s
template_by s (Err fault) = Err (here (Template fault))

unfoldable pub template_of : Text → Read Text
template_of s = template_by s (read_of s)

-- the templates by their media types
abbrev pub templates_member : List (Text × Text) → Text → Tree → Read (List (Text × Text))
templates_member all x t = text_in x t >>= λ s. template_of s >>= λ s. Ok (all ++ (x, s) ∷ [])

abbrev pub templates_in : Text → Tree → Read (List (Text × Text))
templates_in name t = object_in name t >>= each templates_member []
