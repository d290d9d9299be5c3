-- A definition: a document, or a template that answers every request.
use Rattle.std.specs.Prelude.{ℕ, nat_le, Bool, true, false, List, [], codes, length, Result, Ok, Err, if◌then◌else◌}
use Rattle.json_subset.specs.Reading.{json}
use Rattle.json_subset.specs.Tree.{Tree}
use Rattle.json_subset.specs.declared.fault.JsonFault.{JsonFault}
use Rattle.api_parts.specs.Reading.{Text, Read, here, ◌>>=◌, under}
use Rattle.api_parts.specs.declared.fault.ApiCause.TheVariants.{Json, TooLong}
use Rattle.api_reading.specs.Texts.{template_of}
use Rattle.api_model.specs.Document.{Parts, no_parts, stated_by}

-- its form and its source, which fix all its parts
pub record Definition : Type 0 where
  pub is_text : Bool
  pub source : List ℕ

abbrev pub document : List ℕ → Definition
document bytes = record { is_text = false; source = bytes }

abbrev pub text : List ℕ → Definition
text template = record { is_text = true; source = template }

abbrev pub read_by : Result Tree JsonFault → Read Parts
read_by (Ok t) = stated_by t
read_by (Err fault) = Err (here (Json fault))

-- a document has at most 1,048,576 bytes
unfoldable pub document_parts : List ℕ → Read Parts
document_parts bytes = if nat_le (length bytes) 1048576 then read_by (json bytes) else Err (here TooLong)

-- a text API has no parts but its template; each fault of it stands at `/text`
unfoldable pub text_parts : List ℕ → Read Parts
text_parts template = under (codes "text") (template_of template) >>= λ s. Ok no_parts

abbrev pub stated_as : Bool → List ℕ → Read Parts
stated_as true source = text_parts source
stated_as false source = document_parts source

-- what a definition states, or its first fault
abbrev pub stated : Definition → Read Parts
stated d = stated_as d.is_text d.source

abbrev pub parts_in : Read Parts → Parts
parts_in (Ok p) = p
parts_in (Err e) = no_parts

-- its parts
unfoldable pub parts_of : Definition → Parts
parts_of d = parts_in (stated d)
