-- What the command `check` prints of its file.
use Rattle.std.specs.Prelude.{ℕ, List, [], ◌∷◌, codes, length, Option, Some, None, Ok, Err}
use Rattle.std.specs.Fmt.{decimal}
use Rattle.std.specs.List.{concat}
use Rattle.api_model.specs.Definition.{document, stated}
use Rattle.api_model.specs.Document.{Parts}
use Rattle.api_parts.specs.Printed.{printed}
use Rattle.api_parts.specs.Reading.{Read}
use Rattle.api_parts.specs.declared.fault.ApiFault.{ApiFault}
use Rattle.outside_core.specs.Files.{Files, content_of}
use Rattle.gateway_cli.specs.Files.{within}
use Rattle.play_script.specs.Play.{Output, too_long}
use Rattle.play_script.specs.Printed.{line_feed}
use Rattle.record_fields.specs.Writing.{coded, field}

-- the line of a document that states an API: how many resources, methods and models it has
unfoldable pub accepted : Parts → Output
accepted parts = record {
  text = concat (codes "ok resources=" ∷ decimal (length parts.resources) ∷ codes " methods=" ∷ decimal (length parts.methods)
      ∷ codes " models=" ∷ decimal (length parts.models) ∷ line_feed ∷ []);
  status = 0;
}

-- the line of one that is refused: its fault, and the fault's place
unfoldable pub refused : ApiFault → Output
refused fault = record { text = concat (codes "refused " ∷ coded (printed fault.cause) ∷ codes " at " ∷ field fault.place ∷ line_feed ∷ []); status = 1 }

abbrev pub reported : Read Parts → Output
reported (Ok parts) = accepted parts
reported (Err fault) = refused fault

-- what is printed of a document
abbrev pub checked : List ℕ → Output
checked bytes = reported (stated (document bytes))

-- the same of bytes that none stand for where they are more than the limit
abbrev pub checked_within : Option (List ℕ) → Output
checked_within None = too_long
checked_within (Some bytes) = checked bytes

-- the most bytes of the document's file
unfoldable pub document_limit : ℕ
document_limit = 1048576

-- the file must be there
abbrev pub checked_file : Option (List ℕ) → Output
checked_file None = record { text = []; status = 3 }
checked_file (Some bytes) = checked_within (within document_limit bytes)

-- the file of this name
abbrev pub check_of : Files → List ℕ → Output
check_of files name = checked_file (content_of name files)
