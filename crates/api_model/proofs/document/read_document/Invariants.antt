use Rattle.std.proofs.Common.{◌≡◌, drop}
use Rattle.json_subset.specs.Documents.{form, part, root_tree}
use Rattle.json_values.specs.Parts.{entries_of}
use Rattle.api_parts.specs.Reading.{◌>>=◌, each}
use Rattle.api_model.specs.Document.{document_member, nothing_read, parts_of}
use Rattle.api_model.specs.Views.{IsPlanted, top_of}
use Rattle.api_model.proofs.document.read_document.Given as goal

abbrev pub invariant-loop-i : goal.invariant-loop-i
invariant-loop-i l = record {
  same : (each (document_member (root_tree l.doc)) (top_of l.read) (drop l.i (entries_of (form (part l.doc l.id)))) >>= parts_of) ≡ (each (document_member (root_tree l.doc)) nothing_read (entries_of (form (part l.doc l.id))) >>= parts_of);
  planted : IsPlanted l.read;
}
