use Rattle.std.proofs.Common.{◌≡◌, true, take}
use Rattle.std.specs.List.{list_all}
use Rattle.std.specs.String.{string_bytes}
use Rattle.record_fields.specs.Columns.{column, is_pair_of_texts}
use Rattle.record_fields.proofs.columns.write_column.Given as goal

-- the text so far is the column of the pairs so far, which are of texts
abbrev pub invariant-loop-name : goal.invariant-loop-name
invariant-loop-name l = record {
  so_far : string_bytes l.text ≡ column (take l.name-index l.pairs);
  texts : list_all is_pair_of_texts (take l.name-index l.pairs) ≡ true;
}
