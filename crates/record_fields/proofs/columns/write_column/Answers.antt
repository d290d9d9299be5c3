use Rattle.std.proofs.Common.{◌≡◌, true, ◌==◌, ◌++◌, ◌∷◌, [], length, take, get_or, ◌∙◌, ap, sym, lit<}
use Rattle.std.specs.String.{string_bytes, string_len}
use Rattle.std.proofs.lemmas.Bool.{cond-true, cond-false, and_from}
use Rattle.std.proofs.lemmas.List.Folds.{list_all_more}
use Rattle.std.specs.List.{list_all}
use Rattle.record_fields.specs.Coding.{is_utf8}
use Rattle.record_fields.proofs.Utf8.{told_utf8}
use Rattle.record_fields.specs.Columns.{pair_field, column, is_pair_of_texts}
use Rattle.record_fields.proofs.Joined.{spaced, column_more}
use Rattle.record_fields.proofs.columns.write_column.Goals as goal
use Rattle.record_fields.proofs.columns.write_column.Goals.{then-not-is_empty+in_ok-push, else-not-is_empty}

pub loop-name-preserved : goal.loop-name-preserved
loop-name-preserved c =
    let so_far = string_bytes c.loop-name.text in
    let pairs = c.args.pairs.now in
    let pair = c.loop-name-item.result in
    let empty : (length so_far == 0) ≡ (string_len c.loop-name.text == 0) = ap (λ n. n == 0) (sym c.loop-name.text.bytes.ok.0) in
    let behind : string_bytes c.if-not-is_empty.text ≡ spaced so_far =
    elim c.if-not-is_empty.branch [
      | then-not-is_empty+in_ok-push w ↦
          ap string_bytes w.text-is ∙ w.in_ok-push.ensures.bytes ∙ ap (λ t. so_far ++ t) (w.in_ok-push.ensures.ascii (lit< tt))
          ∙ sym (cond-false (length so_far == 0) so_far (so_far ++ 32 ∷ []) (empty ∙ sym w.if-not-is_empty.ensures))
      | else-not-is_empty w ↦ ap string_bytes w.text-is ∙ sym (cond-true (length so_far == 0) so_far (so_far ++ 32 ∷ []) (empty ∙ sym w.if-not-is_empty.ensures))
    ] in
    let named : pair_field (c.as_str.result.now, c.as_str-in-loop-name.result.now) ≡ pair_field (get_or pairs c.loop-name.name-index pair) =
    ap (λ name. pair_field (name, c.as_str-in-loop-name.result.now)) c.as_str.ensures ∙ ap (λ value. pair_field (pair.0, value)) c.as_str-in-loop-name.ensures
    ∙ ap pair_field c.loop-name-item.is in
    let column_is = c.in_ok-append_pair.ensures ∙ ap (λ t. t ++ pair_field (c.as_str.result.now, c.as_str-in-loop-name.result.now)) (behind ∙ ap spaced c.loop-name.invariant.so_far)
    ∙ ap (λ t. spaced (column (take c.loop-name.name-index pairs)) ++ t) named ∙ column_more pairs c.loop-name.name-index pair c.loop-name-test.true in
    let both : is_pair_of_texts pair ≡ true =
    and_from (is_utf8 pair.0) (is_utf8 pair.1) (told_utf8 pair.0 c.as_str.result.now c.as_str.ensures c.as_str.utf8)
    (told_utf8 pair.1 c.as_str-in-loop-name.result.now c.as_str-in-loop-name.ensures c.as_str-in-loop-name.utf8) in
    record {
      so_far = column_is;
      texts =
          list_all_more is_pair_of_texts pairs c.loop-name.name-index pair c.loop-name-test.true
          ∙ and_from (list_all is_pair_of_texts (take c.loop-name.name-index pairs)) (is_pair_of_texts (get_or pairs c.loop-name.name-index pair)) c.loop-name.invariant.texts (ap is_pair_of_texts (sym c.loop-name-item.is) ∙ both);
    }
