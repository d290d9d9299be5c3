use Rattle.jsonpath_core.specs.Reading.{run}
use Rattle.jsonpath_core.specs.Spelling.{is_digit}
use Rattle.std.proofs.Common.{◌≡◌, ap, ◌∙◌, rules}
use Rattle.std.specs.List.{list_all}
use Rattle.jsonpath_core.proofs.Fronts.{cut_behind, digit_is_ascii, run_passes}
use Rattle.jsonpath_core.proofs.reader.split_digits.Goals as goal

pub split_at-requires : goal.split_at-requires
split_at-requires c = cut_behind is_digit c.args.text.now c.digits_len.result c.utf8.text digit_is_ascii (search rules) (search rules)

pub returns-clause-digits : goal.returns-clause-digits
returns-clause-digits c =
    let front : c.split_at.result.0.now ≡ run is_digit c.args.text.now = search rules in
    ap (list_all is_digit) front ∙ run_passes is_digit c.args.text.now
