use Rattle.std.proofs.Common.{◌++◌, codes, refl, arith, rules}
use Rattle.std.specs.Rc.{rc_str_bytes}
use Rattle.std.specs.String.{string_bytes}
use Rattle.vtl_values.specs.Val.{vals_of}
use Rattle.vtl_values.specs.Vals.{rows_of}
use Rattle.vtl_values.specs.Printed.{more, joined, printed, all_printed, entries_printed}
use Rattle.vtl_values.proofs.Depths.{item_depth, row_depth}
use Rattle.vtl_values.proofs.Fronts.{front_within, refused, turn_front}
use Rattle.vtl_values.proofs.Pieces.{turn_lacks}
use Rattle.vtl_values.proofs.printing.+print.Goals as goal

pub print_more-print_next-requires : goal.print_more-print_next-requires
print_more-print_next-requires t c = (omega (arith, item_depth c.args.items.now c.loop-item.item-index c.item-item.result c.loop-item-test.true c.item-item.is), tt)

pub print_more-returns-in-Err-clause-writes : goal.print_more-returns-in-Err-clause-writes
print_more-returns-in-Err-clause-writes t c =
    turn_lacks (λ vs. more (all_printed (vals_of vs))) (λ v. codes ", " ++ printed v) (λ v vs. refl) c.args.most c.args.items.now c.loop-item.item-index c.item-item.result
    (string_bytes c.loop-item.text) (string_bytes c.print_next.new.text) (string_bytes c.args.text.now) c.in-Err.lack c.loop-item-test.true c.item-item.is c.loop-item.invariant.same c.in-Err.ensures.writes

pub print_more_entries-print_next_entry-requires : goal.print_more_entries-print_next_entry-requires
print_more_entries-print_next_entry-requires t c = (omega (arith, row_depth c.args.entries.now c.loop-entry.entry-index c.entry-item.result c.loop-entry-test.true c.entry-item.is), tt)

pub print_more_entries-returns-in-Err-clause-writes : goal.print_more_entries-returns-in-Err-clause-writes
print_more_entries-returns-in-Err-clause-writes t c =
    turn_lacks (λ es. more (entries_printed (rows_of es))) (λ e. codes ", " ++ (rc_str_bytes e.0 ++ codes "=" ++ printed e.1)) (λ e es. refl) c.args.most c.args.entries.now c.loop-entry.entry-index
    c.entry-item.result (string_bytes c.loop-entry.text) (string_bytes c.print_next_entry.new.text) (string_bytes c.args.text.now) c.in-Err.lack c.loop-entry-test.true c.entry-item.is c.loop-entry.invariant.same c.in-Err.ensures.writes

pub print_more-returns-in-Err-clause-front : goal.print_more-returns-in-Err-clause-front
print_more-returns-in-Err-clause-front t c =
    turn_front (λ vs. more (all_printed (vals_of vs))) (λ v. codes ", " ++ printed v) (λ v vs. refl) c.args.items.now c.loop-item.item-index c.item-item.result
    (string_bytes c.loop-item.text) (string_bytes c.print_next.new.text) (string_bytes c.args.text.now) c.loop-item-test.true c.item-item.is c.loop-item.invariant.same c.loop-item.invariant.longer c.in-Err.ensures.front

pub print_more_entries-returns-in-Err-clause-front : goal.print_more_entries-returns-in-Err-clause-front
print_more_entries-returns-in-Err-clause-front t c =
    turn_front (λ es. more (entries_printed (rows_of es))) (λ e. codes ", " ++ (rc_str_bytes e.0 ++ codes "=" ++ printed e.1)) (λ e es. refl) c.args.entries.now c.loop-entry.entry-index c.entry-item.result
    (string_bytes c.loop-entry.text) (string_bytes c.print_next_entry.new.text) (string_bytes c.args.text.now) c.loop-entry-test.true c.entry-item.is c.loop-entry.invariant.same c.loop-entry.invariant.longer c.in-Err.ensures.front

pub print_list-returns-in_err-print_items-clause-front : goal.print_list-returns-in_err-print_items-clause-front
print_list-returns-in_err-print_items-clause-front t c =
    refused c.from_residual-in_err-print_items.result (front_within (string_bytes c.args.text.now) (string_bytes c.write.new.text) (string_bytes c.print_items.new.text) (codes "[") (joined (all_printed (vals_of c.args.items.now))) (codes "]") _ c.in_ok-write.ensures.writes.0 (search rules) c.in_err-print_items.ensures.front)

pub print_map-returns-in_err-print_entries-clause-front : goal.print_map-returns-in_err-print_entries-clause-front
print_map-returns-in_err-print_entries-clause-front t c =
    refused c.from_residual-in_err-print_entries.result (front_within (string_bytes c.args.text.now) (string_bytes c.write.new.text) (string_bytes c.print_entries.new.text) (codes "{") (joined (entries_printed (rows_of c.args.entries.now))) (codes "}") _ c.in_ok-write.ensures.writes.0 (search rules) c.in_err-print_entries.ensures.front)
