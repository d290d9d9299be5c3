use Rattle.std.proofs.Common.{◌≡◌, ◌+◌, ◌*◌, ◌≤◌, ◌++◌, length, drop}
use Rattle.std.specs.String.{string_bytes}
use Rattle.vtl_values.specs.Val.{depth, vals_of, vals_depth, entries_depth}
use Rattle.vtl_values.specs.Vals.{rows_of}
use Rattle.vtl_values.specs.Printed.{more, all_printed, entries_printed}
use Rattle.vtl_values.proofs.printing.+print.Given as goal

abbrev pub decreases-print : goal.decreases-print
decreases-print l = 6 * depth l.value.now

abbrev pub decreases-print_list : goal.decreases-print_list
decreases-print_list l = 6 * vals_depth (vals_of l.items.now) + 5

abbrev pub decreases-print_items : goal.decreases-print_items
decreases-print_items l = 6 * vals_depth (vals_of l.items.now) + 4

abbrev pub decreases-print_more : goal.decreases-print_more
decreases-print_more l = 6 * vals_depth (vals_of l.items.now) + 3

abbrev pub decreases-print_map : goal.decreases-print_map
decreases-print_map l = 6 * entries_depth (rows_of l.entries.now) + 5

abbrev pub decreases-print_entries : goal.decreases-print_entries
decreases-print_entries l = 6 * entries_depth (rows_of l.entries.now) + 4

abbrev pub decreases-print_more_entries : goal.decreases-print_more_entries
decreases-print_more_entries l = 6 * entries_depth (rows_of l.entries.now) + 3

abbrev pub decreases-print_entry : goal.decreases-print_entry
decreases-print_entry l = 6 * depth l.entry.now.1 + 1

abbrev pub decreases-print_next_entry : goal.decreases-print_next_entry
decreases-print_next_entry l = 6 * depth l.entry.now.1 + 2

abbrev pub decreases-print_next : goal.decreases-print_next
decreases-print_next l = 6 * depth l.item.now + 1

abbrev pub invariant-print_more-loop-item : goal.invariant-print_more-loop-item
invariant-print_more-loop-item l = record {
  same : string_bytes l.text ++ more (all_printed (vals_of (drop l.item-index l.items))) ≡ string_bytes l.fn.text ++ more (all_printed (vals_of l.items));
  fits : length (string_bytes l.text) ≤ l.most;
  longer : length (string_bytes l.fn.text) ≤ length (string_bytes l.text);
}

abbrev pub invariant-print_more_entries-loop-entry : goal.invariant-print_more_entries-loop-entry
invariant-print_more_entries-loop-entry l = record {
  same : string_bytes l.text ++ more (entries_printed (rows_of (drop l.entry-index l.entries))) ≡ string_bytes l.fn.text ++ more (entries_printed (rows_of l.entries));
  fits : length (string_bytes l.text) ≤ l.most;
  longer : length (string_bytes l.fn.text) ≤ length (string_bytes l.text);
}
