-- What is printed of a load.
use Rattle.std.specs.Prelude.{ℕ, zero, suc, ◌+◌, ◌-◌, ◌==◌, Bool, false, List, [], ◌∷◌, ◌++◌, codes, count_by, Option, Some, None, if◌then◌else◌}
use Rattle.std.specs.Fmt.{decimal}
use Rattle.std.specs.List.{concat}
use Rattle.book_core.specs.Books.{counts_of}
use Rattle.book_core.specs.declared.counts.Counts.{Counts}
use Rattle.book_rules.specs.History.{tables_after}
use Rattle.book_rules.specs.declared.events.Entry.{Entry}
use Rattle.book_rules.specs.declared.events.Event.{Event}
use Rattle.book_rules.specs.declared.events.Event.TheVariants.{Enter, Recall, Learn, Admit, Admin, Leave}
use Rattle.keeper_core.specs.Lists.{Lists, join_row}
use Rattle.keeper_core.specs.declared.rows.JoinRow.{JoinRow}
use Rattle.stage_canary.specs.Canaries.{takes_canary}

-- the share of the calls that the canary takes, of ten thousand
abbrev pub load_share : ℕ
load_share = 2500

-- the event is a call whose word the canary takes
abbrev pub is_taken : Event → Bool
is_taken (Enter moment word api stage) = takes_canary load_share word
is_taken (Recall moment name) = false
is_taken (Learn moment name policy ttl) = false
is_taken (Admit moment api stage value) = false
is_taken (Admin moment command) = false
is_taken (Leave status cause) = false

unfoldable pub is_of_canary : Entry → Bool
is_of_canary entry = is_taken entry.event

-- so many calls were asked for, so many were admitted, throttled and over their quota, and so many the canary took
unfoldable pub counted_part : ℕ → Counts → List ℕ
counted_part calls counts = codes "calls=" ++ (decimal calls ++ (codes " admitted=" ++ (decimal counts.admitted ++ (codes " throttled=" ++ decimal counts.throttled))))

unfoldable pub refused_part : Counts → ℕ → List ℕ
refused_part counts taken = codes " quota=" ++ (decimal counts.quota ++ (codes " canary=" ++ (decimal taken ++ codes "\n")))

-- what a key used of its period, and what is left of it; none, where no call of it was ever admitted
unfoldable pub used_line : ℕ → JoinRow → List ℕ
used_line number row =
    codes "k" ++ (decimal number ++ (codes " used=" ++ (decimal row.used ++ (codes " remaining=" ++ (decimal (row.allowance - row.used) ++ codes "\n")))))

unfoldable pub none_line : ℕ → List ℕ
none_line number = codes "k" ++ (decimal number ++ codes " none\n")

abbrev pub row_line : ℕ → Option JoinRow → List ℕ
row_line number None = none_line number
row_line number (Some row) = if row.pkind == 0 then none_line number else used_line number row

abbrev pub key_name : ℕ → List ℕ
key_name number = codes "k" ++ decimal number

abbrev pub key_line : Lists → ℕ → List ℕ
key_line lists number = row_line number (join_row lists (codes "p") (key_name number))

-- the lines of so many keys, the first of which has this number
abbrev pub key_lines : Lists → ℕ → ℕ → List ℕ
key_lines lists number zero = []
key_lines lists number (suc more) = key_line lists number ++ key_lines lists (number + 1) more

-- the summary of a history over these opening tables, in which so many calls were asked for
abbrev pub summary_of : Lists → List Entry → ℕ → List ℕ
summary_of opening history calls =
    concat
    (counted_part calls (counts_of opening history) ∷ refused_part (counts_of opening history) (count_by is_of_canary history)
    ∷ key_lines (tables_after opening history) 0 8 ∷ [])
