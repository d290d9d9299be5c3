-- The line that a session ends with.
use Rattle.std.specs.Prelude.{ℕ, List, ◌++◌, length, codes}
use Rattle.std.specs.Fmt.{decimal}
use Rattle.book_core.specs.Books.{counts_of}
use Rattle.book_core.specs.declared.counts.Counts.{Counts}
use Rattle.book_rules.specs.declared.events.Entry.{Entry}
use Rattle.keeper_core.specs.Lists.{Lists}

-- so many entries and calls, and calls that were admitted
unfoldable pub called_part : ℕ → Counts → List ℕ
called_part entries counts =
    codes "session entries=" ++ (decimal entries ++ (codes " calls=" ++ (decimal counts.calls ++ (codes " admitted=" ++ decimal counts.admitted))))

-- so many that were throttled and over their quota, and changes that were not kept
unfoldable pub refused_part : Counts → List ℕ
refused_part counts =
    codes " throttled=" ++ (decimal counts.throttled ++ (codes " quota=" ++ (decimal counts.quota ++ (codes " notkept=" ++ (decimal counts.not_kept ++ codes "\n")))))

abbrev pub counted_line : ℕ → Counts → List ℕ
counted_line entries counts = called_part entries counts ++ refused_part counts

-- the line of a history over these opening tables
abbrev pub session_line : Lists → List Entry → List ℕ
session_line opening history = counted_line (length history) (counts_of opening history)
