-- The law on lines of commands.
use Rattle.std.specs.Prelude.{◌≡◌, ℕ, List}
use Rattle.book_rules.specs.History.{Base}
use Rattle.book_rules.specs.declared.events.Entry.{Entry}
use Rattle.admin_command.specs.Administering.{Administers, Came, lost_in}

-- Over the same tables the lines come to one thing, where the same changes are lost.
abbrev pub LinesComeToOneThing : Type 0
LinesComeToOneThing =
    (base : Base) (number : ℕ) (history : List Entry) (lines : List (List ℕ)) (first second : Came)
    → Administers base number history lines first → Administers base number history lines second
    → lost_in first.history ≡ lost_in second.history → first ≡ second
