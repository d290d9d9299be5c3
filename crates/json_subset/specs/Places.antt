-- The end of a text.
use Rattle.std.specs.Prelude.{◌≡◌, ℕ, List, ◌++◌}
use Rattle.std.specs.Str.{IsUtf8}

-- what is left of a text behind a front of it, both of whole characters
pub record IsRest (bs rest : List ℕ) : Type 0 where
  pub front : List ℕ
  pub joined : bs ≡ front ++ rest
  pub utf8 : IsUtf8 rest
