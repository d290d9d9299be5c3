-- What holds of the grammar and of reading.
use Rattle.std.specs.Prelude.{◌≡◌, ℕ, List, Ok}
use Rattle.vtl_grammar.specs.Tree.{Items}
use Rattle.vtl_grammar.specs.Grammar.{IsTemplate}
use Rattle.vtl_grammar.specs.Templates.{read_of}

-- what is read is a template of its tree
abbrev pub ReadsOnlyTemplates : Type 0
ReadsOnlyTemplates = (bs : List ℕ) (is : Items) → read_of bs ≡ Ok is → IsTemplate bs is

-- each template is read, with just its tree
abbrev pub ReadsEachTemplate : Type 0
ReadsEachTemplate = (bs : List ℕ) (is : Items) → IsTemplate bs is → read_of bs ≡ Ok is

-- a text is a template of one tree at most
abbrev pub HasOneTree : Type 0
HasOneTree = (bs : List ℕ) (first second : Items) → IsTemplate bs first → IsTemplate bs second → first ≡ second
