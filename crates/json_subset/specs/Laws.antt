-- What holds of the definitions, whatever the program does.
use Rattle.std.specs.Prelude.{◌≡◌, ℕ, List, Ok, Err}
use Rattle.std.specs.Str.{IsUtf8}
use Rattle.json_subset.specs.Tree.{Tree}
use Rattle.json_subset.specs.Bare.{IsSameBare}
use Rattle.json_subset.specs.Compact.{compacted}
use Rattle.json_subset.specs.Documents.{span, IsWithin}
use Rattle.json_subset.specs.Grammar.{Spells, IsText}
use Rattle.json_subset.specs.Prefixes.{IsSyntaxPlace, IsAnswerFor}
use Rattle.json_subset.specs.declared.fault.JsonFault.TheVariants.{Syntax}
use Rattle.json_subset.specs.Reading.{json}

-- bytes spell at most one tree
abbrev pub OneTree : Type 0
OneTree = (bs : List ℕ) (t u : Tree) → Spells bs t → Spells bs u → t ≡ u

-- what is read is spelled
abbrev pub ReadIsSpelled : Type 0
ReadIsSpelled = (bs : List ℕ) (t : Tree) → json bs ≡ Ok t → Spells bs t

-- what is spelled is read
abbrev pub SpelledIsRead : Type 0
SpelledIsRead = (bs : List ℕ) (t : Tree) → Spells bs t → json bs ≡ Ok t

-- what is of the grammar, whatever its depth and its names, is never a syntax fault
abbrev pub TextIsNoSyntaxFault : Type 0
TextIsNoSyntaxFault = (bs : List ℕ) (t : Tree) (n : ℕ) → IsText bs t → json bs ≡ Err (Syntax n) → ⊥

-- the compact text spells the same tree but for places
abbrev pub CompactSpellsTheSame : Type 0
CompactSpellsTheSame = (bs : List ℕ) (t : Tree) → Spells bs t → (u : Tree) × Spells (compacted bs) u × IsSameBare t u

-- a syntax fault is at the least place such that no document begins with the bytes up to it
abbrev pub SyntaxIsLeast : Type 0
SyntaxIsLeast = (bs : List ℕ) (n : ℕ) → json bs ≡ Err (Syntax n) → IsSyntaxPlace bs n

-- bytes have at most one such place
abbrev pub OneSyntaxPlace : Type 0
OneSyntaxPlace = (bs : List ℕ) (m n : ℕ) → IsSyntaxPlace bs m → IsSyntaxPlace bs n → m ≡ n

-- where there is such a place, it is answered, or a limit that is met before it
abbrev pub SyntaxIsAnswered : Type 0
SyntaxIsAnswered = (bs : List ℕ) (n : ℕ) → IsUtf8 bs → IsSyntaxPlace bs n → IsAnswerFor n (json bs)

-- the bytes of a part spell that part but for places
abbrev pub PartSpellsItself : Type 0
PartSpellsItself = (bs : List ℕ) (t u : Tree) → Spells bs t → IsWithin u t → (w : Tree) × Spells (span bs u) w × IsSameBare u w
