-- How far some bytes can still be told to begin a document. Faults are judged on the grammar without its rules on depth and repeated names.
use Rattle.std.specs.Prelude.{◌≡◌, ℕ, ◌+◌, ◌<◌, ◌≤◌, List, ◌++◌, length, take, Result, Ok, Err}
use Rattle.std.specs.Str.{IsUtf8}
use Rattle.std.specs.Str.Lossy.{utf8_valid_len}
use Rattle.json_subset.specs.declared.fault.JsonFault.{JsonFault}
use Rattle.json_subset.specs.declared.fault.JsonFault.TheVariants.{Syntax, Depth, Repeated, NotUtf8, Memory}
use Rattle.json_subset.specs.Tree.{Tree}
use Rattle.json_subset.specs.Grammar.{IsText}

-- a document begins with these bytes
pub record BeginsDocument (bs : List ℕ) : Type 0 where
  pub more : List ℕ
  pub tree : Tree
  pub utf8 : IsUtf8 (bs ++ more)
  pub text : IsText (bs ++ more) tree

-- the least place such that no document begins with the bytes up to and including it, or the length where the input ends too early
pub record IsSyntaxPlace (bs : List ℕ) (n : ℕ) : Type 0 where
  pub within : n ≤ length bs
  -- a document begins with the bytes before it
  pub alive : BeginsDocument (take n bs)
  -- and none with the next byte
  pub dead : n < length bs → BeginsDocument (take (n + 1) bs) → ⊥
  -- where that is the length, the bytes are no document yet
  pub unfinished : n ≡ length bs → (t : Tree) → IsText bs t → ⊥

-- where a fault stands: a limit is met where a document can still go on
abbrev pub IsPlaceOf : List ℕ → JsonFault → Type 0
IsPlaceOf bs (Syntax n) = IsUtf8 bs × IsSyntaxPlace bs n
IsPlaceOf bs (Depth n) = IsUtf8 bs × (n < length bs) × BeginsDocument (take (n + 1) bs)
IsPlaceOf bs (Repeated n) = IsUtf8 bs × (n < length bs) × BeginsDocument (take (n + 1) bs)
IsPlaceOf bs (NotUtf8 n) = (IsUtf8 bs → ⊥) × (n ≡ utf8_valid_len bs)
IsPlaceOf bs Memory = Unit {0}

-- what is answered for bytes with a syntax fault at n: that, or a limit that is met before it
abbrev pub IsAnswerFor : {A : Type 0} → ℕ → Result A JsonFault → Type 0
IsAnswerFor n (Ok x) = ⊥
IsAnswerFor n (Err (Syntax m)) = m ≡ n
IsAnswerFor n (Err (Depth m)) = m < n
IsAnswerFor n (Err (Repeated m)) = m < n
IsAnswerFor n (Err (NotUtf8 m)) = ⊥
IsAnswerFor n (Err Memory) = ⊥
