-- What the program's parts stand for.
use Rattle.std.specs.Prelude.{◌≡◌, [], ◌∷◌, Result, Ok, Err}
use Rattle.std.specs.Char.{encode_utf8}
use Rattle.json_subset.specs.declared.fault.JsonFault.{JsonFault}
use Rattle.json_subset.specs.declared.fault.JsonFault.TheVariants.{Syntax, Depth, Repeated, NotUtf8, Memory}
use Rattle.json_subset.specs.declared.scan.Next.{Next}
use Rattle.json_subset.specs.declared.scan.Next.TheVariants as next
use Rattle.json_subset.specs.declared.strings.Step.{Step}
use Rattle.json_subset.specs.declared.strings.Step.TheVariants as steps
use Rattle.json_subset.specs.declared.number.Number.{Number}
use Rattle.json_subset.specs.declared.number.Number.TheVariants as numbers
use Rattle.json_subset.specs.Scan as scan
use Rattle.json_subset.specs.Strings as strings
use Rattle.json_subset.specs.Tree as tree

abbrev pub number_view : Number → tree.Number
number_view (numbers.Whole z) = tree.whole z
number_view numbers.Decimal = tree.decimal
number_view numbers.Wide = tree.wide

abbrev pub next_of : Next → scan.Next
next_of (next.Done rest) = scan.done rest.now
next_of (next.More rest) = scan.more rest.now

abbrev pub step_of : Step → strings.Step
step_of (steps.Closed rest) = strings.closed rest.now
step_of (steps.Byte b rest) = strings.adds (b ∷ []) rest.now
step_of (steps.Char c rest) = strings.adds (encode_utf8 c) rest.now

-- Reading met this fault, or memory ran out.
abbrev pub Fails : {Y : Type 0} → JsonFault → Result Y JsonFault → Type 0
Fails Memory read = Unit {0}
Fails (Syntax n) read = read ≡ Err (Syntax n)
Fails (Depth n) read = read ≡ Err (Depth n)
Fails (Repeated n) read = read ≡ Err (Repeated n)
Fails (NotUtf8 n) read = read ≡ Err (NotUtf8 n)

-- What a function returned, seen by view, is what reading gives, unless memory ran out.
abbrev pub Gives : {X Y : Type 0} → (X → Y) → Result X JsonFault → Result Y JsonFault → Type 0
Gives view (Ok x) read = read ≡ Ok (view x)
Gives view (Err e) read = Fails e read
