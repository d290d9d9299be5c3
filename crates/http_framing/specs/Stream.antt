-- Bytes that are held, and bytes that a source has left.
use Rattle.std.specs.Prelude.{◌≡◌, ℕ, ◌<◌, ◌≤◌, ◌⊎◌, ◌==◌, true, drop, List, ◌++◌, length, ⊤, Option, Some, None}
use Rattle.std.specs.List.{list_any}
use Rattle.std.specs.Io.KnownBytes.{Keeps, IsAtEnd}
use Rattle.http_framing.specs.declared.fill.Filled.{Filled}
use Rattle.http_framing.specs.declared.fill.Filled.TheVariants.{More, End, Fault, Memory}

-- a source gave some bytes: what it has left is the end of what it had
abbrev pub Takes : Option (List ℕ) → Option (List ℕ) → Type 0
Takes None now = ⊤
Takes (Some xs) None = ⊥
Takes (Some xs) (Some ys) = (taken : List ℕ) × (xs ≡ taken ++ ys)

-- what is held and what is left are the same bytes as before
abbrev pub SameBytes : List ℕ → Option (List ℕ) → List ℕ → Option (List ℕ) → Type 0
SameBytes old None new left = ⊤
SameBytes old (Some xs) new None = ⊥
SameBytes old (Some xs) new (Some ys) = new ++ ys ≡ old ++ xs

-- a word on all the bytes, on what is held now and on what is left now, where what is left is told
abbrev pub Over : {R : Type 0} → (List ℕ → List ℕ → List ℕ → R → Type 0) → List ℕ → Option (List ℕ) → List ℕ → Option (List ℕ) → R → Type 0
Over P old None new y result = ⊤
Over P old (Some xs) new None result = ⊥
Over P old (Some xs) new (Some ys) result = P (old ++ xs) new ys result

-- a read moved some bytes from what is left to what is held, or none at the end and at a fault
abbrev pub Fills : List ℕ → Option (List ℕ) → List ℕ → Option (List ℕ) → Filled → Type 0
Fills old x new y More = SameBytes old x new y × (length old < length new)
Fills old x new y End = (new ≡ old) × Keeps x y × IsAtEnd y
Fills old x new y Fault = (new ≡ old) × Keeps x y
Fills old x new y Memory = ⊤

-- reads moved some bytes, or perhaps none before the end or a fault
abbrev pub FillsOn : List ℕ → Option (List ℕ) → List ℕ → Option (List ℕ) → Filled → Type 0
FillsOn old x new y More = SameBytes old x new y × (length old < length new)
FillsOn old x new y End = SameBytes old x new y × (length old ≤ length new) × IsAtEnd y
FillsOn old x new y Fault = SameBytes old x new y × (length old ≤ length new)
FillsOn old x new y Memory = ⊤

-- whether more is read behind a read that told this
abbrev pub looks_left : Filled → ℕ
looks_left More = 1
looks_left f = 0

-- a line feed is among the bytes that came, or so many bytes are held
abbrev pub HasCome : ℕ → List ℕ → List ℕ → Type 0
HasCome limit old new = (limit ≤ length new) ⊎ (list_any (λ b. b == 10) (drop (length old) new) ≡ true)
