-- What holds of bodies.
use Rattle.std.specs.Prelude.{◌≡◌, ℕ, List, OnOk, Result}
use Rattle.http_framing.specs.Bodies.{IsKnown, IsChunked}
use Rattle.http_framing.specs.declared.body.Body.{Body}
use Rattle.http_framing.specs.declared.fault.EdgeFault.{EdgeFault}

-- what a body of this kind comes to in these bytes is one thing, and what is left behind it is one
abbrev pub OneBody : (List ℕ → Result Body EdgeFault → List ℕ → Type 0) → Type 0
OneBody Is = (bytes : List ℕ) (a b : Result Body EdgeFault) (x y : List ℕ) → Is bytes a x → Is bytes b y → (a ≡ b) × OnOk a (x ≡ y)

abbrev pub OneKnownBody : Type 0
OneKnownBody = (n : ℕ) → OneBody (IsKnown n)

abbrev pub OneChunkedBody : Type 0
OneChunkedBody = OneBody IsChunked
