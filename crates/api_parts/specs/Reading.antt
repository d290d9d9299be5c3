-- How the parts of a document are read: what each is, or its first fault, whose place is told from the value that is read.
use Rattle.std.specs.Prelude.{◌≡◌, ◌⊎◌, ℕ, List, [], ◌∷◌, Option, Some, None, Result, Ok, Err, MatchResult}
use Rattle.api_parts.specs.Places.{fault_below}
use Rattle.api_parts.specs.declared.fault.ApiFault.{ApiFault}
use Rattle.api_parts.specs.declared.fault.ApiCause.{ApiCause}
use Rattle.api_parts.specs.declared.fault.ApiCause.TheVariants.{BadMember, Memory, Missing, Unknown}

abbrev pub Text : Type 0
Text = List ℕ

-- what is read: a value, or the first fault
abbrev pub Read : Type 0 → Type 0
Read A = Result A ApiFault

-- a fault at the value that is read
abbrev pub here : ApiCause → ApiFault
here cause = record { place = []; cause = cause }

-- what follows a value that was read
infixl 10 ◌>>=◌
abbrev pub ◌>>=◌ : {A B : Type 0} → Read A → (A → Read B) → Read B
(Ok x) >>= f = f x
(Err e) >>= f = Err e

-- what was read of a member's value, as the object sees it: a fault stands below the member's name
abbrev pub under : {A : Type 0} → Text → Read A → Read A
under name (Ok x) = Ok x
under name (Err e) = Err (fault_below name e)

-- The members of an object, one after another: each adds to what was gathered before it, and the first fault is told.
abbrev pub each : {G V : Type 0} → (G → Text → V → Read G) → G → List (Text × V) → Read G
each add gathered [] = Ok gathered
each add gathered (m ∷ ms) = under m.0 (add gathered m.0 m.1) >>= λ more. each add more ms

-- the object has no member of this name
abbrev pub unknown : {A : Type 0} → Text → Read A
unknown name = Err (here (Unknown name))

-- the value of the member of this name is none
abbrev pub bad : {A : Type 0} → Text → Read A
bad name = Err (here (BadMember name))

-- a member that must stand; what is missing is told when all others are read
abbrev pub needed : {A : Type 0} → Text → Option A → Read A
needed name None = Err (here (Missing name))
needed name (Some x) = Ok x

-- A fault that waits: it is told only where all members are of their form. Of two, the first that is met counts.
abbrev pub Waiting : Type 0
Waiting = Option ApiFault

abbrev pub first_of : Waiting → Waiting → Waiting
first_of None later = later
first_of (Some e) later = Some e

abbrev pub waiting_below : Text → Waiting → Waiting
waiting_below name None = None
waiting_below name (Some e) = Some (fault_below name e)

-- What a call returned is what is read, or just its fault, unless memory ran out.
abbrev pub Reads : {A : Type 0} → Read A → Result A ApiFault → Type 0
Reads stated result = MatchResult result (λ x. stated ≡ Ok x) (λ e. (e.cause ≡ Memory) ⊎ (stated ≡ Err e))

-- the same of a value that stands for another
abbrev pub ReadsAs : {A B : Type 0} → (B → A) → Read A → Result B ApiFault → Type 0
ReadsAs view stated result = MatchResult result (λ x. stated ≡ Ok (view x)) (λ e. (e.cause ≡ Memory) ⊎ (stated ≡ Err e))
