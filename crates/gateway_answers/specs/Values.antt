-- The values of the sources that a rule's headers have.
use Rattle.std.specs.Prelude.{ℕ, ◌==◌, List, [], ◌∷◌, map, Option, Some, None, if◌then◌else◌}
use Rattle.std.specs.List.{slice_split}
use Rattle.api_parts.specs.declared.parts.Origin.{Origin}
use Rattle.api_parts.specs.declared.parts.Origin.TheVariants as origins
use Rattle.gateway_vars.specs.Held.{Failed, failure_root}
use Rattle.vtl_eval.specs.Roots.{Stepped, name}
use Rattle.vtl_eval.specs.declared.roots.Root.TheVariants as roots
use Rattle.vtl_values.specs.Printed.{printed}
use Rattle.vtl_values.specs.Truth.{is_null}
use Rattle.vtl_values.specs.Val.{Val}

-- the names of a dotted one, as the steps of a path
abbrev pub dotted : List ℕ → List Stepped
dotted x = map name (slice_split (λ b. b == 46) x)

-- null is no value, and any other is the text that it prints as
abbrev pub text_unless_null : Val → Option (List ℕ)
text_unless_null v = if is_null v then None else Some (printed v)

-- what a source is worth in a gateway response: `context.X` and `stageVariables.N` have the values that a template would see.
-- No request and no reply is seen, so that the sources that name these have none
abbrev pub value_of : Failed → Origin → Option (List ℕ)
value_of failed (origins.Static t) = Some t
value_of failed (origins.Context x) = text_unless_null (failure_root failed roots.Context (dotted x))
value_of failed (origins.StageVariable x) = text_unless_null (failure_root failed roots.StageVariables (name x ∷ []))
value_of failed (origins.Parameter place x) = None
value_of failed (origins.Body path) = None
value_of failed (origins.ReplyHeader x) = None
