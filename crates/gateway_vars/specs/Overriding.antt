-- What the writes of a template come to.
use Rattle.std.specs.Prelude.{◌≡◌, ℕ, List, [], ◌∷◌, fold, Option, Some, None, if◌then◌else◌}
use Rattle.std.specs.Str.{bytes_eq}
use Rattle.vtl_eval.specs.Roots.{Kept, kept_after}
use Rattle.vtl_values.specs.Printed.{printed}
use Rattle.vtl_values.specs.Val.{Val}
use Rattle.call_facts.specs.Pairs.{Pairs}
use Rattle.gateway_vars.specs.Writing.{slot_of, kept_slot, kept_at}
use Rattle.gateway_vars.specs.declared.changes.Overrides.{Overrides}
use Rattle.gateway_vars.specs.declared.slots.Part.{Part}
use Rattle.gateway_vars.specs.declared.slots.Part.TheVariants as parts
use Rattle.gateway_vars.specs.declared.slots.Side.{Side}

-- a value for a name: in the place of its first, or at the end
abbrev pub put_pair : Pairs → List ℕ → List ℕ → Pairs
put_pair [] x t = (x, t) ∷ []
put_pair (p ∷ ps) x t = if bytes_eq p.0 x then (x, t) ∷ ps else p ∷ put_pair ps x t

abbrev pub nothing : Overrides
nothing = record { headers = []; query = []; path = []; status = None }

-- a text for a part and a name
abbrev pub changed : Overrides → Part → List ℕ → List ℕ → Overrides
changed o parts.Header x t = record o { headers = put_pair o.headers x t }
changed o parts.Query x t = record o { query = put_pair o.query x t }
changed o parts.Path x t = record o { path = put_pair o.path x t }
changed o parts.Status x t = record o { status = Some t }

abbrev pub changed_by : Overrides → Option (Part × List ℕ) → List ℕ → Overrides
changed_by o None t = o
changed_by o (Some slot) t = changed o slot.0 slot.1 t

abbrev pub after_write : Side → Overrides → List (List ℕ) × Val → Overrides
after_write side o w = changed_by o (slot_of side w.0) (printed w.1)

-- the values that were written, printed, by their parts and names
abbrev pub overridden : Side → Kept → Overrides
overridden side kept = fold (after_write side) nothing kept

-- a write to a path, where it may be written
abbrev pub wrote : Side → Kept → List (List ℕ) × Val → Kept
wrote side kept w = kept_after (kept_at side w.0) kept w.1

-- a write to a path, at once in the values that are written over
abbrev pub put_over : Side → Overrides → List (List ℕ) × Val → Overrides
put_over side o w = changed_by o (kept_slot side w.0) (printed w.1)

-- What is written over is what the writes put there, one after another: of each name the last value, in the place of the
-- first, names of header fields without regard to case.
abbrev pub LastWritesCount : Type 0
LastWritesCount = (side : Side) (writes : List (List (List ℕ) × Val)) → overridden side (fold (wrote side) [] writes) ≡ fold (put_over side) nothing writes
