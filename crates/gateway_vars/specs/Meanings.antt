-- The program's roots, and what they mean.
use Rattle.std.specs.Prelude.{None}
use Rattle.vtl_eval.specs.Roots.{Meanings, Kept}
use Rattle.gateway_vars.specs.Held.{Held, root, Failed, failure_root}
use Rattle.gateway_vars.specs.Rows.{kept_of}
use Rattle.gateway_vars.specs.Writing.{kept_at}
use Rattle.gateway_vars.specs.declared.roots.RequestRoots.{RequestRoots}
use Rattle.gateway_vars.specs.declared.roots.ResponseRoots.{ResponseRoots}
use Rattle.gateway_vars.specs.declared.slots.Side.{Side}

-- the value of each path below a root, and under which path a write is kept
abbrev pub meanings_of : Side → Held → Meanings
meanings_of side held = record { value = root held; kept_at = kept_at side }

-- what a request's roots are made from, and what was written
abbrev pub request_held : RequestRoots → Held
request_held r = r.sources

abbrev pub request_kept : RequestRoots → Kept
request_kept r = kept_of r.rows.items

-- and a response's
abbrev pub response_held : ResponseRoots → Held
response_held r = r.sources

abbrev pub response_kept : ResponseRoots → Kept
response_kept r = kept_of r.rows.items

-- in a gateway response no path may be written
abbrev pub failure_meanings : Failed → Meanings
failure_meanings failed = record { value = failure_root failed; kept_at = λ path. None }
