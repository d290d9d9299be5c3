-- The program's parameters, as pairs.
use Rattle.gateway_vars.specs.Input.{Params}
use Rattle.gateway_vars.specs.declared.input.Params.{Params as CodeParams}

abbrev pub params_of : CodeParams → Params
params_of p = record { path = p.path.now; query = p.query.now; header = p.header.now }
