-- What a template of the command `render` sees.
use Rattle.std.specs.Prelude.{ℕ, false, List, [], codes, None}
use Rattle.call_facts.specs.declared.facts.CallFacts.{CallFacts}
use Rattle.call_facts.specs.declared.vars.Vars.{Vars}
use Rattle.call_facts.specs.declared.request.Request.{Request}

abbrev pub no_variables : Vars
no_variables = record { pairs = [] }

-- the request of the command `render`
unfoldable pub render_request : List ℕ → Request
render_request body = record { method = codes "POST"; target = codes "/render/render"; http10 = false; headers = []; body = body }

-- and what is known of its call: the first deployment, at place 0 and moment 0, without variables
unfoldable pub render_facts : CallFacts
render_facts = record {
  api = codes "render";
  stage = codes "render";
  place = 0;
  at = 0;
  deployment = 1;
  canary = false;
  variables = no_variables;
  resource = [];
  key = None;
  policy = None;
  error = None;
}
