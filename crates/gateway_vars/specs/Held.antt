-- What the roots of a template are made from, and what they mean.
use Rattle.std.specs.Prelude.{ℕ, List}
use Rattle.resource_tree.specs.declared.found.Found.{Found}
use Rattle.vtl_eval.specs.Roots.{Stepped}
use Rattle.vtl_eval.specs.declared.roots.Root.{Root}
use Rattle.vtl_eval.specs.declared.roots.Root.TheVariants as roots
use Rattle.vtl_values.specs.Val.{Val, null}
use Rattle.gateway_vars.specs.Facts.{call, failure, context_value, variable_value}
use Rattle.gateway_vars.specs.Input.{Params, input_value}
use Rattle.gateway_vars.specs.Util.{util_value}
use Rattle.call_facts.specs.declared.request.Request.{Request}
use Rattle.call_facts.specs.declared.request.WireReply.{WireReply}
use Rattle.call_facts.specs.declared.target.Target.{Target}
use Rattle.call_facts.specs.declared.facts.CallFacts.{CallFacts}
use Rattle.call_facts.specs.declared.kind.Kind.{Kind}

-- the body that $input speaks of, the request with its target and its parameters, and the facts of the call
pub record Held : Type 0 where
  pub body : List ℕ
  pub params : Params
  pub request : Request
  pub target : Target
  pub facts : CallFacts

abbrev pub params_of : Request → Target → Found → Params
params_of request target found = record { path = found.params; query = target.query; header = request.headers }

-- in the template of a request the body is the request's,
abbrev pub asked : Request → Target → Found → CallFacts → Held
asked request target found facts = record { body = request.body; params = params_of request target found; request = request; target = target; facts = facts }

-- and in that of a response the reply's; the parameters are the request's there too
abbrev pub replied : Request → Target → Found → CallFacts → WireReply → Held
replied request target found facts reply = record { body = reply.body; params = params_of request target found; request = request; target = target; facts = facts }

-- the value of each path below a root
abbrev pub root : Held → Root → List Stepped → Val
root held roots.Input path = input_value held.body held.params path
root held roots.Context path = context_value (call held.request held.target) held.facts path
root held roots.Util path = util_value path
root held roots.StageVariables path = variable_value held.facts path

-- what a gateway response tells: its kind and message, and the facts of the call
pub record Failed : Type 0 where
  pub kind : Kind
  pub message : List ℕ
  pub facts : CallFacts

-- no request is seen there: nothing is below $input
abbrev pub failure_root : Failed → Root → List Stepped → Val
failure_root failed roots.Input path = null
failure_root failed roots.Context path = context_value (failure failed.kind failed.message) failed.facts path
failure_root failed roots.Util path = util_value path
failure_root failed roots.StageVariables path = variable_value failed.facts path
