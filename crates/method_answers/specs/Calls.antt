-- A call behind its route.
use Rattle.std.specs.Prelude.{ℕ}
use Rattle.api_model.specs.Definition.{Definition}
use Rattle.call_facts.specs.declared.facts.CallFacts.{CallFacts}
use Rattle.call_facts.specs.declared.request.Request.{Request}
use Rattle.call_facts.specs.declared.target.Target.{Target}
use Rattle.resource_tree.specs.declared.found.Found.{Found}

-- the definition that it is under, the method that its route hits, what asks for it and where, what was found of its path, and what
-- is known of it
pub record Call : Type 0 where
  pub definition : Definition
  pub method : ℕ
  pub request : Request
  pub target : Target
  pub found : Found
  pub facts : CallFacts
