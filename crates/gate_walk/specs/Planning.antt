-- What a message comes to: an answer with its cause, an exchange with a backend, what its admission leads to, or what an authorizer
-- lets it come to.
use Rattle.std.specs.Prelude.{Bool, true, false, [], Some, None}
use Rattle.book_rules.specs.declared.replies.Reply.{Reply}
use Rattle.book_rules.specs.declared.replies.Reply.TheVariants.{Entered}
use Rattle.book_rules.specs.declared.replies.View.{View}
use Rattle.call_facts.specs.declared.facts.CallFacts.{CallFacts}
use Rattle.call_facts.specs.Kinds.{kind_message}
use Rattle.call_facts.specs.declared.kind.Kind.TheVariants.{RequestTooLarge, UnknownStage}
use Rattle.call_facts.specs.declared.request.Request.{Request}
use Rattle.call_facts.specs.declared.target.Target.{Target}
use Rattle.gateway_answers.specs.Answers.{failed_made}
use Rattle.method_answers.specs.Plans.{Course, answered, free, goes, planned}
use Rattle.method_flow.specs.Answers.{gateway_made, text_over, text_made}
use Rattle.method_flow.specs.declared.answers.Made.{Made}
use Rattle.vtl_grammar.specs.Templates.{tree_of}

-- what is known of a call to a stage that has this view
abbrev pub facts_of : Target → View → CallFacts
facts_of target view = record {
  api = target.api;
  stage = target.stage;
  place = view.place;
  at = view.at;
  deployment = view.deployment;
  canary = view.canary;
  variables = view.variables;
  resource = [];
  key = None;
  policy = None;
  error = None;
}

-- under a stage that has this view: a text API answers with its template, and an API that is a document by its methods
abbrev pub planned_at : Bool → View → Request → Target → Course
planned_at true view r target = free (goes (answered (text_made (text_over r target (facts_of target view) (tree_of view.api.source)))))
planned_at false view r target = planned view.api r target (facts_of target view)

-- a whole message whose Enter was replied so
abbrev pub planned_by : Reply → Request → Target → Course
planned_by (Entered view) r target = planned_at view.api.is_text view r target
planned_by reply r target = free (goes (answered (gateway_made UnknownStage)))

-- to a message whose body is too large: where its stage stands, by the rules of that stage's API
abbrev pub too_large_made : Reply → Target → Made
too_large_made (Entered view) target = failed_made RequestTooLarge (kind_message RequestTooLarge) (Some view.api) (facts_of target view)
too_large_made reply target = gateway_made RequestTooLarge

-- the size of a body is tested before its stage
abbrev pub planned_for : Bool → Reply → Request → Target → Course
planned_for true reply r target = free (goes (answered (too_large_made reply target)))
planned_for false reply r target = planned_by reply r target
