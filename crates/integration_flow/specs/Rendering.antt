-- What the template of a message comes to.
use Rattle.std.specs.Prelude.{ℕ, List, [], Result, Ok, Err}
use Rattle.gateway_vars.specs.Held.{Held}
use Rattle.gateway_vars.specs.Meanings.{meanings_of}
use Rattle.gateway_vars.specs.Overriding.{overridden}
use Rattle.gateway_vars.specs.declared.slots.Side.{Side}
use Rattle.integration_flow.specs.Stopping.{Flow}
use Rattle.integration_flow.specs.declared.written.Written.{Written}
use Rattle.integration_flow.specs.declared.stops.FlowStop.TheVariants.{Config}
use Rattle.method_flow.specs.Answers.{budget}
use Rattle.vtl_eval.specs.Meaning.{rendering}
use Rattle.vtl_eval.specs.Roots.{Kept}
use Rattle.vtl_eval.specs.declared.stop.Rendered.{Rendered}
use Rattle.vtl_eval.specs.declared.stop.Stop.{Stop}
use Rattle.vtl_grammar.specs.Expanded.{expanded}
use Rattle.vtl_grammar.specs.Templates.{tree_of}

-- what a render comes to: its text, and what it wrote over; where it stops, the API is configured badly
abbrev pub written_by : Side → Result (Rendered × Kept) (Stop × Kept) → Flow Written
written_by side (Ok made) = Ok (record { body = made.0.text; overrides = overridden side made.1 })
written_by side (Err met) = Err Config

-- the run of a template over what the roots of its side are made from
unfoldable pub run : Side → Held → List ℕ → Result (Rendered × Kept) (Stop × Kept)
run side held template = rendering budget (meanings_of side held) (expanded (tree_of template)) []

abbrev pub rendered : Side → Held → List ℕ → Flow Written
rendered side held template = written_by side (run side held template)
