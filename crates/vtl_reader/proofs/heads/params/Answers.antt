use Rattle.std.proofs.Common.{◌∙◌, ap, arith, Ok, [], List, ℕ}
use Rattle.vtl_grammar.specs.Directives.{param_turn, with_name}
use Rattle.std.specs.Prelude.{option_copied}
use Rattle.vtl_reader.specs.Views.{turn_of}
use Rattle.vtl_reader.proofs.Gathering as loops
use Rattle.vtl_reader.proofs.heads.params.Goals as goal

pub returns-in-Err : goal.returns-in-Err
returns-in-Err c = loops.at_error with_name (param_turn c.args.at) c.loop-fuel.fuel c.loop-fuel.rest.now c.loop-fuel.names _ c.loop-fuel.invariant c.in-Err.e c.loop-fuel-test.true c.in-Err.ensures

pub returns-in-None : goal.returns-in-None
returns-in-None c =
    loops.at_last with_name (param_turn c.args.at) c.loop-fuel.fuel c.loop-fuel.rest.now c.loop-fuel.names _ c.loop-fuel.invariant ([], c.in-Ok.p.1.now) c.loop-fuel-test.true (c.in-Ok.ensures ∙ ap (λ o. Ok (turn_of {A = List ℕ} [] (option_copied o) c.in-Ok.p.1.now)) c.in-None.is)
    ∙ ap (λ z. Ok (z, c.in-Ok.p.1.now)) (loops.names_folded c.loop-fuel.names)

pub loop-fuel-preserved : goal.loop-fuel-preserved
loop-fuel-preserved c =
    rw c.in_ok-push-in-Some.ensures
    (loops.at_more with_name (param_turn c.args.at) c.loop-fuel.fuel c.loop-fuel.rest.now c.loop-fuel.names _ c.loop-fuel.invariant c.in-Some.name.now c.in-Ok.p.1.now c.loop-fuel-test.true (c.in-Ok.ensures ∙ ap (λ o. Ok (turn_of {A = List ℕ} [] (option_copied o) c.in-Ok.p.1.now)) c.in-Some.is))

pub returns : goal.returns
returns c = loops.at_none with_name (param_turn c.args.at) c.loop-fuel.fuel c.loop-fuel.rest.now c.loop-fuel.names _ c.loop-fuel.invariant (omega (arith, c.loop-fuel-test.false))
