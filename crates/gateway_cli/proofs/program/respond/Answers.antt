use Rattle.std.proofs.Common.{◌≡◌, true, false, [], rules}
use Rattle.gateway_cli.specs.Commands.{is_play, help, usage, version}
use Rattle.gateway_cli.proofs.Inputs.{of_any, of_each, if_ok_map, on_err_map}
use Rattle.gateway_cli.proofs.ByCommand.{is_fixed, front_is, of_play, of_play_front, of_other, of_other_front, of_text, of_text_front, of_load, of_load_front, of_unloaded}
use Rattle.gateway_cli.proofs.program.respond.Goals as goal

pub returns-in-Some-Play-clause-answered : goal.returns-in-Some-Play-clause-answered
returns-in-Some-Play-clause-answered g c =
    let same : is_play c.args.command.now ≡ true = search rules in
    if_ok_map c.play.result _ _ (λ status. of_play (g.I.Source.left c.args.input.now) (g.O.Outside.files c.args.outside.now) c.args.command.now _ _ status same) c.play.ensures.answered

pub returns-in-Some-Play-clause-front : goal.returns-in-Some-Play-clause-front
returns-in-Some-Play-clause-front g c =
    let same : is_play c.args.command.now ≡ true = search rules in
    on_err_map c.play.result _ _ (of_play_front (g.I.Source.left c.args.input.now) (g.O.Outside.files c.args.outside.now) c.args.command.now _ _ same) c.play.ensures.front

pub returns-in-Some-Play-clause-keeper : goal.returns-in-Some-Play-clause-keeper
returns-in-Some-Play-clause-keeper g c =
    let same : is_play c.args.command.now ≡ true = search rules in
    λ e. of_each (g.I.Source.left c.args.input.now) _ _
    (λ script h. of_any [] (g.O.Outside.files c.args.outside.now) _
    (λ files. ((same, h.0), (h.1.0, front_is c.args.command.now script files h.1.0 same h.1.1, h.1.2))))
    (c.play.ensures.keeper e)

pub returns-in-Some-Play-clause-loaded : goal.returns-in-Some-Play-clause-loaded
returns-in-Some-Play-clause-loaded g c =
    let same : is_play c.args.command.now ≡ true = search rules in
    λ e. of_each (g.I.Source.left c.args.input.now) _ _
    (λ script h. of_any [] (g.O.Outside.files c.args.outside.now) _
    (λ files. ((λ told. h.0 told.1), (h.1.0, front_is c.args.command.now script files h.1.0 same h.1.1, h.1.2))))
    (c.play.ensures.loaded e)

pub returns-in-Some-Render-clause-answered : goal.returns-in-Some-Render-clause-answered
returns-in-Some-Render-clause-answered g c = of_other (g.I.Source.left c.args.input.now) (g.O.Outside.files c.args.outside.now) c.args.command.now _ _ c.render.result c.render.ensures.answered (λ files. search rules) (search rules)

pub returns-in-Some-Render-clause-front : goal.returns-in-Some-Render-clause-front
returns-in-Some-Render-clause-front g c = of_other_front (g.I.Source.left c.args.input.now) (g.O.Outside.files c.args.outside.now) c.args.command.now _ _ c.render.result c.render.ensures.front (λ files. search rules) (search rules)

pub returns-in-Some-Render-clause-loaded : goal.returns-in-Some-Render-clause-loaded
returns-in-Some-Render-clause-loaded g c =
    let other : is_play c.args.command.now ≡ false = search rules in
    let fixed : is_fixed c.args.command.now ≡ true = search rules in
    λ e. of_unloaded (g.I.Source.left c.args.input.now) (g.O.Outside.files c.args.outside.now) c.args.command.now _ _ c.render.result _ e (of_other_front (g.I.Source.left c.args.input.now) (g.O.Outside.files c.args.outside.now) c.args.command.now _ _ c.render.result c.render.ensures.front (λ files. search rules) fixed) other

pub returns-in-Some-Check-clause-answered : goal.returns-in-Some-Check-clause-answered
returns-in-Some-Check-clause-answered g c = of_other (g.I.Source.left c.args.input.now) (g.O.Outside.files c.args.outside.now) c.args.command.now _ _ c.check.result c.check.ensures.answered (λ files. search rules) (search rules)

pub returns-in-Some-Check-clause-front : goal.returns-in-Some-Check-clause-front
returns-in-Some-Check-clause-front g c = of_other_front (g.I.Source.left c.args.input.now) (g.O.Outside.files c.args.outside.now) c.args.command.now _ _ c.check.result c.check.ensures.front (λ files. search rules) (search rules)

pub returns-in-Some-Check-clause-loaded : goal.returns-in-Some-Check-clause-loaded
returns-in-Some-Check-clause-loaded g c =
    let other : is_play c.args.command.now ≡ false = search rules in
    let fixed : is_fixed c.args.command.now ≡ true = search rules in
    λ e. of_unloaded (g.I.Source.left c.args.input.now) (g.O.Outside.files c.args.outside.now) c.args.command.now _ _ c.check.result _ e (of_other_front (g.I.Source.left c.args.input.now) (g.O.Outside.files c.args.outside.now) c.args.command.now _ _ c.check.result c.check.ensures.front (λ files. search rules) fixed) other

pub returns-in_default-clause-answered : goal.returns-in_default-clause-answered
returns-in_default-clause-answered g c = of_text (g.I.Source.left c.args.input.now) (g.O.Outside.files c.args.outside.now) c.args.command.now _ _ c.say_usage.result usage c.say_usage.ensures.answered (λ files. search rules) (search rules)

pub returns-in_default-clause-front : goal.returns-in_default-clause-front
returns-in_default-clause-front g c = of_text_front (g.I.Source.left c.args.input.now) (g.O.Outside.files c.args.outside.now) c.args.command.now _ _ c.say_usage.result usage c.say_usage.ensures.front (λ files. search rules) (search rules)

pub returns-in_default-clause-loaded : goal.returns-in_default-clause-loaded
returns-in_default-clause-loaded g c =
    let other : is_play c.args.command.now ≡ false = search rules in
    let fixed : is_fixed c.args.command.now ≡ true = search rules in
    λ e. of_unloaded (g.I.Source.left c.args.input.now) (g.O.Outside.files c.args.outside.now) c.args.command.now _ _ c.say_usage.result _ e (of_text_front (g.I.Source.left c.args.input.now) (g.O.Outside.files c.args.outside.now) c.args.command.now _ _ c.say_usage.result usage c.say_usage.ensures.front (λ files. search rules) fixed) other

pub returns-in-Some-Help-clause-answered : goal.returns-in-Some-Help-clause-answered
returns-in-Some-Help-clause-answered g c = of_text (g.I.Source.left c.args.input.now) (g.O.Outside.files c.args.outside.now) c.args.command.now _ _ c.say_help.result help c.say_help.ensures.answered (λ files. search rules) (search rules)

pub returns-in-Some-Help-clause-front : goal.returns-in-Some-Help-clause-front
returns-in-Some-Help-clause-front g c = of_text_front (g.I.Source.left c.args.input.now) (g.O.Outside.files c.args.outside.now) c.args.command.now _ _ c.say_help.result help c.say_help.ensures.front (λ files. search rules) (search rules)

pub returns-in-Some-Help-clause-loaded : goal.returns-in-Some-Help-clause-loaded
returns-in-Some-Help-clause-loaded g c =
    let other : is_play c.args.command.now ≡ false = search rules in
    let fixed : is_fixed c.args.command.now ≡ true = search rules in
    λ e. of_unloaded (g.I.Source.left c.args.input.now) (g.O.Outside.files c.args.outside.now) c.args.command.now _ _ c.say_help.result _ e (of_text_front (g.I.Source.left c.args.input.now) (g.O.Outside.files c.args.outside.now) c.args.command.now _ _ c.say_help.result help c.say_help.ensures.front (λ files. search rules) fixed) other

pub returns-in-Some-Version-clause-answered : goal.returns-in-Some-Version-clause-answered
returns-in-Some-Version-clause-answered g c = of_text (g.I.Source.left c.args.input.now) (g.O.Outside.files c.args.outside.now) c.args.command.now _ _ c.say_version.result version c.say_version.ensures.answered (λ files. search rules) (search rules)

pub returns-in-Some-Version-clause-front : goal.returns-in-Some-Version-clause-front
returns-in-Some-Version-clause-front g c = of_text_front (g.I.Source.left c.args.input.now) (g.O.Outside.files c.args.outside.now) c.args.command.now _ _ c.say_version.result version c.say_version.ensures.front (λ files. search rules) (search rules)

pub returns-in-Some-Version-clause-loaded : goal.returns-in-Some-Version-clause-loaded
returns-in-Some-Version-clause-loaded g c =
    let other : is_play c.args.command.now ≡ false = search rules in
    let fixed : is_fixed c.args.command.now ≡ true = search rules in
    λ e. of_unloaded (g.I.Source.left c.args.input.now) (g.O.Outside.files c.args.outside.now) c.args.command.now _ _ c.say_version.result _ e (of_text_front (g.I.Source.left c.args.input.now) (g.O.Outside.files c.args.outside.now) c.args.command.now _ _ c.say_version.result version c.say_version.ensures.front (λ files. search rules) fixed) other

pub returns-in-Some-Load-clause-answered : goal.returns-in-Some-Load-clause-answered
returns-in-Some-Load-clause-answered g c = of_load (g.I.Source.left c.args.input.now) (g.O.Outside.files c.args.outside.now) c.args.command.now _ _ _ _ c.load.result (search rules) c.load.ensures.answered

pub returns-in-Some-Load-clause-front : goal.returns-in-Some-Load-clause-front
returns-in-Some-Load-clause-front g c = of_load_front (g.I.Source.left c.args.input.now) (g.O.Outside.files c.args.outside.now) c.args.command.now _ _ _ _ c.load.result (search rules) c.load.ensures.front

pub returns-in-Some-Load-clause-loaded : goal.returns-in-Some-Load-clause-loaded
returns-in-Some-Load-clause-loaded g c =
    let other : is_play c.args.command.now ≡ false = search rules in
    λ e. of_unloaded (g.I.Source.left c.args.input.now) (g.O.Outside.files c.args.outside.now) c.args.command.now _ _ c.load.result _ e
    (of_load_front (g.I.Source.left c.args.input.now) (g.O.Outside.files c.args.outside.now) c.args.command.now _ _ _ _ c.load.result (search rules) c.load.ensures.front) other
