use Rattle.std.proofs.Common.{◌==◌, ap, sym, ◌∙◌}
use Rattle.std.specs.List.{list_any, slice_split}
use Rattle.std.proofs.lemmas.Result.{IfOk-weaker}
use Rattle.admin_paths.specs.Paths.{path_in}
use Rattle.admin_routes.specs.Routes.{segments_behind}
use Rattle.admin_routes.proofs.Behind.{none_with_slash, none_without_text, route_of_text, routed}
use Rattle.admin_routes.proofs.routes.find_route.Goals as goal

pub returns-then-has_slash : goal.returns-then-has_slash
returns-then-has_slash c =
    let slash = ap (list_any (λ b. b == 47)) (sym c.as_str.ensures) ∙ (sym c.has_slash.ensures ∙ c.if-has_slash.true) in
    sym (none_with_slash c.args.verb.now c.args.target.now.stage (segments_behind c.args.target.now.path) slash)

pub returns-in-Some : goal.returns-in-Some
returns-in-Some c =
    let slash = ap (list_any (λ b. b == 47)) (sym c.as_str.ensures) ∙ (sym c.has_slash.ensures ∙ c.if-has_slash.false) in
    let text = sym c.in_ok-path.ensures ∙ c.in-Some.is in
    let verb = c.args.verb.now in
    IfOk-weaker c.route_of_path.result _ _ (λ route h. h ∙ (ap (λ path. routed verb (path_in (slice_split (λ b. b == 47) path))) c.as_str-in-Some.ensures
    ∙ route_of_text verb c.args.target.now.stage c.args.target.now.path c.in-Some.path slash text)) c.route_of_path.ensures

pub returns-in-None : goal.returns-in-None
returns-in-None c =
    sym (none_without_text c.args.verb.now c.args.target.now.stage c.args.target.now.path (sym c.in_ok-path.ensures ∙ c.in-None.is))
