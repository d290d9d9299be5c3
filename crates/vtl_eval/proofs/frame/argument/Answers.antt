use Rattle.std.proofs.Common.{◌≡◌, ◌∙◌, ap, sym, rules, length, Bool}
use Rattle.std.specs.Prelude.{Option, option_map, nat_lt, ◌&&◌}
use Rattle.std.specs.List.{list_all}
use Rattle.vtl_grammar.specs.Tree.{Expr}
use Rattle.vtl_grammar.specs.Expanded.{Arguments, arguments, expr_with, exprs_with}
use Rattle.vtl_words.specs.Names.{place_of}
use Rattle.vtl_reader.specs.Nodes.{expr_of, exprs_made}
use Rattle.vtl_eval.specs.Frames.{arguments_of, is_sound}
use Rattle.vtl_eval.specs.declared.frame.Frame.{Frame}
use Rattle.vtl_eval.specs.declared.frame.Frame as source
use Rattle.vtl_eval.specs.declared.frame.Frame.TheFolds.{the_lemmas}
use Rattle.vtl_eval.proofs.Arguments.{arguments_placed, placed_below, front_true}
use Rattle.vtl_eval.proofs.frame.argument.Goals as goal

pub returns-in-Some-clause-found : goal.returns-in-Some-clause-found
returns-in-Some-clause-found c =
    let at_frame : Frame → Option Expr = λ f. arguments_of c.args.arena.now.exprs f c.args.name.now in
    let tree : arguments_of c.args.arena.now.exprs (source.Call c.in-Call.params c.in-Call.ids c.in-Call.caller) ≡ (λ x. arguments c.in-Call.params.now (exprs_with (arguments_of c.args.arena.now.exprs c.in-Call.caller.now) (exprs_made (expr_of c.args.arena.now.exprs) c.in-Call.ids.now)) x) = search (rules, the_lemmas) in
    let at_name : Arguments → Option Expr = λ a. a c.args.name.now in
    ap at_frame c.in-Call.is ∙ ap at_name tree
    ∙ arguments_placed (arguments_of c.args.arena.now.exprs c.in-Call.caller.now) (expr_of c.args.arena.now.exprs) c.in-Call.params.now c.in-Call.ids.now c.args.name.now
    ∙ ap (option_map (λ k. expr_with (arguments_of c.args.arena.now.exprs c.in-Call.caller.now) (expr_of c.args.arena.now.exprs k))) (sym c.placed.ensures ∙ c.in-Some.is)

pub returns-in-Some-clause-stands : goal.returns-in-Some-clause-stands
returns-in-Some-clause-stands c =
    let n = length c.args.arena.now.exprs in
    let sound : Frame → Bool = λ f. is_sound n f in
    let tree : is_sound n (source.Call c.in-Call.params c.in-Call.ids c.in-Call.caller) ≡ (list_all (λ k. nat_lt k n) c.in-Call.ids.now && is_sound n c.in-Call.caller.now) = search (rules, the_lemmas) in
    placed_below n c.in-Call.ids.now (place_of c.in-Call.params.now c.args.name.now) c.in-Some.k (front_true _ _ (sym tree ∙ sym (ap sound c.in-Call.is) ∙ c.requires.frame)) (sym c.placed.ensures ∙ c.in-Some.is)

pub returns-in-None-clause-found : goal.returns-in-None-clause-found
returns-in-None-clause-found c =
    let at_frame : Frame → Option Expr = λ f. arguments_of c.args.arena.now.exprs f c.args.name.now in
    let tree : arguments_of c.args.arena.now.exprs (source.Call c.in-Call.params c.in-Call.ids c.in-Call.caller) ≡ (λ x. arguments c.in-Call.params.now (exprs_with (arguments_of c.args.arena.now.exprs c.in-Call.caller.now) (exprs_made (expr_of c.args.arena.now.exprs) c.in-Call.ids.now)) x) = search (rules, the_lemmas) in
    let at_name : Arguments → Option Expr = λ a. a c.args.name.now in
    ap at_frame c.in-Call.is ∙ ap at_name tree
    ∙ arguments_placed (arguments_of c.args.arena.now.exprs c.in-Call.caller.now) (expr_of c.args.arena.now.exprs) c.in-Call.params.now c.in-Call.ids.now c.args.name.now
    ∙ ap (option_map (λ k. expr_with (arguments_of c.args.arena.now.exprs c.in-Call.caller.now) (expr_of c.args.arena.now.exprs k))) (sym c.placed.ensures ∙ c.in-None.is)
