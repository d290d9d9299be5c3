use Rattle.std.proofs.Common.{◌≡◌, ◌∙◌, ap, sym, true, false}
use Rattle.json_subset.specs.Documents.{form}
use Rattle.schema_keywords.specs.Keywords.{meets, keyword_of}
use Rattle.schema_keywords.specs.Views.{test_of}
use Rattle.schema_rules.specs.Cases.{tree_in}
use Rattle.schema_rules.specs.Verdict.{invalid, unless, place_of}
use Rattle.schema_rules.proofs.Judged.{met_alike}
use Rattle.schema_rules.proofs.parts.judge_test.Goals as goal

pub returns-then-met-clause-says : goal.returns-then-met-clause-says
returns-then-met-clause-says c =
    let at = place_of (tree_in c.args.case.now c.args.i) in
    let t = test_of c.args.test.now in
    let met : true ≡ meets (form (tree_in c.args.case.now c.args.i)) t = sym c.if-met.true ∙ c.in_ok-met.ensures ∙ met_alike c.args.case.now c.args.i t c.requires.sound in
    ap (λ b. unless b at (keyword_of t)) met

pub returns-else-met-clause-says : goal.returns-else-met-clause-says
returns-else-met-clause-says c =
    let at = place_of (tree_in c.args.case.now c.args.i) in
    let t = test_of c.args.test.now in
    let unmet : false ≡ meets (form (tree_in c.args.case.now c.args.i)) t = sym c.if-met.false ∙ c.in_ok-met.ensures ∙ met_alike c.args.case.now c.args.i t c.requires.sound in
    c.failure.ensures.says ∙ ap (invalid at) c.keyword_of.ensures ∙ ap (λ b. unless b at (keyword_of t)) unmet
