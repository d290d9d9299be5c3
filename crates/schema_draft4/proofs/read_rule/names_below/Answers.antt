use Rattle.std.proofs.Common.{◌≡◌, ◌++◌, [], ℕ, List, ◌∷◌, refl, sym, ap, ◌∙◌, arith}
use Rattle.json_subset.specs.Tree.{no_members}
use Rattle.json_subset.specs.Documents.{form, part}
use Rattle.schema_draft4.specs.Faults.{rest_members}
use Rattle.schema_draft4.specs.Reading.{names_in}
use Rattle.schema_rules.specs.Views.{names_of}
use Rattle.schema_draft4.proofs.Rests.{members_all}
use Rattle.schema_draft4.proofs.read_rule.names_below.Goals as goal

no_more : (xs : List (List ℕ)) → xs ++ [] ≡ xs
no_more [] = refl
no_more (x ∷ xs) = ap (λ z. x ∷ z) (no_more xs)

pub returns-clause-list : goal.returns-clause-list
returns-clause-list c =
    let f = form (part c.args.doc.now c.args.id) in
    let ends : c.loop-i.i ≡ c.args.count = omega arith in
    let done : rest_members f c.loop-i.i ≡ no_members = ap (rest_members f) ends ∙ (members_all f c.args.count c.requires.object).1 in
    sym (no_more (names_of c.loop-i.names)) ∙ ap (λ z. names_of c.loop-i.names ++ names_in z) (sym done) ∙ c.loop-i.invariant.so_far
