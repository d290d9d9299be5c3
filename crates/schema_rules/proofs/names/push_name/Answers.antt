use Rattle.std.proofs.Common.{◌≡◌, List, [], ◌∷◌, ◌++◌, map, true, refl, sym, ap, ◌∙◌}
use Rattle.std.specs.Prelude.{if◌then◌else◌, String}
use Rattle.std.specs.String.{string_bytes}
use Rattle.std.specs.declared.alloc.Global.{Global}
use Rattle.std.specs.Str.{bytes_eq}
use Rattle.json_subset.specs.Reading.{named}
use Rattle.json_subset.proofs.Names.{named_push}
use Rattle.schema_rules.specs.Views.{names_of}
use Rattle.schema_rules.proofs.names.push_name.Goals as goal

text_push : (xs : List (String Global)) (x : String Global) → map string_bytes (xs ++ x ∷ []) ≡ map string_bytes xs ++ string_bytes x ∷ []
text_push [] x = refl
text_push (y ∷ xs) x = ap (λ z. string_bytes y ∷ z) (text_push xs x)

pub returns-clause-set : goal.returns-clause-set
returns-clause-set c = λ q.
    c.in_ok-enter.ensures q
    ∙ ap (λ z. if bytes_eq c.args.name.now q then true else z) (c.requires.set q)
    ∙ sym (named_push (names_of c.args.names.now) c.args.name.now q)
    ∙ ap (λ z. named z q) (sym (rw c.in_ok-push.ensures.items (text_push c.args.names.now.list.items c.in_ok-key.key ∙ ap (λ z. names_of c.args.names.now ++ z ∷ []) c.in_ok-key.ensures)))
