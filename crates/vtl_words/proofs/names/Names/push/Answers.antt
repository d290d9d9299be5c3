use Rattle.std.proofs.Common.{◌≡◌, ◌++◌, ◌∷◌, [], length, ℕ, List, Some, None, rules, sym, ap, ◌∙◌}
use Rattle.std.specs.Prelude.{bytes_eq, if◌then◌else◌}
use Rattle.vtl_grammar.specs.Calls.{first_of}
use Rattle.vtl_words.specs.Names.{place_of}
use Rattle.vtl_words.proofs.Named.{place_push}
use Rattle.vtl_words.proofs.names.Names.push.Goals as goal

pub invariant_of-self-in-Ok : goal.invariant_of-self-in-Ok
invariant_of-self-in-Ok c = λ q.
    let old : List (List ℕ) = c.self.inside.list.items in
    let pushed : c.push.new.self.items ≡ old ++ c.args.name.now ∷ [] = search rules in
    let count : c.len-n.result ≡ length old = search rules in
    c.in-Ok.ensures.entered q
    ∙ ap (λ z. first_of z (if bytes_eq c.args.name.now q then Some c.len-n.result else None)) (c.self.invariant q)
    ∙ ap (λ n. first_of (place_of old q) (if bytes_eq c.args.name.now q then Some n else None)) count
    ∙ sym (place_push old c.args.name.now q)
    ∙ ap (λ z. place_of z q) (sym pushed)
