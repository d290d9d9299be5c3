use Rattle.std.proofs.Common.{ℕ, List, [], Option, sym, ap}
use Rattle.std.specs.Prelude.{unwrap_or}
use Rattle.http_edge.proofs.Phrases.{no_phrase}
use Rattle.http_edge.proofs.answer.phrase_of.Goals as goal

pub returns-in-Err : goal.returns-in-Err
returns-in-Err c =
    let text : Option (List ℕ) → List ℕ = λ o. unwrap_or o [] in
    sym (ap text (no_phrase c.args.status c.in-Err.ensures))
