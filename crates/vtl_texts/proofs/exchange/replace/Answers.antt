use Rattle.std.proofs.Common.{◌≤◌, List, ℕ, Some, arith, ap, ◌∙◌, le-leb, length}
use Rattle.std.proofs.lemmas.Bool.{lt-leb}
use Rattle.vtl_texts.specs.Places.{within, exchanged}
use Rattle.vtl_texts.proofs.Rounds.{exchanged_same}
use Rattle.vtl_texts.proofs.exchange.replace.Goals as goal

pub returns-in_default-clause-value : goal.returns-in_default-clause-value
unfolding within
returns-in_default-clause-value c = rw (lt-leb (length (exchanged c.args.text.now c.args.from.now c.args.to.now)) c.args.most c.in_default.ensures)

pub returns-clause-value : goal.returns-clause-value
unfolding within
returns-clause-value c =
    let all = exchanged c.args.text.now c.args.from.now c.args.to.now in
    let fits : length all ≤ c.args.most = omega (arith, c.in-Some.ensures.0, c.in-Some.ensures.1) in
    rw (le-leb (length all) c.args.most fits)
    (ap (λ (bs : List ℕ). Some bs) c.in_ok-make.ensures)

pub returns-in_default-clause-same : goal.returns-in_default-clause-same
returns-in_default-clause-same c = λ e. returns-in_default-clause-value c ∙ ap (within c.args.most) (exchanged_same c.args.text.now c.args.from.now c.args.to.now e)

pub returns-clause-same : goal.returns-clause-same
returns-clause-same c = λ e. returns-clause-value c ∙ ap (within c.args.most) (exchanged_same c.args.text.now c.args.from.now c.args.to.now e)
