use Rattle.std.proofs.Common.{◌∙◌, ap, sym, false}
use Rattle.http_framing.specs.Targets.{in_method}
use Rattle.http_framing.proofs.TargetLemmas.{ends_from_test, test_from_ends}
use Rattle.http_framing.proofs.target.ends_in_target.Goals as goal

pub returns : goal.returns
returns c =
    let value = c.ends_method.ensures ∙ ap (in_method false) c.skip_blank.ensures in
    (λ h. ends_from_test c.args.buf.now (sym value ∙ h), λ h. value ∙ test_from_ends c.args.buf.now h)
