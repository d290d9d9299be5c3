use Rattle.std.proofs.Common.{◌≡◌, Ok, subst, sym, ap, ◌∙◌, rules}
use Rattle.gateway_vars.specs.Held.{asked}
use Rattle.integration_flow.specs.Preparing.{prepared}
use Rattle.integration_flow.specs.Stopping.{Flows}
use Rattle.integration_request.specs.Mapping.{mapped}
use Rattle.integration_request.specs.Requests.{http_by, http_made, http_of}
use Rattle.integration_request.proofs.http.http_request.Goals as goal

pub returns : goal.returns
unfolding http_of
returns c =
    let i = c.args.integration.now in
    let r = c.args.request.now in
    let f = c.args.facts.now in
    let x = c.args.resource.now in
    let m = c.in_ok-mapped.mapped in
    let w = c.in_ok-made.made in
    let held = asked r c.args.target.now c.args.found.now f in
    let result = c.http_made.result in
    let is : c.in_ok-asking.asking ≡ held = c.in_ok-asking.ensures in
    let told : c.as_slice-variables.result.now ≡ f.variables.pairs = search rules in
    let maps : m ≡ mapped x held i.parameters =
    subst (λ h. m ≡ mapped x h i.parameters) is (subst (λ ps. m ≡ mapped x c.in_ok-asking.asking ps) c.as_slice.ensures c.in_ok-mapped.ensures) in
    let prepares : prepared i held ≡ Ok w = subst (λ h. prepared i h ≡ Ok w) is c.in_ok-made.ensures in
    subst (λ p. Flows (http_by i r f.variables.pairs (mapped x held i.parameters) p) result) (sym prepares)
    (subst (λ k. Flows (http_made i r f.variables.pairs k w) result) maps (subst (λ v. Flows (http_made i r v m w) result) told c.http_made.ensures))
