-- What waits for the header of an authorizer.
use Rattle.std.proofs.Common.{◌≡◌, Bool, true, false, Some, None, sym, ◌∙◌, subst}
use Rattle.std.specs.Prelude.{MatchResult, Result, if◌then◌else◌}
use Rattle.api_parts.specs.Places.{fault_below}
use Rattle.api_parts.specs.Reading.{Text, Waiting, first_of, here}
use Rattle.api_parts.specs.declared.fault.ApiCause.TheVariants.{BadMapping, Memory}
use Rattle.api_parts.specs.declared.fault.ApiFault.{ApiFault}
use Rattle.gw_base.specs.Names.{is_token}
use Rattle.api_members.specs.Authorizers.{header_waiting}

-- what is kept after a fault, by whether the header is a token
abbrev pub Defers : Result (Unit {0}) ApiFault → Waiting → Waiting → Waiting → Type 0
Defers r new before later = MatchResult r (λ _. new ≡ first_of before later) (λ e. e.cause ≡ Memory)

abbrev by_test : Text → Bool → Waiting
by_test name t = if t then None else Some (fault_below name (here BadMapping))

pub token_defers : (r : Result (Unit {0}) ApiFault) (new before : Waiting) (name h : Text) (b : Bool) → b ≡ is_token h → b ≡ true → Defers r new before None → Defers r new before (header_waiting name h)
token_defers r new before name h b is e w = subst (λ t. Defers r new before (by_test name t)) (sym (sym is ∙ e)) w

pub other_defers : (r : Result (Unit {0}) ApiFault) (new before : Waiting) (name h : Text) (b : Bool) → b ≡ is_token h → b ≡ false → Defers r new before (Some (fault_below name (here BadMapping))) → Defers r new before (header_waiting name h)
other_defers r new before name h b is e w = subst (λ t. Defers r new before (by_test name t)) (sym (sym is ∙ e)) w
