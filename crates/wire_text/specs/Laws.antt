-- What holds of what is passed on.
use Rattle.std.specs.Prelude.{◌≡◌, false, All}
use Rattle.call_facts.specs.Pairs.{Pairs}
use Rattle.call_facts.specs.declared.request.WireReply.{WireReply}
use Rattle.wire_text.specs.Passing.{held_back, is_among, passed_on_of, proxied}

-- no header of a proxied answer has a name that is held back, in any case of its letters
abbrev pub NeverPassesOn : Type 0
NeverPassesOn = (reply : WireReply) → All (λ h. is_among held_back h.0 ≡ false) (proxied reply).headers

-- nor has one that goes on to a backend
abbrev pub NeverSendsOn : Type 0
NeverSendsOn = (headers : Pairs) → All (λ h. is_among held_back h.0 ≡ false) (passed_on_of headers)
