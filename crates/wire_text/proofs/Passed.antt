-- What is never passed on.
use Rattle.std.proofs.Common.{◌≡◌, ℕ, Bool, true, false, List, [], ◌∷◌, All, ap, ◌∙◌, refl, arith}
use Rattle.std.proofs.lemmas.List.Elements.{All-cons, All-nil, All-tail}
use Rattle.std.proofs.lemmas.Str.Ascii.{lowercase-lowercase}
use Rattle.std.specs.Prelude.{◌||◌, if◌then◌else◌, codes}
use Rattle.std.specs.Char.{to_ascii_lowercase}
use Rattle.std.specs.Str.{bytes_eq}
use Rattle.call_facts.specs.Pairs.{Pairs}
use Rattle.gw_base.specs.Names.{lower, same_name}
use Rattle.wire_text.specs.Laws.{NeverPassesOn, NeverSendsOn}
use Rattle.wire_text.specs.Passing.{content_type, held_back, is_among, is_content_type, passed_on_of, without_first}

-- a header that does not stay behind
abbrev GoesOn : List ℕ × List ℕ → Type 0
GoesOn h = is_among held_back h.0 ≡ false

lower_again : (x : List ℕ) → lower (lower x) ≡ lower x
lower_again [] = refl
lower_again (b ∷ x) = ap (λ c. c ∷ lower (lower x)) (lowercase-lowercase b) ∙ ap (λ y. to_ascii_lowercase b ∷ y) (lower_again x)

same_lower : (x y : List ℕ) → same_name (lower x) y ≡ same_name x y
unfolding same_name
same_lower x y = ap (λ t. bytes_eq t (lower y)) (lower_again x)

-- a name in lower case is held back where the name is
among_lower : (names : List (List ℕ)) (x : List ℕ) → is_among names (lower x) ≡ is_among names x
among_lower [] x = refl
among_lower (n ∷ ns) x = ap (λ t. t || is_among ns (lower x)) (same_lower x n) ∙ ap (λ t. same_name x n || t) (among_lower ns x)

pub never_sent_on : NeverSendsOn
never_sent_on [] = All-nil GoesOn
never_sent_on (h ∷ hs) = by_test (is_among held_back h.0) refl (never_sent_on hs)
  where
    by_test : (t : Bool) → is_among held_back h.0 ≡ t → All GoesOn (passed_on_of hs) → All GoesOn (passed_on_of (h ∷ hs))
    by_test true is more = rw is more
    by_test false is more = rw is (All-cons GoesOn (lower h.0, h.1) (passed_on_of hs) (among_lower held_back h.0 ∙ is) more)

others : (hs : Pairs) → All GoesOn hs → All GoesOn (without_first hs)
others [] all = All-nil GoesOn
others (h ∷ hs) all = by_test (is_content_type h) (others hs (All-tail GoesOn h hs all))
  where
    by_test : (t : Bool) → All GoesOn (without_first hs) → All GoesOn (if t then hs else h ∷ without_first hs)
    by_test true more = All-tail GoesOn h hs all
    by_test false more = All-cons GoesOn h (without_first hs) (all 0 h (omega arith)) more

content_type_goes_on : is_among held_back (codes "content-type") ≡ false
unfolding same_name
content_type_goes_on = refl

pub never_passed_on : NeverPassesOn
never_passed_on reply =
    let hs = passed_on_of reply.headers in
    All-cons GoesOn (codes "content-type", content_type hs) (without_first hs) content_type_goes_on (others hs (never_sent_on reply.headers))
