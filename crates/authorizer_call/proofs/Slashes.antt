-- The slash at the front of a path.
use Rattle.std.proofs.Common.{◌≡◌, ◌≢◌, ℕ, Bool, true, false, List, [], ◌∷◌, ◌==◌, refl, sym, ap, eqb-true}
use Rattle.std.specs.Prelude.{if◌then◌else◌}
use Rattle.authorizer_call.specs.Names.{behind_slash}

pub slash_goes : (path rest : List ℕ) → path ≡ 47 ∷ rest → rest ≡ behind_slash path
slash_goes path rest e = ap behind_slash (sym e)

pub none_goes : (path : List ℕ) → ((rest : List ℕ) → path ≢ 47 ∷ rest) → path ≡ behind_slash path
none_goes [] never = refl
none_goes (b ∷ bs) never = by_test (b == 47) refl
  where
    by_test : (t : Bool) → (b == 47) ≡ t → b ∷ bs ≡ (if t then bs else b ∷ bs)
    by_test true is = absurd (never bs (ap (λ c. c ∷ bs) (eqb-true b 47 is)))
    by_test false is = refl
