-- When two names are the same, and of which stage a name is.
use Rattle.std.specs.Prelude.{◌≡◌, ℕ, Bool, true, ◌&&◌, List, ◌++◌}
use Rattle.std.specs.Cmp.{IsEquivalence, and_equiv, on_equiv, first_so, second_so}
use Rattle.std.specs.Cmp.Lexicographic.{nat_list_eq_equiv, bytes_decides}
use Rattle.std.specs.Hash as fed
use Rattle.std.specs.Hash.{HashWrites}
use Rattle.std.specs.Str.{bytes_eq}
use Rattle.policy_memory.specs.declared.names.PolicyName.{PolicyName}

-- all four texts are equal
unfoldable pub same_name : PolicyName → PolicyName → Bool
same_name x y = bytes_eq x.api y.api && bytes_eq x.stage y.stage && bytes_eq x.authorizer y.authorizer && bytes_eq x.token y.token

-- both texts are equal
unfoldable pub same_stage : List ℕ → List ℕ → List ℕ → List ℕ → Bool
same_stage api stage other_api other_stage = bytes_eq api other_api && bytes_eq stage other_stage

-- the name is of this API and stage
abbrev pub is_of : List ℕ → List ℕ → PolicyName → Bool
is_of api stage name = same_stage api stage name.api name.stage

pub same_name_equiv : IsEquivalence same_name
unfolding same_name
same_name_equiv = and_equiv (and_equiv (and_equiv (on_equiv (λ n. n.api) nat_list_eq_equiv) (on_equiv (λ n. n.stage) nat_list_eq_equiv)) (on_equiv (λ n. n.authorizer) nat_list_eq_equiv)) (on_equiv (λ n. n.token) nat_list_eq_equiv)

-- equal names are one
pub same_name-equal : (x y : PolicyName) → same_name x y ≡ true → x ≡ y
unfolding same_name
same_name-equal x y e =
    let api = bytes_eq x.api y.api in
    let stage = bytes_eq x.stage y.stage in
    let authorizer = bytes_eq x.authorizer y.authorizer in
    let token = bytes_eq x.token y.token in
    let before_token : (api && stage && authorizer) ≡ true = first_so (api && stage && authorizer) token e in
    let before_authorizer : (api && stage) ≡ true = first_so (api && stage) authorizer before_token in
    let api_is : x.api ≡ y.api = (bytes_decides x.api y.api).0 (first_so api stage before_authorizer) in
    let stage_is : x.stage ≡ y.stage = (bytes_decides x.stage y.stage).0 (second_so api stage before_authorizer) in
    let authorizer_is : x.authorizer ≡ y.authorizer = (bytes_decides x.authorizer y.authorizer).0 (second_so (api && stage) authorizer before_token) in
    let token_is : x.token ≡ y.token = (bytes_decides x.token y.token).0 (second_so (api && stage && authorizer) token e) in
    λ i. record { api = api_is i; stage = stage_is i; authorizer = authorizer_is i; token = token_is i }

-- what a hasher is given of a name
abbrev pub name_input : PolicyName → HashWrites
name_input x = fed.str x.api ++ fed.str x.stage ++ fed.str x.authorizer ++ fed.str x.token

pub same_name-input : (x y : PolicyName) → same_name x y ≡ true → name_input x ≡ name_input y
same_name-input x y e = λ i. name_input (same_name-equal x y e i)
