-- The name of a call, of which policies speak (API Gateway Developer Guide, "Resource format of permissions").
use Rattle.std.specs.Prelude.{ℕ, ◌==◌, List, [], ◌∷◌, ◌++◌, codes, if◌then◌else◌}
use Rattle.call_facts.specs.declared.target.Target.{Target}

-- a path without the `/` at its front
abbrev pub behind_slash : List ℕ → List ℕ
behind_slash [] = []
behind_slash (b ∷ bs) = if b == 47 then bs else b ∷ bs

-- `API/STAGE/METHOD/PATH` behind the gateway's own region and account, all as they are written in the request
abbrev pub arn_of : Target → List ℕ → List ℕ
arn_of target method =
    codes "arn:aws:execute-api:local:000000000000:" ++ target.api ++ codes "/" ++ target.stage ++ codes "/" ++ method ++ codes "/" ++ behind_slash target.path
