-- Worked answers of the definitions.
use Rattle.std.proofs.Common.{◌≡◌, ◌∷◌, [], true, false, codes, Some, refl}
use Rattle.json_subset.specs.Tree.{node, number, object, members_of, wide}
use Rattle.policy_core.specs.declared.policy.Decision.TheVariants.{Allow, Deny}
use Rattle.policy_core.specs.declared.policy.Policy.{Policy}
use Rattle.policy_core.specs.Decisions.{exactly, ignoring_case, decision}
use Rattle.policy_core.specs.Patterns.{covers}
use Rattle.policy_core.specs.Replies.{reply_fault, document_fault}
use Rattle.std.specs.Str.{chars}

stars : covers exactly (codes "a*b*c") (codes "axbxbc") ≡ true
stars = refl

no_run : covers exactly (codes "ab*ab") (codes "ab") ≡ false
no_run = refl

one_character : covers exactly (codes "a?c") (codes "ac") ≡ false
one_character = refl

any_case : covers ignoring_case (codes "EXECUTE-api:*") (codes "execute-api:Invoke") ≡ true
any_case = refl

-- Allow on `*`, and then Deny on `*/POST/*`
abbrev two_statements : Policy
two_statements = record {
  principal = codes "p";
  statements = record { allow = true; actions = codes "*" ∷ []; resources = codes "*" ∷ [] }
      ∷ record { allow = false; actions = codes "execute-api:Invoke" ∷ []; resources = codes "*/POST/*" ∷ [] } ∷ [];
  context = [];
}

denied : decision two_statements (codes "a/s/POST/") ≡ Deny 1
unfolding decision chars
denied = refl

allowed : decision two_statements (codes "a/s/GET/") ≡ Allow 0
unfolding decision chars
allowed = refl

empty_object : reply_fault (node 0 2 (object (members_of []))) ≡ Some 0
unfolding reply_fault
empty_object = refl

-- {"policyDocument":{},"principalId":7}: the first fault that is met is that of the inner object
first_met : reply_fault (node 0 37 (object (members_of ((codes "policyDocument", node 18 20 (object (members_of []))) ∷ (codes "principalId", node 35 36 (number wide (codes "7"))) ∷ [])))) ≡ Some 18
unfolding reply_fault document_fault
first_met = refl
