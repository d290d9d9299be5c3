-- What a policy decides of a request.
use Rattle.std.specs.Prelude.{◌≡◌, ℕ, ◌<◌, ◌==◌, Bool, true, false, not, ◌&&◌, List, Contains, Option, Some, None, codes, position, slice_get}
use Rattle.std.specs.Char.{eq_ignore_ascii_case}
use Rattle.std.specs.List.{list_any}
use Rattle.std.specs.Str.{chars}
use Rattle.policy_core.specs.declared.policy.Decision.{Decision}
use Rattle.policy_core.specs.declared.policy.Decision.TheVariants.{Allow, Deny, NoAllow}
use Rattle.policy_core.specs.declared.policy.Policy.{Policy}
use Rattle.policy_core.specs.declared.policy.Statement.{Statement}
use Rattle.policy_core.specs.Patterns.{Covers, covers}

-- characters are compared as they are, or without regard to ASCII case
abbrev pub exactly : ℕ → ℕ → Bool
exactly c d = c == d

abbrev pub ignoring_case : ℕ → ℕ → Bool
ignoring_case c d = eq_ignore_ascii_case c d

-- the one action of which requests ask
abbrev pub invoke : List ℕ
invoke = codes "execute-api:Invoke"

abbrev pub ActionCovers : List ℕ → Type 0
ActionCovers action = Covers ignoring_case (chars action) (chars invoke)

abbrev pub ResourceCovers : List ℕ → List ℕ → Type 0
ResourceCovers arn resource = Covers exactly (chars resource) (chars arn)

-- A statement covers a request of this name where one of its actions covers the action, and one of its resources the name.
pub record CoversRequest (arn : List ℕ) (s : Statement) : Type 0 where
  pub action : List ℕ
  pub among_actions : Contains s.actions action
  pub covers_action : ActionCovers action
  pub resource : List ℕ
  pub among_resources : Contains s.resources resource
  pub covers_name : ResourceCovers arn resource

-- the statement at this place has this effect, and covers
pub record IsCovering (allow : Bool) (arn : List ℕ) (statements : List Statement) (at : ℕ) : Type 0 where
  pub statement : Statement
  pub there : slice_get statements at ≡ Some statement
  pub effect : statement.allow ≡ allow
  pub covering : CoversRequest arn statement

abbrev pub NoneCovers : Bool → List ℕ → List Statement → Type 0
NoneCovers allow arn statements = (at : ℕ) → IsCovering allow arn statements at → ⊥

-- it is the first of this effect that covers
pub record IsFirst (allow : Bool) (arn : List ℕ) (statements : List Statement) (at : ℕ) : Type 0 where
  pub covering : IsCovering allow arn statements at
  pub before : (k : ℕ) → k < at → IsCovering allow arn statements k → ⊥

-- The first Deny that covers decides; else the first Allow that does; else nothing is allowed.
abbrev pub Decides : Policy → List ℕ → Decision → Type 0
Decides policy arn (Deny at) = IsFirst false arn policy.statements at
Decides policy arn (Allow at) = NoneCovers false arn policy.statements × IsFirst true arn policy.statements at
Decides policy arn NoAllow = NoneCovers false arn policy.statements × NoneCovers true arn policy.statements

-- The same as a test.
abbrev pub action_covers : List ℕ → Bool
action_covers action = covers ignoring_case (chars action) (chars invoke)

abbrev pub resource_covers : List ℕ → List ℕ → Bool
resource_covers arn resource = covers exactly (chars resource) (chars arn)

abbrev pub statement_covers : List ℕ → Statement → Bool
statement_covers arn s = list_any action_covers s.actions && list_any (resource_covers arn) s.resources

abbrev pub has_effect : Bool → Statement → Bool
has_effect true s = s.allow
has_effect false s = not s.allow

abbrev pub is_covering : Bool → List ℕ → Statement → Bool
is_covering allow arn s = has_effect allow s && statement_covers arn s

abbrev pub decision_by : Option ℕ → Option ℕ → Decision
decision_by (Some at) allowed = Deny at
decision_by None (Some at) = Allow at
decision_by None None = NoAllow

-- the decision of a policy on the request of this name
unfoldable pub decision : Policy → List ℕ → Decision
decision policy arn = decision_by (position (is_covering false arn) policy.statements) (position (is_covering true arn) policy.statements)
