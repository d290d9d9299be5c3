-- From what `regex` ensures to the words of `specs/Search.antt`.
use Rattle.std.proofs.Common.{◌≡◌, ℕ, ◌<◌, ◌≤◌, ◌⊎◌, Bool, true, false, List, Option, None, Some, IsSomeAnd, IfSome, option_map, is_some, refl, ◌∙◌, inl, inr, length, get_or, subst, arith}
use Rattle.std.specs.Prelude.{nat_le}
use Rattle.std.specs.Str.{chars}
use Rattle.std.proofs.lemmas.Bool.Decides.{nat_tests}
use Rattle.regex_hir.specs.declared.hir.Hir.{Hir}
use Rattle.regex_hir.specs.Meaning.{meaning}
use Rattle.regex_syntax.specs.Grammar.{Names, read, group_count}
use Rattle.regex_syntax.specs.Brackets.{Nested}
use Rattle.regex_syntax.specs.declared.error.ErrorKind.{ErrorKind}
use Rattle.regex_syntax.specs.declared.error.ErrorKind.TheVariants.{OutOfMemory}
use Rattle.regex.specs.Patterns.{Re, find_str, SameCaptures, default_config, Reads, Refuses}
use Rattle.regex.proofs.ForCallers.{is_match_alike}
use Rattle.regex.specs.Failures.{IsRightKind}
use Rattle.regex.specs.Sources.{IsRefusal}
use Rattle.regex.specs.declared.error.Error.{Error}
use Rattle.regex.specs.declared.error.Error.TheVariants.{Syntax}
use Rattle.regex_syntax.specs.declared.error.Error as parser
use Rattle.pattern_core.specs.Search.{tree_of, is_shallow, is_pattern, found_in, matches}

-- the first part of what is read
one : (o : Option (Nested Re × Names)) (hir : Hir) (names : Names) →
    IsSomeAnd o (λ (re, found). (re.depth ≤ default_config.nest_limit) × SameCaptures (meaning hir) re.value × (names ≡ found)
    × (group_count (meaning hir) ≤ length names)) →
    IsSomeAnd (option_map (λ (f : Nested Re × Names). f.0) o) (λ tree. (tree.depth ≤ default_config.nest_limit) × SameCaptures (meaning hir) tree.value)
one None hir names h = absurd h
one (Some x) hir names (deep_enough, same, named, count) = (deep_enough, same)

tree_is : (source : List ℕ) (hir : Hir) (names : Names) → Reads default_config source hir names →
    IsSomeAnd (tree_of source) (λ tree. (tree.depth ≤ default_config.nest_limit) × SameCaptures (meaning hir) tree.value)
unfolding Reads tree_of
tree_is source hir names h = one (read default_config (chars source)) hir names h

le_true : (a b : ℕ) → a ≤ b → nat_le a b ≡ true
le_true a b h = grind (arith, nat_tests)

le_false : (a b : ℕ) → b < a → nat_le a b ≡ false
le_false a b h = grind (arith, nat_tests)

shallow : (o : Option (Nested Re)) (re : Re) → IsSomeAnd o (λ tree. (tree.depth ≤ default_config.nest_limit) × SameCaptures re tree.value) → is_shallow o ≡ true
shallow None re h = absurd h
shallow (Some x) re h = le_true _ _ h.0

pub pattern_read : (source : List ℕ) (hir : Hir) (names : Names) → Reads default_config source hir names → is_pattern source ≡ true
pattern_read source hir names h = shallow (tree_of source) (meaning hir) (tree_is source hir names h)

deep : (o : Option (Nested Re × Names)) → (o ≡ None) ⊎ IfSome o (λ (re, _). default_config.nest_limit < re.depth) →
    is_shallow (option_map (λ (f : Nested Re × Names). f.0) o) ≡ false
deep None h = refl
deep (Some x) (inl h) = absurd cc
deep (Some x) (inr h) = le_false _ _ h

refused : (source : List ℕ) (kind : ErrorKind) → ¬ (kind ≡ OutOfMemory) → Refuses default_config source kind → is_pattern source ≡ false
unfolding Refuses tree_of
refused source kind other (inl h) = absurd (other h)
refused source kind other (inr (inl h)) = deep (read default_config (chars source)) (inl h)
refused source kind other (inr (inr h)) = deep (read default_config (chars source)) (inr h.1)

-- the same of the error that `regex` gives
pub pattern_refused : (source : List ℕ) (error : Error) (e : parser.Error) → error ≡ Syntax e →
    IsRightKind default_config source error → IsRefusal default_config source error → is_pattern source ≡ false
pattern_refused source error e is kind why = refused source e.kind (subst (IsRightKind default_config source) is kind) (why e is)

found_by : (o : Option (Nested Re)) (re : Re) (text : List ℕ) → ((k : ℕ) → get_or text k 0 < 256) →
    IsSomeAnd o (λ tree. (tree.depth ≤ default_config.nest_limit) × SameCaptures re tree.value) → (found : Bool) → found ≡ is_some (find_str re text 0) →
    found ≡ found_in o text
found_by None re text small h found e = absurd h
found_by (Some x) re text small h found e = e ∙ is_match_alike h.1 text small true 0

pub search_found : (source : List ℕ) (hir : Hir) (names : Names) (text : List ℕ) → ((k : ℕ) → get_or text k 0 < 256) →
    Reads default_config source hir names → (found : Bool) → found ≡ is_some (find_str (meaning hir) text 0) → found ≡ matches source text
search_found source hir names text small h found e = found_by (tree_of source) (meaning hir) text small (tree_is source hir names h) found e
