-- The one cause of a gateway response.
use Rattle.std.proofs.Common.{◌≡◌, ℕ, Bool, true, false, cond, not, List, [], ◌∷◌, ◌++◌, map, codes, bytes_eq, Option, Some, None, ap, sym, ◌∙◌, refl}
use Rattle.std.specs.List.{filter, cons_option}
use Rattle.std.proofs.lemmas.List.{map-append}
use Rattle.std.proofs.lemmas.List.Elements.{filter-append}
use Rattle.std.proofs.lemmas.Slice.Eq.{bytes_eq-Decides}
use Rattle.api_mappings.specs.Mappings.{gateway_target}
use Rattle.api_mappings.specs.Names.{is_own_header}
use Rattle.api_parts.specs.declared.parts.Origin.{Origin}
use Rattle.call_facts.specs.Kinds.{kind_name}
use Rattle.call_facts.specs.Pairs.{Pairs}
use Rattle.call_facts.specs.declared.kind.Kind.{Kind}
use Rattle.gateway_answers.specs.Answers.{gateway_answer, headers_in, rule_for}
use Rattle.gateway_answers.specs.Causes.{NamesOneCause, causes_in}
use Rattle.gateway_answers.specs.Headers.{given, given_header, if_written, is_content_type, may_be_written, others}
use Rattle.gateway_answers.specs.Values.{value_of}
use Rattle.gateway_vars.specs.Held.{Failed}
use Rattle.gw_base.specs.Names.{is_token, is_token_byte, same_name}

abbrev cause : List ℕ
cause = codes "x-gateway-cause"

-- what is given names no cause
abbrev IsFree : Option (List ℕ × List ℕ) → Type 0
IsFree None = Unit {0}
IsFree (Some h) = bytes_eq h.0 cause ≡ false

own : (v : List ℕ) → may_be_written (cause, v) ≡ false
unfolding may_be_written gateway_target is_token is_token_byte is_own_header same_name
own v = refl

is_other : (x v : List ℕ) (b : Bool) → bytes_eq x cause ≡ b → may_be_written (x, v) ≡ true → bytes_eq x cause ≡ false
is_other x v false e may = e
is_other x v true e may =
    let same : x ≡ cause = (bytes_eq-Decides x cause).0 e in
    let no : true ≡ false = sym may ∙ ap (λ y. may_be_written (y, v)) same ∙ own v in absurd cc

free_by : (x v : List ℕ) (b : Bool) → may_be_written (x, v) ≡ b → IsFree (cond b (Some (x, v)) None)
free_by x v true e = is_other x v (bytes_eq x cause) refl e
free_by x v false e = tt

free_written : (x : List ℕ) (v : Option (List ℕ)) → IsFree (if_written x v)
free_written x None = tt
free_written x (Some v) = free_by x v (may_be_written (x, v)) refl

passes : (h : List ℕ × List ℕ) (b : Bool) (hs : Pairs) → bytes_eq h.0 cause ≡ false → causes_in (cond b (h ∷ hs) hs) ≡ causes_in hs
passes h false hs e = refl
passes h true hs e = ap (λ c. map (λ (k : List ℕ × List ℕ). k.1) (cond c (h ∷ filter (λ (k : List ℕ × List ℕ). bytes_eq k.0 cause) hs) (filter (λ (k : List ℕ × List ℕ). bytes_eq k.0 cause) hs))) e

after_one : (o : Option (List ℕ × List ℕ)) (hs : Pairs) → IsFree o → causes_in (others (cons_option o hs)) ≡ causes_in (others hs)
after_one None hs free = refl
after_one (Some h) hs free = passes h (not (is_content_type h)) (others hs) free

-- the headers that a rule gives name no cause
none_given : (failed : Failed) (hs : List (List ℕ × Origin)) → causes_in (others (given failed hs)) ≡ []
none_given failed [] = refl
none_given failed (h ∷ hs) = after_one (given_header failed h) (given failed hs) (free_written h.0 (value_of failed h.1)) ∙ none_given failed hs

causes_both : (hs ks : Pairs) → causes_in (hs ++ ks) ≡ causes_in hs ++ causes_in ks
causes_both hs ks =
    ap (map (λ (k : List ℕ × List ℕ). k.1)) (filter-append (λ (k : List ℕ × List ℕ). bytes_eq k.0 cause) hs ks)
    ∙ map-append (λ (k : List ℕ × List ℕ). k.1) (filter (λ (k : List ℕ × List ℕ). bytes_eq k.0 cause) hs) (filter (λ (k : List ℕ × List ℕ). bytes_eq k.0 cause) ks)

names : (kind : Kind) (failed : Failed) (hs : List (List ℕ × Origin)) → causes_in (others (given failed hs) ++ (cause, kind_name kind) ∷ []) ≡ kind_name kind ∷ []
names kind failed hs = causes_both (others (given failed hs)) ((cause, kind_name kind) ∷ []) ∙ ap (λ l. l ++ kind_name kind ∷ []) (none_given failed hs)

pub names_one_cause : NamesOneCause
unfolding gateway_answer
names_one_cause kind message d facts = names kind (record { kind = kind; message = message; facts = facts }) (headers_in (rule_for d kind))
