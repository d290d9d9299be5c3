-- What is read of a list has the names of its members.
use Rattle.std.proofs.Common.{◌≡◌, ℕ, Bool, true, false, cond, List, [], ◌∷◌, ◌++◌, length, map, Option, Some, None, Result, Ok, refl, sym, ap, ◌∙◌, subst, codes}
use Rattle.std.specs.Prelude.{nat_le}
use Rattle.std.specs.List.{All}
use Rattle.std.specs.Option.{option_map}
use Rattle.std.specs.Str.{bytes_eq}
use Rattle.std.proofs.lemmas.List.{map-append}
use Rattle.std.proofs.lemmas.List.Elements.{All-nil, All-push}
use Rattle.json_subset.specs.Documents.{form}
use Rattle.json_subset.specs.Tree.{Tree}
use Rattle.json_values.specs.Parts.{entries_of}
use Rattle.pattern_core.specs.Search.{anchored}
use Rattle.schema_rules.specs.Rules.{Schemas}
use Rattle.api_parts.specs.Reading.{Text, Read, ◌>>=◌, bad, each, needed, unknown, Waiting}
use Rattle.api_parts.specs.declared.parts.TokenAuthorizer.{TokenAuthorizer}
use Rattle.api_parts.specs.declared.parts.Validator.{Validator}
use Rattle.api_parts.proofs.Each.{bind_ok, either, ok_same, each_gathers}
use Rattle.api_reading.specs.Texts.{pattern_in}
use Rattle.api_reading.specs.Values.{number_in, object_in, text_in}
use Rattle.api_reading.proofs.Entries.{object_is}
use Rattle.gw_base.specs.Names.{is_name}
use Rattle.api_members.specs.Authorizers.{IsCompiled, authorizer_in, authorizer_member, authorizer_name, authorizer_of, authorizers_in, authorizers_member, no_authorizer, plain_uri, with_authorizer}
use Rattle.api_members.specs.Models.{Models, model_in, models_from, models_in, models_member}
use Rattle.api_members.specs.Validators.{validator_in, validators_in, validators_member}
use Rattle.api_members.specs.declared.authorizers.AuthorizerRead.{AuthorizerRead}
use Rattle.api_members.specs.declared.authorizers.AuthorizersRead.{AuthorizersRead}

abbrev pub names_of : {A : Type 0} → List (Text × A) → List Text
names_of ms = map (λ m. m.0) ms

-- one more of this name
one_more : {A : Type 0} (name_of : A → Text) (xs : List A) (seen : List (Text × Tree)) (x : A) (t : Tree) → map name_of xs ≡ names_of seen → map name_of (xs ++ x ∷ []) ≡ names_of (seen ++ (name_of x, t) ∷ [])
one_more name_of xs seen x t same =
    map-append name_of xs (x ∷ []) ∙ ap (λ ns. ns ++ name_of x ∷ []) same ∙ sym (map-append (λ (m : Text × Tree). m.0) seen ((name_of x, t) ∷ []))

-- validators

abbrev validator_named : Text × Validator → Text
validator_named v = v.0

abbrev ValidatorsSeen : List (Text × Validator) → List (Text × Tree) → Type 0
ValidatorsSeen vs seen = map validator_named vs ≡ names_of seen

validator_step : (vs : List (Text × Validator)) (seen : List (Text × Tree)) (x : Text) (t : Tree) (h : List (Text × Validator)) → ValidatorsSeen vs seen → validators_member vs x t ≡ Ok h → ValidatorsSeen h (seen ++ (x, t) ∷ [])
validator_step vs seen x t h same e =
    either (ValidatorsSeen h (seen ++ (x, t) ∷ [])) (is_name x) (validator_in x t >>= λ v. Ok (vs ++ (x, v) ∷ [])) (unknown x) h
    (λ is e. let (v, read, last) = bind_ok (validator_in x t) (λ v. Ok (vs ++ (x, v) ∷ [])) h e in
    subst (λ k. ValidatorsSeen k (seen ++ (x, t) ∷ [])) (ok_same (vs ++ (x, v) ∷ []) h last) (one_more validator_named vs seen (x, v) t same))
    (λ no e. absurd cc) e

pub validators_named : (x : Text) (t : Tree) (vs : List (Text × Validator)) → validators_in x t ≡ Ok vs → map validator_named vs ≡ names_of (entries_of (form t))
validators_named x t vs e =
    let (ms, is, last) = bind_ok (object_in x t) (each validators_member []) vs e in
    let same : ValidatorsSeen vs ms = each_gathers validators_member ValidatorsSeen validator_step ms [] [] vs refl last in
    same ∙ ap names_of (object_is x t ms is)

-- models

abbrev model_named : Text × (Schemas × ℕ) → Text
model_named m = m.0

abbrev ModelsSeen : Models → List (Text × Tree) → Type 0
ModelsSeen all seen = map model_named all ≡ names_of seen

model_step : (all : Models) (seen : List (Text × Tree)) (x : Text) (t : Tree) (h : Models) → ModelsSeen all seen → models_member all x t ≡ Ok h → ModelsSeen h (seen ++ (x, t) ∷ [])
model_step all seen x t h same e =
    either (ModelsSeen h (seen ++ (x, t) ∷ [])) (is_name x) (model_in t >>= λ s. Ok (all ++ (x, s) ∷ [])) (unknown x) h
    (λ is e. let (s, read, last) = bind_ok (model_in t) (λ s. Ok (all ++ (x, s) ∷ [])) h e in
    subst (λ k. ModelsSeen k (seen ++ (x, t) ∷ [])) (ok_same (all ++ (x, s) ∷ []) h last) (one_more model_named all seen (x, s) t same))
    (λ no e. absurd cc) e

pub models_named : (x : Text) (t : Tree) (all : Models) → models_in x t ≡ Ok all → map model_named all ≡ names_of (entries_of (form t))
models_named x t all e =
    let (ms, is, last) = bind_ok (object_in x t) (models_from x) all e in
    either (map model_named all ≡ names_of (entries_of (form t))) (nat_le (length ms) 300) (each models_member [] ms) (bad x) all
    (λ few e. let same : ModelsSeen all ms = each_gathers models_member ModelsSeen model_step ms [] [] all refl e in
    same ∙ ap names_of (object_is x t ms is))
    (λ many e. absurd cc) last

-- authorizers, each with its compiled pattern

abbrev ReadCompiled : AuthorizerRead → List (Text × Tree) → Type 0
ReadCompiled a seen = a.whole ≡ option_map anchored a.pattern

compiled_step : (a : AuthorizerRead) (seen : List (Text × Tree)) (x : Text) (t : Tree) (h : AuthorizerRead) → ReadCompiled a seen → authorizer_member a x t ≡ Ok h → ReadCompiled h (seen ++ (x, t) ∷ [])
compiled_step a seen x t h whole e =
    either (ReadCompiled h []) (bytes_eq x (codes "header")) _ _ h
    (λ same e. let (v, is, last) = bind_ok (text_in x t) _ h e in subst (λ k. ReadCompiled k []) (ok_same _ h last) whole)
    (λ no. either (ReadCompiled h []) (bytes_eq x (codes "pattern")) _ _ h
    (λ same e. let (p, is, last) = bind_ok (pattern_in x t) _ h e in subst (λ k. ReadCompiled k []) (ok_same _ h last) refl)
    (λ no. either (ReadCompiled h []) (bytes_eq x (codes "uri")) _ _ h
    (λ same e. let (u, is, more) = bind_ok (text_in x t) _ h e in let (v, plain, last) = bind_ok (plain_uri u) _ h more in subst (λ k. ReadCompiled k []) (ok_same _ h last) whole)
    (λ no. either (ReadCompiled h []) (bytes_eq x (codes "ttl")) _ _ h
    (λ same e. let (n, is, last) = bind_ok (number_in 0 3600 x t) _ h e in subst (λ k. ReadCompiled k []) (ok_same _ h last) whole)
    (λ no. either (ReadCompiled h []) (bytes_eq x (codes "timeout")) _ _ h
    (λ same e. let (n, is, last) = bind_ok (number_in 50 29000 x t) _ h e in subst (λ k. ReadCompiled k []) (ok_same _ h last) whole)
    (λ no e. absurd cc))))) e

abbrev IsFor : Text → TokenAuthorizer × Waiting → Type 0
IsFor x a = (authorizer_name a.0 ≡ x) × IsCompiled a.0

authorizer_is : (x : Text) (t : Tree) (a : TokenAuthorizer × Waiting) → authorizer_in x t ≡ Ok a → IsFor x a
authorizer_is x t a e =
    let (ms, is, more) = bind_ok (object_in x t) (λ ms. each authorizer_member no_authorizer ms >>= authorizer_of x) a e in
    let (r, read, last) = bind_ok (each authorizer_member no_authorizer ms) (authorizer_of x) a more in
    settled r (each_gathers authorizer_member ReadCompiled compiled_step ms [] no_authorizer r refl read) last
  where
    settled : (r : AuthorizerRead) → ReadCompiled r [] → authorizer_of x r ≡ Ok a → IsFor x a
    settled r whole e =
        let (h, is, more) = bind_ok (needed (codes "header") r.header) _ a e in
        let (u, there, last) = bind_ok (needed (codes "uri") r.uri) _ a more in
        subst (IsFor x) (ok_same _ a last) (refl, whole)

pub record AuthorizersSeen (all : AuthorizersRead) (seen : List (Text × Tree)) : Type 0 where
  pub names : map authorizer_name all.list ≡ names_of seen
  pub compiled : All IsCompiled all.list

authorizer_step : (all : AuthorizersRead) (seen : List (Text × Tree)) (x : Text) (t : Tree) (h : AuthorizersRead) → AuthorizersSeen all seen → authorizers_member all x t ≡ Ok h → AuthorizersSeen h (seen ++ (x, t) ∷ [])
authorizer_step all seen x t h so_far e =
    either (AuthorizersSeen h (seen ++ (x, t) ∷ [])) (is_name x) (authorizer_in x t >>= λ a. Ok (with_authorizer all x a)) (unknown x) h
    (λ is e. let (a, read, last) = bind_ok (authorizer_in x t) (λ a. Ok (with_authorizer all x a)) h e in
    subst (λ k. AuthorizersSeen k (seen ++ (x, t) ∷ [])) (ok_same (with_authorizer all x a) h last) (with_one a (authorizer_is x t a read)))
    (λ no e. absurd cc) e
  where
    with_one : (a : TokenAuthorizer × Waiting) → IsFor x a → AuthorizersSeen (with_authorizer all x a) (seen ++ (x, t) ∷ [])
    with_one a is = record {
      names = one_more authorizer_name all.list seen a.0 t so_far.names ∙ ap (λ n. names_of (seen ++ (n, t) ∷ [])) is.0;
      compiled = All-push IsCompiled all.list a.0 so_far.compiled is.1;
    }

pub authorizers_named : (x : Text) (t : Tree) (all : AuthorizersRead) → authorizers_in x t ≡ Ok all → AuthorizersSeen all (entries_of (form t))
authorizers_named x t all e =
    let start : AuthorizersRead = record { list = []; waiting = None } in
    let (ms, is, last) = bind_ok (object_in x t) (each authorizers_member start) all e in
    subst (AuthorizersSeen all) (object_is x t ms is) (each_gathers authorizers_member AuthorizersSeen authorizer_step ms [] start all (record { names = refl; compiled = All-nil IsCompiled }) last)
