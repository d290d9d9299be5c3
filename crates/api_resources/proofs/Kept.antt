-- What a method keeps of what it reads: parameters that its path has, and a `uri` with its pieces.
use Rattle.std.proofs.Common.{◌≡◌, ◌⊎◌, inl, inr, ℕ, Bool, true, false, cond, List, [], ◌∷◌, ◌++◌, Option, Some, None, Result, Ok, Err, refl, sym, ap, ◌∙◌, subst, codes}
use Rattle.std.specs.Prelude.{if◌then◌else◌, IfSome, IsSome, is_some}
use Rattle.std.specs.List.{All}
use Rattle.std.specs.Str.{bytes_eq}
use Rattle.std.proofs.lemmas.List.Elements.{All-nil, All-push}
use Rattle.json_subset.specs.Documents.{form, member_named}
use Rattle.json_subset.specs.Tree.{Tree}
use Rattle.vtl_texts.specs.Places.{behind}
use Rattle.api_parts.specs.Reading.{Text, Read, ◌>>=◌, each, bad, needed, unknown, Waiting, first_of, waiting_below}
use Rattle.api_parts.specs.declared.parts.Integration.{Integration}
use Rattle.api_parts.specs.declared.parts.IntegrationKind.{IntegrationKind}
use Rattle.api_parts.specs.declared.parts.IntegrationKind.TheVariants.{Mock, Http, HttpProxy}
use Rattle.api_parts.specs.declared.parts.Mapping.{Mapping}
use Rattle.api_parts.specs.declared.parts.Method.{Method}
use Rattle.api_parts.specs.declared.parts.Origin.{Origin}
use Rattle.api_parts.specs.declared.parts.Origin.TheVariants as origin
use Rattle.api_parts.specs.declared.parts.Parameter.{Parameter}
use Rattle.api_parts.specs.declared.parts.ParameterPlace.{ParameterPlace}
use Rattle.api_parts.specs.declared.parts.ParameterPlace.TheVariants.{Path, Query, Header}
use Rattle.api_parts.specs.declared.uri.Uri.{Uri}
use Rattle.api_parts.proofs.Each.{bind_ok, either, ok_same, each_gathers}
use Rattle.api_reading.specs.Texts.{templates_in}
use Rattle.api_reading.specs.Values.{flag_in, number_in, object_in, text_in}
use Rattle.api_mappings.specs.Mappings.{Spot, body_by, body_source, from_parameter, has_parameter, if_stands, parameter_of, plain_by, plain_source, quoted, quoted_by, request_by, request_parameter, request_source, spot, stands_in}
use Rattle.gw_base.specs.Names.{is_name}
use Rattle.api_mappings.specs.Names.{is_dotted}
use Rattle.api_mappings.specs.Uris.{uri_of}
use Rattle.resource_tree.specs.Reading.{before_last}
use Rattle.jsonpath_core.specs.Reading.{path_of}
use Rattle.api_resources.specs.Integrations.{inner_row, mappings_row, templates_row, rules_row, integration_in, integration_member, integration_of, integration_row, is_verb, kind_of, made, may_have, no_integration, passthrough_in, verb_in, with_backend, with_uri}
use Rattle.api_resources.specs.Mapped.{mappings_in, mappings_member, source_of, target_of, with_mapping}
use Rattle.api_resources.specs.Methods.{inner_member, parameters_member_in, models_member_in, integration_member_in, method_in, method_member, method_of, named_models_in, no_method, number_among, parameters_in, parameters_member, with_authorizer, with_parameter, with_validator}
use Rattle.api_resources.specs.Rules.{rules_in}
use Rattle.api_resources.specs.Taken.{ComesFromPath, HasBackend, IsOfPath, KeepsToPath, ReadsUri}
use Rattle.api_resources.specs.declared.integrations.IntegrationRead.{IntegrationRead}
use Rattle.api_resources.specs.declared.mapped.MappingsRead.{MappingsRead}
use Rattle.api_resources.specs.declared.mapped.Side.{Side}
use Rattle.api_resources.specs.declared.mapped.Side.TheVariants.{Request, Response}
use Rattle.api_resources.specs.declared.methods.MethodRead.{MethodRead}
use Rattle.api_resources.specs.declared.methods.ParametersRead.{ParametersRead}

-- a parameter that a path has

module _ (path : Text) where
  -- what stands in the path is one of its parameters
  abbrev IsSpotOf : Spot → Type 0
  IsSpotOf s = s.0 ≡ Path → has_parameter path s.1 ≡ true

  spot_stands : (s : Spot) → stands_in path s ≡ true → IsSpotOf s
  spot_stands (Path, name) e is = e
  spot_stands (Query, name) e is = absurd cc
  spot_stands (Header, name) e is = absurd cc

  if_stands_is : (o : Option Spot) (s : Spot) → if_stands path o ≡ Some s → IsSpotOf s
  if_stands_is None s e = absurd cc
  if_stands_is (Some r) s e = by_test (stands_in path r) refl e
    where
      by_test : (b : Bool) → stands_in path r ≡ b → (if b then Some r else None) ≡ Some s → IsSpotOf s
      by_test true is e =
          let same : r ≡ s = cc in
          subst IsSpotOf same (spot_stands r is)
      by_test false is e = absurd cc

  parameter_is : (x : Text) (s : Spot) → parameter_of path x ≡ Some s → IsSpotOf s
  unfolding parameter_of
  parameter_is x s e = if_stands_is (request_parameter x) s e

  -- the parameters of a method
  abbrev Parameters : ParametersRead → List (Text × Tree) → Type 0
  Parameters ps seen = All (IsOfPath path) ps.list

  parameter_step : (ps : ParametersRead) (seen : List (Text × Tree)) (x : Text) (t : Tree) (h : ParametersRead) → Parameters ps seen → parameters_member path ps x t ≡ Ok h → Parameters h (seen ++ (x, t) ∷ [])
  parameter_step ps seen x t h all e =
      let (required, is, last) = bind_ok (flag_in x t) (λ required. Ok (with_parameter ps x required (parameter_of path x))) h e in
      subst (λ k. Parameters k (seen ++ (x, t) ∷ [])) (ok_same (with_parameter ps x required (parameter_of path x)) h last) (by_spot required (parameter_of path x) refl)
    where
      by_spot : (required : Bool) (o : Option Spot) → parameter_of path x ≡ o → Parameters (with_parameter ps x required o) (seen ++ (x, t) ∷ [])
      by_spot required (Some s) is = All-push (IsOfPath path) ps.list (record { place = s.0; name = s.1; required = required }) all (parameter_is x s is)
      by_spot required None is = all

  parameters_are : (x : Text) (t : Tree) (ps : ParametersRead) → parameters_in path x t ≡ Ok ps → All (IsOfPath path) ps.list
  parameters_are x t ps e =
      let start : ParametersRead = record { list = []; waiting = None } in
      let (ms, is, last) = bind_ok (object_in x t) (each (parameters_member path) start) ps e in
      each_gathers (parameters_member path) Parameters parameter_step ms [] start ps (All-nil (IsOfPath path)) last

  -- what is mapped
  abbrev IsOriginOf : Origin → Type 0
  IsOriginOf o = (name : Text) → o ≡ origin.Parameter Path name → has_parameter path name ≡ true

  from_is : (o : Option Spot) (r : Origin) → ((s : Spot) → o ≡ Some s → IsSpotOf s) → from_parameter o ≡ Some r → IsOriginOf r
  from_is None r spots e name is = absurd cc
  from_is (Some s) r spots e name is =
      let same : origin.Parameter s.0 s.1 ≡ r = cc in
      let there : origin.Parameter s.0 s.1 ≡ origin.Parameter Path name = same ∙ is in
      let place : s.0 ≡ Path = cc in
      let named : s.1 ≡ name = cc in
      subst (λ n. has_parameter path n ≡ true) named (spots s refl place)

  body_is : (rest : Text) (r : Origin) → body_source rest ≡ Some r → IsOriginOf r
  unfolding body_source
  body_is rest r e name is = by_path (path_of (codes "$." ++ rest)) e
    where
      by_path : (q : Result _ _) → body_by q ≡ Some r → has_parameter path name ≡ true
      by_path (Ok steps) e = absurd cc
      by_path (Err f) e = absurd cc

  plain_is : (text : Text) (r : Origin) → plain_source text ≡ Some r → IsOriginOf r
  unfolding plain_source
  plain_is text r e name is = by_fronts (behind (codes "context.") text) (behind (codes "stageVariables.") text) e
    where
      by_quoted : (o : Option Text) → quoted_by o ≡ Some r → has_parameter path name ≡ true
      by_quoted None e = absurd cc
      by_quoted (Some inner) e = absurd cc

      by_rest : (o : Option Text) → quoted o ≡ Some r → has_parameter path name ≡ true
      by_rest None e = absurd cc
      by_rest (Some rest) e = by_quoted (before_last 39 rest) e

      by_test : (b : Bool) (o : Origin) → (o ≡ origin.Parameter Path name → ⊥) → (if b then Some o else None) ≡ Some r → has_parameter path name ≡ true
      by_test true o never e =
          let same : o ≡ r = cc in
          absurd (never (same ∙ is))
      by_test false o never e = absurd cc

      by_fronts : (a b : Option Text) → plain_by text a b ≡ Some r → has_parameter path name ≡ true
      by_fronts (Some x) b e = by_test (is_dotted x) (origin.Context x) (λ f. absurd cc) e
      by_fronts None (Some x) e = by_test (is_name x) (origin.StageVariable x) (λ f. absurd cc) e
      by_fronts None None e = by_rest (behind (codes "'") text) e

  source_is : (text : Text) (r : Origin) → request_source path text ≡ Some r → IsOriginOf r
  unfolding request_source
  source_is text r e = by_fronts (behind (codes "method.request.body.") text) (behind (codes "method.request.") text) e
    where
      by_fronts : (a b : Option Text) → request_by path text a b ≡ Some r → IsOriginOf r
      by_fronts (Some rest) b e = body_is rest r e
      by_fronts None (Some rest) e = from_is (if_stands path (spot rest)) r (λ s is. if_stands_is (spot rest) s is) e
      by_fronts None None e = plain_is text r e

  abbrev Mappings : MappingsRead → List (Text × Tree) → Type 0
  Mappings ms seen = All (ComesFromPath path) ms.list

  mapping_step : (ms : MappingsRead) (seen : List (Text × Tree)) (x : Text) (t : Tree) (h : MappingsRead) → Mappings ms seen → mappings_member Request path ms x t ≡ Ok h → Mappings h (seen ++ (x, t) ∷ [])
  mapping_step ms seen x t h all e =
      let (s, is, last) = bind_ok (text_in x t) (λ s. Ok (with_mapping ms x (target_of Request x) (source_of Request path s))) h e in
      subst (λ k. Mappings k (seen ++ (x, t) ∷ [])) (ok_same (with_mapping ms x (target_of Request x) (source_of Request path s)) h last) (by_both (target_of Request x) (source_of Request path s) (source_is s))
    where
      by_both : (o : Option Spot) (q : Option Origin) → ((r : Origin) → q ≡ Some r → IsOriginOf r) → Mappings (with_mapping ms x o q) (seen ++ (x, t) ∷ [])
      by_both (Some s) (Some r) of = All-push (ComesFromPath path) ms.list (record { place = s.0; name = s.1; origin = r }) all (of r refl)
      by_both (Some s) None of = all
      by_both None q of = all

  mappings_are : (x : Text) (t : Tree) (ms : MappingsRead) → mappings_in Request path x t ≡ Ok ms → All (ComesFromPath path) ms.list
  mappings_are x t ms e =
      let start : MappingsRead = record { list = []; waiting = None } in
      let (all, is, last) = bind_ok (object_in x t) (each (mappings_member Request path) start) ms e in
      each_gathers (mappings_member Request path) Mappings mapping_step all [] start ms (All-nil (ComesFromPath path)) last

  -- an integration so far
  abbrev ReadsAt : Option (Text × Uri) → Type 0
  ReadsAt None = Unit {0}
  ReadsAt (Some u) = uri_of u.0 ≡ Some u.1

  abbrev Integrations : IntegrationRead → List (Text × Tree) → Type 0
  Integrations i seen = All (ComesFromPath path) i.parameters × ReadsAt i.uri

  uri_step : (ps : Option Tree) (i : IntegrationRead) (x u : Text) (h : IntegrationRead) (o : Option Uri) → uri_of u ≡ o → Integrations i [] → with_uri ps i x u o ≡ Ok h → Integrations h []
  uri_step ps i x u h None is all e = absurd cc
  uri_step ps i x u h (Some backend) is all e = subst (λ k. Integrations k []) (ok_same _ h e) (all.0, is)

  inner_step : (i : IntegrationRead) (x : Text) (t : Tree) (h : IntegrationRead) → Integrations i [] → inner_row path i x t ≡ Ok h → Integrations h []
  unfolding mappings_row templates_row rules_row
  inner_step i x t h all e =
      either (Integrations h []) (bytes_eq x (codes "parameters")) _ _ h
      (λ same e. let (ms, is, last) = bind_ok (mappings_in Request path x t) _ h e in
      subst (λ k. Integrations k []) (ok_same _ h last) (mappings_are x t ms is, all.1))
      (λ no. either (Integrations h []) (bytes_eq x (codes "templates")) _ _ h
      (λ same e. let (ts, is, last) = bind_ok (templates_in x t) _ h e in
      subst (λ k. Integrations k []) (ok_same _ h last) all)
      (λ no. either (Integrations h []) (bytes_eq x (codes "responses")) _ _ h
      (λ same e. let (rs, is, last) = bind_ok (rules_in x t) _ h e in
      subst (λ k. Integrations k []) (ok_same _ h last) all)
      (λ no. either (Integrations h []) (bytes_eq x (codes "timeout")) _ _ h
      (λ same e. let (n, is, last) = bind_ok (number_in 50 29000 x t) _ h e in
      subst (λ k. Integrations k []) (ok_same _ h last) all)
      (λ no e. absurd cc)))) e

  row_step : (kind : Option IntegrationKind) (ps : Option Tree) (i : IntegrationRead) (x : Text) (t : Tree) (h : IntegrationRead) → Integrations i [] → integration_row kind ps path i x t ≡ Ok h → Integrations h []
  row_step kind ps i x t h all e =
      either (Integrations h []) (bytes_eq x (codes "type")) _ _ h (λ same e. by_kind kind e)
      (λ no. either (Integrations h []) (bytes_eq x (codes "method")) _ _ h
      (λ same e. let (m, is, last) = bind_ok (verb_in x t) _ h e in
      subst (λ k. Integrations k []) (ok_same _ h last) all)
      (λ no. either (Integrations h []) (bytes_eq x (codes "uri")) _ _ h
      (λ same e. let (u, is, last) = bind_ok (text_in x t) (λ u. with_uri ps i x u (uri_of u)) h e in
      uri_step ps i x u h (uri_of u) refl all last)
      (λ no. either (Integrations h []) (bytes_eq x (codes "passthrough")) _ _ h
      (λ same e. let (p, is, last) = bind_ok (passthrough_in x t) _ h e in
      subst (λ k. Integrations k []) (ok_same _ h last) all)
      (λ no e. inner_step i x t h all e)))) e
    where
      by_kind : (kind : Option IntegrationKind) → (if is_some kind then Ok i else bad x) ≡ Ok h → Integrations h []
      by_kind (Some k) e = subst (λ k. Integrations k []) (ok_same i h e) all
      by_kind None e = absurd cc

  member_step : (kind : Option IntegrationKind) (ps : Option Tree) (i : IntegrationRead) (seen : List (Text × Tree)) (x : Text) (t : Tree) (h : IntegrationRead) → Integrations i seen → integration_member kind ps path i x t ≡ Ok h
      → Integrations h (seen ++ (x, t) ∷ [])
  member_step kind ps i seen x t h all e =
      either (Integrations h []) (may_have kind x) _ _ h (λ may e. row_step kind ps i x t h all e) (λ no e. absurd cc) e

  -- an integration in the end
  abbrev IsKept : Integration × Waiting → Type 0
  IsKept i = All (ComesFromPath path) i.0.parameters × ReadsUri i.0

  backend_kept : (kind : IntegrationKind) (i : IntegrationRead) (m : Text) (u : Text × Uri) → All (ComesFromPath path) i.parameters → uri_of u.0 ≡ Some u.1 → IsKept (made kind i m u.0 (Some u.1)) ⊎ (kind ≡ Mock)
  backend_kept Mock i m u all is = inr refl
  backend_kept Http i m u all is = inl (all, (sym is, refl))
  backend_kept HttpProxy i m u all is = inl (all, (sym is, refl))

  with_backend_kept : (kind : IntegrationKind) (i : IntegrationRead) (r : Integration × Waiting) → (kind ≡ Mock → ⊥) → Integrations i [] → with_backend kind i ≡ Ok r → IsKept r
  with_backend_kept kind i r never all e =
      let (m, is, more) = bind_ok (needed (codes "method") i.method) _ r e in
      let (u, there, last) = bind_ok (needed (codes "uri") i.uri) _ r more in
      subst IsKept (ok_same _ r last) (by_uri m u (there_is i.uri u there))
    where
      there_is : (o : Option (Text × Uri)) (u : Text × Uri) → needed (codes "uri") o ≡ Ok u → o ≡ Some u
      there_is None u e = absurd cc
      there_is (Some v) u e = cc

      by_uri : (m : Text) (u : Text × Uri) → i.uri ≡ Some u → IsKept (made kind i m u.0 (Some u.1))
      by_uri m u is = elim (backend_kept kind i m u all.0 (subst ReadsAt is all.1)) [ inl k ↦ k | inr mock ↦ absurd (never mock) ]

  integration_kept : (kind : Option IntegrationKind) (i : IntegrationRead) (r : Integration × Waiting) → Integrations i [] → integration_of kind i ≡ Ok r → IsKept r
  integration_kept None i r all e = absurd cc
  integration_kept (Some Mock) i r all e = subst IsKept (ok_same _ r e) (all.0, refl)
  integration_kept (Some Http) i r all e = with_backend_kept Http i r (λ f. absurd cc) all e
  integration_kept (Some HttpProxy) i r all e = with_backend_kept HttpProxy i r (λ f. absurd cc) all e

  integration_is : (x : Text) (t : Tree) (r : Integration × Waiting) → integration_in path x t ≡ Ok r → IsKept r
  unfolding integration_in
  integration_is x t r e =
      let kind = kind_of t in
      let ps = member_named (form t) (codes "parameters") in
      let (ms, is, more) = bind_ok (object_in x t) (λ ms. each (integration_member kind ps path) no_integration ms >>= integration_of kind) r e in
      let (i, read, last) = bind_ok (each (integration_member kind ps path) no_integration ms) (integration_of kind) r more in
      integration_kept kind i r (each_gathers (integration_member kind ps path) Integrations (member_step kind ps) ms [] no_integration i (All-nil (ComesFromPath path), tt) read) last

  -- a method so far
  abbrev HasKept : Option Integration → Type 0
  HasKept None = Unit {0}
  HasKept (Some i) = All (ComesFromPath path) i.parameters × ReadsUri i

  abbrev Methods : MethodRead → List (Text × Tree) → Type 0
  Methods m seen = All (IsOfPath path) m.parameters × HasKept m.integration

  with_authorizer_kept : (m : MethodRead) (x name : Text) (o : Option ℕ) → Methods m [] → Methods (with_authorizer m x name o) []
  with_authorizer_kept m x name (Some n) all = all
  with_authorizer_kept m x name None all = all

  with_validator_kept : (m : MethodRead) (x name : Text) (o : Option ℕ) → Methods m [] → Methods (with_validator m x name o) []
  with_validator_kept m x name (Some n) all = all
  with_validator_kept m x name None all = all

  module _ (document : Tree) where
    inner_member_step : (m : MethodRead) (x : Text) (t : Tree) (h : MethodRead) → Methods m [] → inner_member document path m x t ≡ Ok h → Methods h []
    unfolding parameters_member_in models_member_in integration_member_in
    inner_member_step m x t h all e =
        either (Methods h []) (bytes_eq x (codes "parameters")) _ _ h
        (λ same e. let (ps, is, last) = bind_ok (parameters_in path x t) _ h e in
        subst (λ k. Methods k []) (ok_same _ h last) (parameters_are x t ps is, all.1))
        (λ no. either (Methods h []) (bytes_eq x (codes "models")) _ _ h
        (λ same e. let (ms, is, last) = bind_ok (named_models_in document x t) _ h e in
        subst (λ k. Methods k []) (ok_same _ h last) all)
        (λ no. either (Methods h []) (bytes_eq x (codes "integration")) _ _ h
        (λ same e. let (i, is, last) = bind_ok (integration_in path x t) _ h e in
        subst (λ k. Methods k []) (ok_same _ h last) (all.0, integration_is x t i is))
        (λ no e. absurd cc))) e

    method_member_step : (m : MethodRead) (seen : List (Text × Tree)) (x : Text) (t : Tree) (h : MethodRead) → Methods m seen → method_member document path m x t ≡ Ok h → Methods h (seen ++ (x, t) ∷ [])
    method_member_step m seen x t h all e =
        either (Methods h []) (bytes_eq x (codes "apiKeyRequired")) _ _ h
        (λ same e. let (b, is, last) = bind_ok (flag_in x t) _ h e in
        subst (λ k. Methods k []) (ok_same _ h last) all)
        (λ no. either (Methods h []) (bytes_eq x (codes "authorizer")) _ _ h
        (λ same e. let (name, is, last) = bind_ok (text_in x t) _ h e in
        subst (λ k. Methods k []) (ok_same _ h last) (with_authorizer_kept m x name (number_among document (codes "authorizers") name) all))
        (λ no. either (Methods h []) (bytes_eq x (codes "validator")) _ _ h
        (λ same e. let (name, is, last) = bind_ok (text_in x t) _ h e in
        subst (λ k. Methods k []) (ok_same _ h last) (with_validator_kept m x name (number_among document (codes "validators") name) all))
        (λ no e. inner_member_step m x t h all e))) e

    -- and in the end
    pub method_kept : (verb : Text) (t : Tree) (m : Method) (w : Waiting) → method_in document path verb t ≡ Ok (m, w) → KeepsToPath path m × ReadsUri m.integration
    method_kept verb t m w e =
        let (ms, is, more) = bind_ok (object_in verb t) (λ ms. each (method_member document path) no_method ms >>= method_of verb) (m, w) e in
        let (r, read, last) = bind_ok (each (method_member document path) no_method ms) (method_of verb) (m, w) more in
        settled r last (each_gathers (method_member document path) Methods method_member_step ms [] no_method r (All-nil (IsOfPath path), tt) read)
      where
        there_is : (o : Option Integration) (i : Integration) → needed (codes "integration") o ≡ Ok i → o ≡ Some i
        there_is None i e = absurd cc
        there_is (Some j) i e = cc

        settled : (r : MethodRead) → method_of verb r ≡ Ok (m, w) → Methods r [] → KeepsToPath path m × ReadsUri m.integration
        settled r e all =
            let (i, is, last) = bind_ok (needed (codes "integration") r.integration) _ (m, w) e in
            let kept : HasKept (Some i) = subst HasKept (there_is r.integration i is) all.1 in
            let same = ap (λ (p : Method × Waiting). p.0) (ok_same _ (m, w) last) in
            subst (λ (k : Method). KeepsToPath path k × ReadsUri k.integration) same (record { parameters = all.0; mappings = kept.0 }, kept.1)
