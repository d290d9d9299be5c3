-- What holds of routes.
use Rattle.std.proofs.Common.{◌≡◌, ℕ, ◌<◌, ◌≤◌, Bool, true, false, List, length, get_or, refl, ap, sym, ◌∙◌, subst, arith, Option, Some, None, ◌⊎◌, inl, inr}
use Rattle.std.specs.Prelude.{codes, slice_get, if◌then◌else◌}
use Rattle.std.specs.Option.{option_and_then}
use Rattle.std.proofs.lemmas.List.{length-map}
use Rattle.std.proofs.lemmas.Option.{slice_get_cases}
use Rattle.resource_tree.specs.Matching.{MatchesNone}
use Rattle.resource_tree.specs.Parameters.{value_at}
use Rattle.resource_tree.specs.declared.found.Found.{Found}
use Rattle.api_model.specs.Definition.{Definition, parts_of}
use Rattle.api_model.specs.Getters.{entry_of, or_second}
use Rattle.api_parts.specs.declared.parts.Resource.{Resource}
use Rattle.method_checks.specs.Best.{best}
use Rattle.method_checks.specs.Routing.{paths_of, method_at, found_at, with_method, with_resource, route_by, route_of}
use Rattle.method_checks.specs.Segments.{segments_of}
use Rattle.method_checks.specs.Laws.{HitsTheBest, LacksEntry, MissesWithCause, PrefersOwnEntry}
use Rattle.method_checks.specs.declared.routes.Route.{Route}
use Rattle.method_checks.specs.declared.routes.Route.TheVariants.{TextApi, Hit, Missing}
use Rattle.method_checks.proofs.Least.{tells_best}

no_method : (found : Found) (o : Option ℕ) → with_method found o ≡ Missing → o ≡ None
no_method found None e = refl
no_method found (Some m) e = absurd (cc)

neither : (a b : Option ℕ) → or_second a b ≡ None → (a ≡ None) × (b ≡ None)
neither None b e = (refl, e)
neither (Some m) b e = absurd (cc)

both_none : (a b : Option ℕ) → a ≡ None → b ≡ None → or_second a b ≡ None
both_none a b e f = rw e f

count : (d : Definition) → length (paths_of d) ≡ length (parts_of d).resources
unfolding paths_of
count d = length-map (parts_of d).resources _

within : (d : Definition) (segments : List (List ℕ)) (at : ℕ) → best (paths_of d) segments ≡ Some at → at < length (parts_of d).resources
within d segments at is = subst (λ n. at < n) (count d) ((tells_best (paths_of d) segments).found at is).within

inside : (resources : List Resource) (at : ℕ) → at < length resources → slice_get resources at ≡ None → ((r : Resource) × (at < length resources) × (slice_get resources at ≡ Some r) × (get_or resources at r ≡ r)) ⊎ ((length resources ≤ at) × (slice_get resources at ≡ None)) → ⊥
inside resources at below none (inl found) = let no_some : Some found.0 ≡ None = sym found.2 ∙ none in absurd (cc)
inside resources at below none (inr past) = absurd (omega (arith, past.0))

never_none : (resources : List Resource) (at : ℕ) → at < length resources → slice_get resources at ≡ None → ⊥
never_none resources at below none = inside resources at below none (slice_get_cases resources at).1

lacks_at : (d : Definition) (verb : List ℕ) (segments : List (List ℕ)) (at : ℕ) (o : Option Resource) → best (paths_of d) segments ≡ Some at → slice_get (parts_of d).resources at ≡ o
    → option_and_then (λ (r : Resource). entry_of r.verbs verb) o ≡ None → LacksEntry d verb segments
lacks_at d verb segments at None is stands e = absurd (never_none (parts_of d).resources at (within d segments at is) stands)
lacks_at d verb segments at (Some r) is stands e =
    let none = neither (value_at r.verbs verb) (value_at r.verbs (codes "ANY")) e in
    record { at = at; chosen = is; resource = r; stands = stands; own = none.0; any = none.1 }

cause_of : (d : Definition) (verb : List ℕ) (segments : List (List ℕ)) (o : Option ℕ) → best (paths_of d) segments ≡ o → with_resource d verb segments o ≡ Missing → MatchesNone (paths_of d) segments ⊎ LacksEntry d verb segments
cause_of d verb segments None is e = inl ((tells_best (paths_of d) segments).none.0 is)
cause_of d verb segments (Some at) is e = inr (lacks_at d verb segments at (slice_get (parts_of d).resources at) is refl (no_method (found_at d segments at) (method_at d at verb) e))

has_cause : (d : Definition) (verb : List ℕ) (segments : List (List ℕ)) → route_by d verb segments ≡ Missing → MatchesNone (paths_of d) segments ⊎ LacksEntry d verb segments
unfolding route_by
has_cause d verb segments e = cause_of d verb segments (best (paths_of d) segments) refl e

by_cause : (d : Definition) (verb : List ℕ) (segments : List (List ℕ)) → MatchesNone (paths_of d) segments ⊎ LacksEntry d verb segments → route_by d verb segments ≡ Missing
unfolding route_by
by_cause d verb segments (inl none) = ap (with_resource d verb segments) ((tells_best (paths_of d) segments).none.1 none)
by_cause d verb segments (inr l) =
    ap (with_resource d verb segments) l.chosen
    ∙ ap (λ (o : Option Resource). with_method (found_at d segments l.at) (option_and_then (λ (r : Resource). entry_of r.verbs verb) o)) l.stands
    ∙ ap (with_method (found_at d segments l.at)) (both_none (value_at l.resource.verbs verb) (value_at l.resource.verbs (codes "ANY")) l.own l.any)

text_or : (b : Bool) (route : Route) → (if b then TextApi else route) ≡ Missing → (b ≡ false) × (route ≡ Missing)
text_or true route e = absurd (cc)
text_or false route e = (refl, e)

pub misses_with_cause : MissesWithCause
unfolding route_of
misses_with_cause d request target = (
  λ e. let parts = text_or d.is_text (route_by d request.method (segments_of target.path)) e in (parts.0, has_cause d request.method (segments_of target.path) parts.1),
  λ h. ap (λ (b : Bool). if b then TextApi else route_by d request.method (segments_of target.path)) h.0 ∙ by_cause d request.method (segments_of target.path) h.1,
)

-- what is hit is the method of the resource that is found
by_hit : (d : Definition) (verb : List ℕ) (found made : Found) (method : ℕ) (o : Option ℕ) → method_at d made.resource verb ≡ o → with_method made o ≡ Hit found method → method_at d found.resource verb ≡ Some method
by_hit d verb found made method None is e = absurd (cc)
by_hit d verb found made method (Some m) is e =
    let same : made ≡ found = cc in
    let number : m ≡ method = cc in
    subst (λ (f : Found). method_at d f.resource verb ≡ Some method) same (is ∙ ap Some number)

hit_by : (d : Definition) (verb : List ℕ) (segments : List (List ℕ)) (found : Found) (method : ℕ) (o : Option ℕ) → with_resource d verb segments o ≡ Hit found method → method_at d found.resource verb ≡ Some method
hit_by d verb segments found method None e = absurd (cc)
hit_by d verb segments found method (Some at) e = by_hit d verb found (found_at d segments at) method (method_at d at verb) refl e

is_hit : (d : Definition) (verb : List ℕ) (segments : List (List ℕ)) (found : Found) (method : ℕ) → route_by d verb segments ≡ Hit found method → method_at d found.resource verb ≡ Some method
unfolding route_by
is_hit d verb segments found method e = hit_by d verb segments found method (best (paths_of d) segments) e

no_text : (b : Bool) (route : Route) (found : Found) (method : ℕ) → (if b then TextApi else route) ≡ Hit found method → route ≡ Hit found method
no_text true route found method e = absurd (cc)
no_text false route found method e = e

first_counts : (a b : Option ℕ) (own method : ℕ) → a ≡ Some own → or_second a b ≡ Some method → method ≡ own
first_counts None b own method e f = absurd (cc)
first_counts (Some m) b own method e f = cc

pub prefers_own : PrefersOwnEntry
unfolding route_of
prefers_own d request target found method own r e stands is =
    let there = is_hit d request.method (segments_of target.path) found method (no_text d.is_text _ found method e) in
    let entry : entry_of r.verbs request.method ≡ Some method = sym (ap (λ (o : Option Resource). option_and_then (λ (x : Resource). entry_of x.verbs request.method) o) stands) ∙ there in
    first_counts (value_at r.verbs request.method) (value_at r.verbs (codes "ANY")) own method is entry

-- the resource that is hit was chosen
made_is : (made found : Found) (method : ℕ) (o : Option ℕ) → with_method made o ≡ Hit found method → made ≡ found
made_is made found method None e = absurd (cc)
made_is made found method (Some m) e = cc

chosen_by : (d : Definition) (verb : List ℕ) (segments : List (List ℕ)) (found : Found) (method : ℕ) (o : Option ℕ) → with_resource d verb segments o ≡ Hit found method
    → (o ≡ Some found.resource) × (found ≡ found_at d segments found.resource)
chosen_by d verb segments found method None e = absurd (cc)
chosen_by d verb segments found method (Some at) e =
    let made : found_at d segments at ≡ found = made_is (found_at d segments at) found method (method_at d at verb) e in
    let place : at ≡ found.resource = ap (λ (f : Found). f.resource) made in
    (ap Some place, sym made ∙ ap (found_at d segments) place)

chosen : (d : Definition) (verb : List ℕ) (segments : List (List ℕ)) (found : Found) (method : ℕ) → route_by d verb segments ≡ Hit found method
    → (best (paths_of d) segments ≡ Some found.resource) × (found ≡ found_at d segments found.resource)
unfolding route_by
chosen d verb segments found method e = chosen_by d verb segments found method (best (paths_of d) segments) e

pub hits_the_best : HitsTheBest
unfolding route_of
hits_the_best d request target found method e =
    let is = chosen d request.method (segments_of target.path) found method (no_text d.is_text _ found method e) in
    ((tells_best (paths_of d) (segments_of target.path)).found found.resource is.0, is.1)
