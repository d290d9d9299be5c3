-- Answers that come of a backend's reply name no cause.
use Rattle.std.proofs.Common.{◌≡◌, ℕ, Bool, true, false, cond, not, ◌&&◌, List, [], ◌∷◌, map, codes, bytes_eq, All, Option, Ok, Err, ap, sym, ◌∙◌, refl, arith}
use Rattle.std.specs.List.{filter, list_all}
use Rattle.std.proofs.lemmas.List.Elements.{All-tail}
use Rattle.std.proofs.lemmas.Slice.Eq.{bytes_eq-Decides}
use Rattle.api_mappings.specs.Mappings.{gateway_target}
use Rattle.api_mappings.specs.Names.{is_own_header}
use Rattle.api_parts.specs.declared.parts.ResponseRule.{ResponseRule}
use Rattle.call_facts.specs.Pairs.{Pairs}
use Rattle.call_facts.specs.declared.answer.Answer.{Answer}
use Rattle.call_facts.specs.declared.facts.CallFacts.{CallFacts}
use Rattle.call_facts.specs.declared.request.Request.{Request}
use Rattle.call_facts.specs.declared.request.WireReply.{WireReply}
use Rattle.call_facts.specs.declared.target.Target.{Target}
use Rattle.gateway_answers.specs.Causes.{causes_in}
use Rattle.gateway_answers.specs.Headers.{is_content_type, may_be_written}
use Rattle.gateway_vars.specs.Held.{Held, replied}
use Rattle.gw_base.specs.Names.{is_token, is_token_byte, same_name}
use Rattle.integration_flow.specs.Answers.{answer_at, answer_by, answer_from, answer_with, are_writable, client_of, if_writable, rendered_media, status_over, written}
use Rattle.integration_flow.specs.Headers.{content_type, mapped, replaced, typed, without, without_first, written_over}
use Rattle.integration_flow.specs.Stopping.{Flow}
use Rattle.integration_flow.specs.declared.written.Written.{Written}
use Rattle.media_types.specs.MediaTypes.{media_type}
use Rattle.resource_tree.specs.Parameters.{value_at}
use Rattle.resource_tree.specs.declared.found.Found.{Found}
use Rattle.wire_text.specs.Passing.{held_back, is_among, proxied}
use Rattle.wire_text.proofs.Passed.{never_passed_on}

abbrev Header : Type 0
Header = List ℕ × List ℕ

abbrev cause : List ℕ
cause = codes "x-gateway-cause"

abbrev IsFree : Header → Type 0
IsFree h = bytes_eq h.0 cause ≡ false

abbrev pub AreFree : Pairs → Type 0
AreFree [] = Unit {0}
AreFree (h ∷ hs) = IsFree h × AreFree hs

-- then they name none
pub none_named : (hs : Pairs) → AreFree hs → causes_in hs ≡ []
none_named [] free = refl
none_named (h ∷ hs) (first, free) =
    ap (λ c. map (λ (k : Header). k.1) (cond c (h ∷ filter (λ (k : Header). bytes_eq k.0 cause) hs) (filter (λ (k : Header). bytes_eq k.0 cause) hs))) first ∙ none_named hs free

-- a header that may be written is none of the gateway's own
own : (v : List ℕ) → may_be_written (cause, v) ≡ false
unfolding may_be_written gateway_target is_token is_token_byte is_own_header same_name
own v = refl

other_by : (x v : List ℕ) (b : Bool) → bytes_eq x cause ≡ b → may_be_written (x, v) ≡ true → bytes_eq x cause ≡ false
other_by x v false e may = e
other_by x v true e may =
    let same : x ≡ cause = (bytes_eq-Decides x cause).0 e in
    let no : true ≡ false = sym may ∙ ap (λ y. may_be_written (y, v)) same ∙ own v in absurd cc

free_written : (h : Header) → may_be_written h ≡ true → IsFree h
free_written h may = other_by h.0 h.1 (bytes_eq h.0 cause) refl may

and_parts : (a b : Bool) → (a && b) ≡ true → (a ≡ true) × (b ≡ true)
and_parts true b e = (refl, e)
and_parts false b e = absurd cc

all_parts : (x : Bool) (h : Header) (hs : Pairs) → may_be_written h ≡ x → list_all may_be_written (h ∷ hs) ≡ true → (may_be_written h ≡ true) × (list_all may_be_written hs ≡ true)
all_parts x h hs is all = and_parts (may_be_written h) (list_all may_be_written hs) all

pub all_free : (hs : Pairs) → are_writable hs ≡ true → AreFree hs
all_free [] all = tt
all_free (h ∷ hs) all = let parts = all_parts (may_be_written h) h hs refl all in (free_written h parts.0, all_free hs parts.1)

kept_free : (b : Bool) (h : Header) (hs : Pairs) → IsFree h → AreFree hs → AreFree (cond b (h ∷ hs) hs)
kept_free true h hs first free = (first, free)
kept_free false h hs first free = free

without_free : (hs : Pairs) (x : List ℕ) → AreFree hs → AreFree (without hs x)
without_free [] x free = tt
without_free (h ∷ hs) x (first, free) = kept_free (not (same_name h.0 x)) h (without hs x) first (without_free hs x free)

replaced_by : (b : Bool) (h o : Header) (hs more : Pairs) → IsFree h → IsFree o → AreFree hs → AreFree more → AreFree (cond b (o ∷ hs) (h ∷ more))
replaced_by true h o hs more first over free then = (over, free)
replaced_by false h o hs more first over free then = (first, then)

replaced_free : (hs : Pairs) (o : Header) → AreFree hs → IsFree o → AreFree (replaced hs o)
replaced_free [] o free over = (over, tt)
replaced_free (h ∷ hs) o (first, free) over = replaced_by (same_name h.0 o.0) h o (without hs o.0) (replaced hs o) first over (without_free hs o.0 free) (replaced_free hs o free over)

over_free : (os hs : Pairs) → AreFree hs → AreFree os → AreFree (written_over hs os)
over_free [] hs free overs = free
over_free (o ∷ os) hs free (over, overs) = over_free os (replaced hs o) (replaced_free hs o free over) overs

rest_by : (b : Bool) (h : Header) (hs more : Pairs) → IsFree h → AreFree hs → AreFree more → AreFree (cond b hs (h ∷ more))
rest_by true h hs more first free then = free
rest_by false h hs more first free then = (first, then)

rest_free : (hs : Pairs) → AreFree hs → AreFree (without_first hs)
rest_free [] free = tt
rest_free (h ∷ hs) (first, free) = rest_by (is_content_type h) h hs (without_first hs) first free (rest_free hs free)

type_free : (v : List ℕ) → IsFree (codes "content-type", v)
type_free v = refl

typed_free : (hs : Pairs) (media : Option (List ℕ)) (reply : WireReply) → AreFree hs → AreFree (typed hs media reply)
typed_free hs media reply free = (type_free (content_type hs media reply), rest_free hs free)

-- an answer, where one is made
abbrev pub NamesNone : Flow Answer → Type 0
NamesNone (Ok answer) = causes_in answer.headers ≡ []
NamesNone (Err stop) = Unit {0}

with_free : (hs : Pairs) (body : List ℕ) (status : Flow ℕ) → AreFree hs → NamesNone (answer_with hs body status)
with_free hs body (Ok status) free = none_named hs free
with_free hs body (Err stop) free = tt

if_free : (b : Bool) (made : Flow Answer) → (b ≡ true → NamesNone made) → NamesNone (if_writable b made)
if_free true made names = names refl
if_free false made names = tt

from_free : (status : ℕ) (hs : Pairs) (media : Option (List ℕ)) (reply : WireReply) (made : Written) → NamesNone (answer_from status hs media reply made)
unfolding answer_from
from_free status hs media reply made =
    if_free (are_writable hs && are_writable made.overrides.headers) _
    (λ may. let parts = and_parts (are_writable hs) (are_writable made.overrides.headers) may in
    with_free _ made.body (status_over status made.overrides.status)
    (over_free made.overrides.headers (typed hs media reply) (typed_free hs media reply (all_free hs parts.0)) (all_free made.overrides.headers parts.1)))

by_free : (status : ℕ) (hs : Pairs) (media : Option (List ℕ)) (reply : WireReply) (made : Flow Written) → NamesNone (answer_by status hs media reply made)
by_free status hs media reply (Ok made) = from_free status hs media reply made
by_free status hs media reply (Err stop) = tt

at_free : (rule : ResponseRule) (held : Held) (reply : WireReply) (media : List ℕ) → NamesNone (answer_at rule held reply media)
unfolding answer_at
at_free rule held reply media = by_free rule.status (mapped held reply rule.parameters) (rendered_media media (value_at rule.templates media)) reply (written held reply (value_at rule.templates media))

pub client_names_none : (rule : ResponseRule) (request : Request) (target : Target) (found : Found) (facts : CallFacts) (reply : WireReply) → NamesNone (client_of rule request target found facts reply)
unfolding client_of
client_names_none rule request target found facts reply = at_free rule (replied request target found facts reply) reply (media_type reply.headers)

-- what a proxy passes on
held : is_among held_back cause ≡ true
unfolding same_name
held = refl

unheld_by : (x : List ℕ) (b : Bool) → bytes_eq x cause ≡ b → is_among held_back x ≡ false → bytes_eq x cause ≡ false
unheld_by x false e none = e
unheld_by x true e none =
    let same : x ≡ cause = (bytes_eq-Decides x cause).0 e in
    let no : true ≡ false = sym held ∙ ap (is_among held_back) (sym same) ∙ none in absurd cc

unheld : (hs : Pairs) → All (λ (h : Header). is_among held_back h.0 ≡ false) hs → AreFree hs
unheld [] all = tt
unheld (h ∷ hs) all = (unheld_by h.0 (bytes_eq h.0 cause) refl (all 0 h (omega arith)), unheld hs (All-tail (λ (k : Header). is_among held_back k.0 ≡ false) h hs all))

pub proxied_names_none : (reply : WireReply) → causes_in (proxied reply).headers ≡ []
proxied_names_none reply = none_named (proxied reply).headers (unheld (proxied reply).headers (never_passed_on reply))
