-- What is said field by field is what the fields that say something of the length say together.
use Rattle.std.proofs.Common.{arith, ◌≡◌, ◌≢◌, ℕ, ◌+◌, Bool, true, false, ◌&&◌, ◌||◌, not, cond, List, [], ◌∷◌, length, refl, ap, ◌∙◌, if◌then◌else◌, codes}
use Rattle.std.specs.Prelude.{bytes_eq}
use Rattle.std.specs.List.{filter}
use Rattle.http_framing.specs.Framings.{Header, eq_ignore_case, known_length, is_named, is_length, length_said, said_by, lengths_said, hosts, joined}
use Rattle.http_framing.specs.declared.framing.Framing.{Framing}
use Rattle.http_framing.specs.declared.framing.Framing.TheVariants.{TooMany, Wrong, Absent, Known, Chunked}

-- so many hosts, and those among these
abbrev pub hosts_from : ℕ → List Header → ℕ
hosts_from n [] = n
hosts_from n (h ∷ hs) = hosts_from (if is_named (codes "host") h then n + 1 else n) hs

pub hosts_are : (n : ℕ) (hs : List Header) → hosts_from n hs ≡ n + hosts hs
hosts_are n [] = omega arith
hosts_are n (h ∷ hs) = elim (is_named (codes "host") h) as (λ t. hosts_from (if t then n + 1 else n) hs ≡ n + length (cond t (h ∷ filter (is_named (codes "host")) hs) (filter (is_named (codes "host")) hs))) [
  | true ↦ omega (arith, hosts_are (n + 1) hs)
  | false ↦ hosts_are n hs
]

-- what is said so far, and what all further fields say
abbrev pub lengths_from : Bool → Framing → List Header → Framing
lengths_from http10 so_far [] = so_far
lengths_from http10 so_far (h ∷ hs) = lengths_from http10 (joined so_far (length_said http10 h)) hs

joined_absent : (f : Framing) → joined f Absent ≡ f
joined_absent TooMany = refl
joined_absent Wrong = refl
joined_absent Absent = refl
joined_absent (Known n) = refl
joined_absent Chunked = refl

joined_some : (f g : Framing) → f ≢ Absent → g ≢ Absent → joined f g ≡ Wrong
joined_some TooMany TooMany some other = refl
joined_some TooMany Wrong some other = refl
joined_some TooMany Absent some other = absurd (other refl)
joined_some TooMany (Known m) some other = refl
joined_some TooMany Chunked some other = refl
joined_some Wrong TooMany some other = refl
joined_some Wrong Wrong some other = refl
joined_some Wrong Absent some other = absurd (other refl)
joined_some Wrong (Known m) some other = refl
joined_some Wrong Chunked some other = refl
joined_some Absent TooMany some other = absurd (some refl)
joined_some Absent Wrong some other = absurd (some refl)
joined_some Absent Absent some other = absurd (some refl)
joined_some Absent (Known m) some other = absurd (some refl)
joined_some Absent Chunked some other = absurd (some refl)
joined_some (Known n) TooMany some other = refl
joined_some (Known n) Wrong some other = refl
joined_some (Known n) Absent some other = absurd (other refl)
joined_some (Known n) (Known m) some other = refl
joined_some (Known n) Chunked some other = refl
joined_some Chunked TooMany some other = refl
joined_some Chunked Wrong some other = refl
joined_some Chunked Absent some other = absurd (other refl)
joined_some Chunked (Known m) some other = refl
joined_some Chunked Chunked some other = refl

-- a field that is no length says nothing
says_none : (http10 : Bool) (h : Header) → is_length h ≡ false → length_said http10 h ≡ Absent
unfolding length_said
says_none http10 h e = (elim (is_named (codes "content-length") h) as (λ t. (t || is_named (codes "transfer-encoding") h) ≡ false → (if t then known_length h.1 else if eq_ignore_case h.0 (codes "transfer-encoding") then (if not http10 && bytes_eq h.1 (codes "chunked") then Chunked else Wrong) else Absent) ≡ Absent) [
  | true ↦ λ g. absurd (cc)
  | false ↦ λ g. rw g refl
]) e

known_some : (t : Bool) (n : ℕ) → (if t then Known n else Wrong) ≢ Absent
known_some true n e = cc
known_some false n e = cc

chunked_some : (t : Bool) → (if t then Chunked else Wrong) ≢ Absent
chunked_some true e = cc
chunked_some false e = cc

-- a field that is one says something
says_some : (http10 : Bool) (h : Header) → is_length h ≡ true → length_said http10 h ≢ Absent
unfolding length_said
says_some http10 h e = (elim (is_named (codes "content-length") h) as (λ t. (t || is_named (codes "transfer-encoding") h) ≡ true → (if t then known_length h.1 else if eq_ignore_case h.0 (codes "transfer-encoding") then (if not http10 && bytes_eq h.1 (codes "chunked") then Chunked else Wrong) else Absent) ≢ Absent) [
  | true ↦ λ g. known_some _ _
  | false ↦ λ g. rw g (chunked_some _)
]) e

-- one that says something, and then these
abbrev after_one : Framing → List Header → Framing
after_one f [] = f
after_one f (h ∷ hs) = Wrong

after_wrong : (hs : List Header) → after_one Wrong hs ≡ Wrong
after_wrong [] = refl
after_wrong (h ∷ hs) = refl

wrong_some : Wrong ≢ Absent
wrong_some e = cc

from_some : (http10 : Bool) (f : Framing) (hs : List Header) → f ≢ Absent → lengths_from http10 f hs ≡ after_one f (filter is_length hs)
from_some http10 f [] some = refl
from_some http10 f (h ∷ hs) some = (elim (is_length h) as (λ t. is_length h ≡ t → lengths_from http10 (joined f (length_said http10 h)) hs ≡ after_one f (cond t (h ∷ filter is_length hs) (filter is_length hs))) [
  | true ↦ λ e. ap (λ z. lengths_from http10 z hs) (joined_some f (length_said http10 h) some (says_some http10 h e)) ∙ from_some http10 Wrong hs wrong_some ∙ after_wrong (filter is_length hs)
  | false ↦ λ e. ap (λ z. lengths_from http10 (joined f z) hs) (says_none http10 h e) ∙ ap (λ z. lengths_from http10 z hs) (joined_absent f) ∙ from_some http10 f hs some
]) refl

one_said : (http10 : Bool) (h : Header) (hs : List Header) → after_one (length_said http10 h) hs ≡ said_by http10 (h ∷ hs)
one_said http10 h [] = refl
one_said http10 h (i ∷ hs) = refl

pub lengths_are : (http10 : Bool) (hs : List Header) → lengths_from http10 Absent hs ≡ lengths_said http10 hs
lengths_are http10 [] = refl
lengths_are http10 (h ∷ hs) = (elim (is_length h) as (λ t. is_length h ≡ t → lengths_from http10 (length_said http10 h) hs ≡ said_by http10 (cond t (h ∷ filter is_length hs) (filter is_length hs))) [
  | true ↦ λ e. from_some http10 (length_said http10 h) hs (says_some http10 h e) ∙ one_said http10 h (filter is_length hs)
  | false ↦ λ e. ap (λ z. lengths_from http10 z hs) (says_none http10 h e) ∙ lengths_are http10 hs
]) refl
