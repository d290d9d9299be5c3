-- The site whose page made a browser send a request (RFC 6454, section 7; Fetch Standard, "Origin header").
use Rattle.std.specs.Prelude.{ℕ, ◌==◌, nat_eq, Bool, true, not, ◌&&◌, ◌||◌, List, [], ◌∷◌, length, drop, codes}
use Rattle.std.specs.List.{list_any, list_all, starts_with}
use Rattle.gw_base.specs.Names.{is_digit, same_name}

-- no port, or `:` and its digits
unfoldable pub is_port : List ℕ → Bool
is_port [] = true
is_port (b ∷ bs) = b == 58 && not (length bs == 0) && list_all is_digit bs

-- this host, at any port
unfoldable pub is_at : List ℕ → List ℕ → Bool
is_at text host = starts_with nat_eq text host && is_port (drop (length host) text)

-- a name of the loopback, at any port
unfoldable pub is_loopback : List ℕ → Bool
is_loopback text = is_at text (codes "127.0.0.1") || is_at text (codes "localhost") || is_at text (codes "[::1]")

-- such a site by HTTP or HTTPS
unfoldable pub is_local : List ℕ → Bool
is_local origin = (starts_with nat_eq origin (codes "http://") && is_loopback (drop 7 origin)) || (starts_with nat_eq origin (codes "https://") && is_loopback (drop 8 origin))

-- the field `origin` of a page of another site, or of none
unfoldable pub is_foreign : (List ℕ × List ℕ) → Bool
is_foreign header = same_name header.0 (codes "origin") && not (is_local header.1)

-- there is such a field
abbrev pub has_foreign_origin : List (List ℕ × List ℕ) → Bool
has_foreign_origin headers = list_any is_foreign headers
