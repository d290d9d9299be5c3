-- Statuses (RFC 9110, section 15).
use Rattle.std.specs.Prelude.{ℕ, Bool, ◌||◌, ◌==◌}

-- messages of these statuses have no body (RFC 9110, sections 15.3.5 and 15.4.5)
abbrev pub is_bare : ℕ → Bool
is_bare status = status == 204 || status == 304
