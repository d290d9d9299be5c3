-- The hosts of backends.
use Rattle.std.specs.Prelude.{ℕ, List, codes}
use Rattle.api_parts.specs.declared.uri.Host.{Host}
use Rattle.api_parts.specs.declared.uri.Host.TheVariants.{Loopback, Localhost}

-- a host as it is written
abbrev pub host_text : Host → List ℕ
host_text Loopback = codes "127.0.0.1"
host_text Localhost = codes "localhost"
