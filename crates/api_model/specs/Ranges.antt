-- Verbs lead to methods.
use Rattle.std.specs.Prelude.{◌<◌, List, length}
use Rattle.std.specs.List.{All}
use Rattle.api_model.specs.Definition.{Definition, parts_of}
use Rattle.api_model.specs.Document.{Parts}

-- each verb of a resource has the number of a method
abbrev pub LeadToMethods : Parts → Type 0
LeadToMethods p = All (λ r. All (λ v. v.1 < length p.methods) r.verbs) p.resources

-- so it is in every definition
abbrev pub AlwaysLeadToMethods : Type 0
AlwaysLeadToMethods = (d : Definition) → LeadToMethods (parts_of d)
