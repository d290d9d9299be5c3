-- Response rules: `status`, and perhaps `pattern`, `parameters` and `templates`. One has no pattern, at most.
use Rattle.std.specs.Prelude.{Bool, true, false, ◌&&◌, ◌||◌, List, [], ◌∷◌, ◌++◌, codes, bytes_eq, if◌then◌else◌, Option, Some, None, is_none, Ok, Err}
use Rattle.json_subset.specs.Tree.{Tree}
use Rattle.api_parts.specs.Reading.{Text, Read, ◌>>=◌, each, here, needed, unknown, Waiting, first_of, waiting_below}
use Rattle.api_parts.specs.declared.fault.ApiCause.TheVariants.{TwoDefaults}
use Rattle.api_parts.specs.declared.parts.ResponseRule.{ResponseRule}
use Rattle.api_reading.specs.Texts.{pattern_in, templates_in}
use Rattle.api_reading.specs.Values.{list_in, number_in, object_in}
use Rattle.api_resources.specs.declared.mapped.Side.TheVariants.{Response}
use Rattle.api_resources.specs.declared.rules.RuleRead.{RuleRead}
use Rattle.api_resources.specs.declared.rules.RulesRead.{RulesRead}
use Rattle.api_resources.specs.Mapped.{mappings_in}

abbrev pub rule_mappings : RuleRead → Text → Tree → Read RuleRead
rule_mappings r x t = mappings_in Response [] x t >>= λ ms. Ok (record r { parameters = ms.list; waiting = first_of r.waiting (waiting_below x ms.waiting) })

abbrev pub rule_member : RuleRead → Text → Tree → Read RuleRead
rule_member r x t =
    if bytes_eq x (codes "pattern") then (pattern_in x t >>= λ p. Ok (record r { pattern = Some p }))
    else if bytes_eq x (codes "status") then (number_in 200 599 x t >>= λ n. Ok (record r { status = Some n }))
    else if bytes_eq x (codes "parameters") then rule_mappings r x t
    else if bytes_eq x (codes "templates") then (templates_in x t >>= λ ts. Ok (record r { templates = ts }))
    else unknown x

abbrev pub no_rule : RuleRead
no_rule = record { pattern = None; status = None; parameters = []; templates = []; waiting = None }

abbrev pub rule_of : RuleRead → Read (ResponseRule × Waiting)
rule_of r = needed (codes "status") r.status >>= λ n. Ok (record { pattern = r.pattern; status = n; parameters = r.parameters; templates = r.templates }, r.waiting)

abbrev pub rule_in : Text → Tree → Read (ResponseRule × Waiting)
rule_in name t = object_in name t >>= λ ms. each rule_member no_rule ms >>= rule_of

-- a rule more; a second without a pattern is refused, when its own members are read
abbrev pub with_rule : RulesRead → Text → ResponseRule × Waiting → Read RulesRead
with_rule all x r =
    if is_none r.0.pattern && all.has_default then Err (here TwoDefaults)
    else Ok (record { list = all.list ++ r.0 ∷ []; has_default = all.has_default || is_none r.0.pattern; waiting = first_of all.waiting (waiting_below x r.1) })

abbrev pub rules_member : RulesRead → Text → Tree → Read RulesRead
rules_member all x t = rule_in x t >>= with_rule all x

abbrev pub rules_in : Text → Tree → Read RulesRead
rules_in name t = list_in name t >>= each rules_member record { list = []; has_default = false; waiting = None }
