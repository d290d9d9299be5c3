-- A template of the gateway's own answers.
use Rattle.std.specs.Prelude.{ℕ, suc, nat_le, Bool, true, false, ◌&&◌, length, Ok, if◌then◌else◌}
use Rattle.json_subset.specs.Tree.{Tree}
use Rattle.vtl_grammar.specs.Tree.{Item, Items, no_items, item, text, comment, output, set, choose, foreach, break_, stop, define, macro_call, deep}
use Rattle.vtl_grammar.specs.Templates.{tree_of}
use Rattle.vtl_grammar.specs.Uses.{is_simple}
use Rattle.api_parts.specs.Reading.{Text, Read, ◌>>=◌, bad}
use Rattle.api_reading.specs.Texts.{template_of}
use Rattle.api_reading.specs.Values.{text_in}

-- a reference that is written out
abbrev pub is_output : Item → Bool
is_output (text t) = false
is_output comment = false
is_output (output source b ss) = true
is_output (set target e) = false
is_output (choose bs) = false
is_output (foreach x e is) = false
is_output break_ = false
is_output stop = false
is_output (define x ps is) = false
is_output (macro_call at x es) = false
is_output deep = false

abbrev pub outputs : Items → ℕ
outputs no_items = 0
outputs (item i is) = if is_output i then suc (outputs is) else outputs is

-- a template of the gateway's own answers is text and at most 64 references without calls and indexes
unfoldable pub is_small : Text → Bool
is_small s = is_simple (tree_of s) && nat_le (outputs (tree_of s)) 64

abbrev pub if_small : Text → Text → Read Text
if_small name s = if is_small s then Ok s else bad name

-- and has at most 4,096 bytes
abbrev pub small_template_of : Text → Text → Read Text
small_template_of name s = if nat_le (length s) 4096 then (template_of s >>= if_small name) else bad name

abbrev pub small_template_in : Text → Tree → Read Text
small_template_in name t = text_in name t >>= small_template_of name
