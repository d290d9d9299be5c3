-- What a template uses of the language.
use Rattle.std.specs.Prelude.{Bool, true, false, ◌&&◌, codes, bytes_eq}
use Rattle.vtl_grammar.specs.Tree.{Base, named, given, Step, Steps, member, call, index, no_steps, step, Item, Items, text, comment, output, set, choose, foreach, break_, stop, define, macro_call, deep, no_items, item}

-- names alone
abbrev pub is_name_step : Step → Bool
is_name_step (member x) = true
is_name_step (call x es) = false
is_name_step (index e) = false

abbrev pub are_names : Steps → Bool
are_names no_steps = true
are_names (step x xs) = is_name_step x && are_names xs

-- text, or a reference without calls and indexes
unfoldable pub is_simple_item : Item → Bool
is_simple_item (text t) = true
is_simple_item (output source b ss) = are_names ss
is_simple_item comment = false
is_simple_item (set target e) = false
is_simple_item (choose bs) = false
is_simple_item (foreach x e is) = false
is_simple_item break_ = false
is_simple_item stop = false
is_simple_item (define x ps is) = false
is_simple_item (macro_call at x es) = false
is_simple_item deep = false

-- only text and such references
abbrev pub is_simple : Items → Bool
is_simple no_items = true
is_simple (item i is) = is_simple_item i && is_simple is

-- a reference to the body of the request
abbrev pub is_body_step : Steps → Bool
is_body_step no_steps = false
is_body_step (step (member x) no_steps) = bytes_eq x (codes "body")
is_body_step (step (member x) (step y ss)) = false
is_body_step (step (call x es) ss) = false
is_body_step (step (index e) ss) = false

abbrev pub is_body : Base → Steps → Bool
is_body (named x) ss = bytes_eq x (codes "input") && is_body_step ss
is_body (given e) ss = false

abbrev pub is_plain_item : Item → Bool
is_plain_item (text t) = true
is_plain_item (output source b ss) = is_body b ss
is_plain_item comment = false
is_plain_item (set target e) = false
is_plain_item (choose bs) = false
is_plain_item (foreach x e is) = false
is_plain_item break_ = false
is_plain_item stop = false
is_plain_item (define x ps is) = false
is_plain_item (macro_call at x es) = false
is_plain_item deep = false

-- only text and references to the body of the request
abbrev pub is_plain : Items → Bool
is_plain no_items = true
is_plain (item i is) = is_plain_item i && is_plain is
