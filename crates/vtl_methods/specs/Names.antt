-- Which method a name means on each kind of value.
use Rattle.std.specs.Prelude.{ℕ, List, Option, Some, None, codes, if◌then◌else◌}
use Rattle.std.specs.Str.{bytes_eq}
use Rattle.vtl_methods.specs.declared.names.TextMethod.{TextMethod}
use Rattle.vtl_methods.specs.declared.names.TextMethod.TheVariants as on_text
use Rattle.vtl_methods.specs.declared.names.ListMethod.{ListMethod}
use Rattle.vtl_methods.specs.declared.names.ListMethod.TheVariants as on_list
use Rattle.vtl_methods.specs.declared.names.MapMethod.{MapMethod}
use Rattle.vtl_methods.specs.declared.names.MapMethod.TheVariants as on_map

-- a text: tests
abbrev pub tests_named : List ℕ → Option TextMethod
tests_named name =
    if bytes_eq name (codes "equals") then Some on_text.Equals
    else if bytes_eq name (codes "contains") then Some on_text.Contains
    else if bytes_eq name (codes "startsWith") then Some on_text.StartsWith
    else if bytes_eq name (codes "endsWith") then Some on_text.EndsWith
    else if bytes_eq name (codes "isEmpty") then Some on_text.IsEmpty
    else None

-- lengths and places, or tests
abbrev pub places_named : List ℕ → Option TextMethod
places_named name =
    if bytes_eq name (codes "length") then Some on_text.Length
    else if bytes_eq name (codes "indexOf") then Some on_text.IndexOf
    else if bytes_eq name (codes "substring") then Some on_text.Substring
    else tests_named name

-- the same text in another form, or lengths, places and tests
abbrev pub forms_named : List ℕ → Option TextMethod
forms_named name =
    if bytes_eq name (codes "toUpperCase") then Some on_text.ToUpperCase
    else if bytes_eq name (codes "toLowerCase") then Some on_text.ToLowerCase
    else if bytes_eq name (codes "trim") then Some on_text.Trim
    else places_named name

-- all methods of a text
unfoldable pub text_method_named : List ℕ → Option TextMethod
text_method_named name =
    if bytes_eq name (codes "replace") then Some on_text.Replace
    else if bytes_eq name (codes "replaceAll") then Some on_text.ReplaceAll
    else if bytes_eq name (codes "split") then Some on_text.Split
    else forms_named name

-- all methods of a list or a range
unfoldable pub list_method_named : List ℕ → Option ListMethod
list_method_named name =
    if bytes_eq name (codes "size") then Some on_list.Size
    else if bytes_eq name (codes "get") then Some on_list.Get
    else if bytes_eq name (codes "contains") then Some on_list.Contains
    else if bytes_eq name (codes "isEmpty") then Some on_list.IsEmpty
    else None

-- all methods of a map
unfoldable pub map_method_named : List ℕ → Option MapMethod
map_method_named name =
    if bytes_eq name (codes "size") then Some on_map.Size
    else if bytes_eq name (codes "get") then Some on_map.Get
    else if bytes_eq name (codes "containsKey") then Some on_map.ContainsKey
    else if bytes_eq name (codes "keySet") then Some on_map.KeySet
    else if bytes_eq name (codes "entrySet") then Some on_map.EntrySet
    else if bytes_eq name (codes "isEmpty") then Some on_map.IsEmpty
    else None
