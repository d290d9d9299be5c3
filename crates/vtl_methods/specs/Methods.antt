-- The table of methods. What it doesn't name is null: other names, other kinds of values, other numbers of arguments.
use Rattle.std.specs.Prelude.{ℕ, ℤ, negsuc, Bool, true, false, List, [], ◌∷◌, length, ◌==◌, codes, Option, Some, None, if◌then◌else◌}
use Rattle.std.specs.Prelude as std
use Rattle.std.specs.Option.{option_map_or, option_and_then}
use Rattle.std.specs.List.{list_any}
use Rattle.std.specs.Str.{bytes_eq}
use Rattle.vtl_texts.specs.Characters.{text_length, substring, substring_from, index_of, upper, lower, trimmed}
use Rattle.vtl_texts.specs.Places.{contains, starts_with, ends_with, replaced, split_at}
use Rattle.vtl_texts.specs.Patterns.{literal_of, replacement_of}
use Rattle.vtl_values.specs.Val.{Val, Entries, null, boolean, whole, number, text, list, range, map, entries_list}
use Rattle.vtl_values.specs.Kinds.{whole_in, text_in}
use Rattle.vtl_values.specs.Printed.{printed}
use Rattle.vtl_values.specs.Truth.{is_null}
use Rattle.vtl_values.specs.Operations.{whole_or_null}
use Rattle.vtl_values.specs.Parts.{item_at, items_in, size_of, within_i64, entry_keys}
use Rattle.vtl_values.specs.Making.{listed, mapped}
use Rattle.vtl_methods.specs.Names.{text_method_named, list_method_named, map_method_named}
use Rattle.vtl_methods.specs.Comparisons.{is_among, looked_through}
use Rattle.vtl_methods.specs.declared.names.TextMethod.{TextMethod}
use Rattle.vtl_methods.specs.declared.names.TextMethod.TheVariants as on_text
use Rattle.vtl_methods.specs.declared.names.ListMethod.{ListMethod}
use Rattle.vtl_methods.specs.declared.names.ListMethod.TheVariants as on_list
use Rattle.vtl_methods.specs.declared.names.MapMethod.{MapMethod}
use Rattle.vtl_methods.specs.declared.names.MapMethod.TheVariants as on_map

-- the one argument, where there is just one
abbrev pub only : List Val → Option Val
only [] = None
only (a ∷ []) = Some a
only (a ∷ b ∷ more) = None

-- where it is a text
abbrev pub only_text : List Val → Option (List ℕ)
only_text args = option_and_then text_in (only args)

abbrev pub texts_in : Option (List ℕ) → Option (List ℕ) → Option (List ℕ × List ℕ)
texts_in None t = None
texts_in (Some s) None = None
texts_in (Some s) (Some t) = Some (s, t)

-- the two arguments, where there are just two, and texts
abbrev pub two_texts : List Val → Option (List ℕ × List ℕ)
two_texts [] = None
two_texts (a ∷ []) = None
two_texts (a ∷ b ∷ []) = texts_in (text_in a) (text_in b)
two_texts (a ∷ b ∷ c ∷ more) = None

-- what a method gives without an argument, and null with one
abbrev pub of_none : Val → List Val → Val
of_none v args = if length args == 0 then v else null

-- what it gives of one argument, of one text, of two texts; and null of anything else
abbrev pub of_one : (Val → Val) → List Val → Val
of_one f args = option_map_or f (only args) null

abbrev pub of_text : (List ℕ → Val) → List Val → Val
of_text f args = option_map_or f (only_text args) null

abbrev pub of_texts : (List ℕ → List ℕ → Val) → List Val → Val
of_texts f args = option_map_or (λ p. f p.0 p.1) (two_texts args) null

-- at a whole number
abbrev pub at_whole : (ℤ → Val) → Val → Val
at_whole f v = option_map_or f (whole_in v) null

abbrev pub text_or_null : Option (List ℕ) → Val
text_or_null t = option_map_or text t null

-- a place or a length, which is null outside of i64
abbrev pub counted : ℕ → Val
counted n = whole_or_null (within_i64 n)

-- any value: `toString()`, of null null
unfoldable pub stringed : Val → Val
stringed v = if is_null v then null else text (printed v)

-- a text
abbrev pub equals : List ℕ → Val → Val
equals t a = boolean (option_map_or (bytes_eq t) (text_in a) false)

abbrev pub place_in : List ℕ → List ℕ → Val
place_in t s = option_map_or counted (index_of t s) (whole (negsuc 0))

-- from a character on, and up to another
abbrev pub part_from : List ℕ → Val → Val
part_from t i = at_whole (λ m. text_or_null (substring_from t m)) i

abbrev pub part_between : List ℕ → Val → Val → Val
part_between t i j = at_whole (λ m. at_whole (λ n. text_or_null (substring t m n)) j) i

abbrev pub substring_at : List ℕ → List Val → Val
substring_at t [] = null
substring_at t (i ∷ []) = part_from t i
substring_at t (i ∷ j ∷ []) = part_between t i j
substring_at t (i ∷ j ∷ k ∷ more) = null

abbrev pub replaced_all : List ℕ → List ℕ → List ℕ → Val
replaced_all t p r = option_map_or (λ s. option_map_or (λ to. text_or_null (replaced t s to)) (replacement_of r) null) (literal_of p) null

abbrev pub split_by : List ℕ → List ℕ → Val
split_by t p = option_map_or (λ s. listed (std.map text (split_at t s))) (literal_of p) null

unfoldable pub text_method : TextMethod → List ℕ → List Val → Val
text_method on_text.Length t = of_none (counted (text_length t))
text_method on_text.Equals t = of_one (equals t)
text_method on_text.Contains t = of_text (λ s. boolean (contains t s))
text_method on_text.StartsWith t = of_text (λ s. boolean (starts_with t s))
text_method on_text.EndsWith t = of_text (λ s. boolean (ends_with t s))
text_method on_text.IndexOf t = of_text (place_in t)
text_method on_text.Substring t = substring_at t
text_method on_text.ToUpperCase t = of_none (text (upper t))
text_method on_text.ToLowerCase t = of_none (text (lower t))
text_method on_text.Trim t = of_none (text (trimmed t))
text_method on_text.Replace t = of_texts (λ s r. text_or_null (replaced t s r))
text_method on_text.ReplaceAll t = of_texts (replaced_all t)
text_method on_text.Split t = of_text (split_by t)
text_method on_text.IsEmpty t = of_none (boolean (length t == 0))

-- a list or a range
unfoldable pub list_method : ListMethod → Val → List Val → Val
list_method on_list.Size v = of_none (whole_or_null (size_of v))
list_method on_list.Get v = of_one (λ i. item_at i v)
list_method on_list.Contains v = of_one (λ a. boolean (is_among a (items_in v)))
list_method on_list.IsEmpty v = of_none (boolean (length (items_in v) == 0))

-- a map
abbrev pub pair : List ℕ → Val → Val
pair k v = mapped ((text (codes "key"), text k) ∷ (text (codes "value"), v) ∷ [])

abbrev pub pairs : Entries → List Val
pairs es = std.map (λ e. pair e.0 e.1) (entries_list es)

unfoldable pub map_method : MapMethod → Entries → List Val → Val
map_method on_map.Size es = of_none (whole_or_null (size_of (map es)))
map_method on_map.Get es = of_one (λ k. item_at k (map es))
map_method on_map.ContainsKey es = of_text (λ k. boolean (list_any (λ j. bytes_eq j k) (entry_keys es)))
map_method on_map.KeySet es = of_none (listed (std.map text (entry_keys es)))
map_method on_map.EntrySet es = of_none (listed (pairs es))
map_method on_map.IsEmpty es = of_none (boolean (length (entry_keys es) == 0))

-- what the method of this name gives on a list or a range
abbrev pub listed_by_name : List ℕ → Val → List Val → Val
listed_by_name name v args = option_map_or (λ m. list_method m v args) (list_method_named name) null

abbrev pub by_kind : List ℕ → Val → List Val → Val
by_kind name null args = null
by_kind name (boolean b) args = null
by_kind name (whole n) args = null
by_kind name (number t) args = null
by_kind name (text t) args = option_map_or (λ m. text_method m t args) (text_method_named name) null
by_kind name (list vs) args = listed_by_name name (list vs) args
by_kind name (range a b) args = listed_by_name name (range a b) args
by_kind name (map es) args = option_map_or (λ m. map_method m es args) (map_method_named name) null

-- what the method of this name gives, on this value and with these arguments
unfoldable pub method_of : List ℕ → Val → List Val → Val
method_of name v args =
    if bytes_eq name (codes "toString") then of_none (stringed v) args else by_kind name v args

-- the bytes of the texts that it compares, besides those of what it gives
abbrev pub list_texts : ListMethod → Val → List Val → ℕ
list_texts on_list.Size v args = 0
list_texts on_list.Get v args = 0
list_texts on_list.Contains v args = option_map_or (λ a. looked_through a (items_in v)) (only args) 0
list_texts on_list.IsEmpty v args = 0

abbrev pub list_texts_by_name : List ℕ → Val → List Val → ℕ
list_texts_by_name name v args = option_map_or (λ m. list_texts m v args) (list_method_named name) 0

abbrev pub texts_by_kind : List ℕ → Val → List Val → ℕ
texts_by_kind name null args = 0
texts_by_kind name (boolean b) args = 0
texts_by_kind name (whole n) args = 0
texts_by_kind name (number t) args = 0
texts_by_kind name (text t) args = 0
texts_by_kind name (list vs) args = list_texts_by_name name (list vs) args
texts_by_kind name (range a b) args = list_texts_by_name name (range a b) args
texts_by_kind name (map es) args = 0

unfoldable pub method_texts : List ℕ → Val → List Val → ℕ
method_texts name v args = if bytes_eq name (codes "toString") then 0 else texts_by_kind name v args
