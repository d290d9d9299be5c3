-- The names of keywords (JSON Schema draft 4, validation, section 5; core, section 7).
use Rattle.std.specs.Prelude.{ℕ, List, [], ◌∷◌, Option, Some, None, if◌then◌else◌}
use Rattle.std.specs.Str.{bytes_eq}
use Rattle.schema_keywords.specs.declared.keyword.TypeName.{TypeName}
use Rattle.schema_keywords.specs.declared.keyword.TypeName.TheVariants as types
use Rattle.schema_draft4.specs.declared.word.Word.{Word}
use Rattle.schema_draft4.specs.declared.word.Word.TheVariants as words

-- minimum
abbrev pub minimum : List ℕ
minimum = 109 ∷ 105 ∷ 110 ∷ 105 ∷ 109 ∷ 117 ∷ 109 ∷ []

-- maximum
abbrev pub maximum : List ℕ
maximum = 109 ∷ 97 ∷ 120 ∷ 105 ∷ 109 ∷ 117 ∷ 109 ∷ []

-- exclusiveMinimum
abbrev pub exclusive_minimum : List ℕ
exclusive_minimum = 101 ∷ 120 ∷ 99 ∷ 108 ∷ 117 ∷ 115 ∷ 105 ∷ 118 ∷ 101 ∷ 77 ∷ 105 ∷ 110 ∷ 105 ∷ 109 ∷ 117 ∷ 109 ∷ []

-- exclusiveMaximum
abbrev pub exclusive_maximum : List ℕ
exclusive_maximum = 101 ∷ 120 ∷ 99 ∷ 108 ∷ 117 ∷ 115 ∷ 105 ∷ 118 ∷ 101 ∷ 77 ∷ 97 ∷ 120 ∷ 105 ∷ 109 ∷ 117 ∷ 109 ∷ []

-- multipleOf
abbrev pub multiple_of : List ℕ
multiple_of = 109 ∷ 117 ∷ 108 ∷ 116 ∷ 105 ∷ 112 ∷ 108 ∷ 101 ∷ 79 ∷ 102 ∷ []

-- minLength
abbrev pub min_length : List ℕ
min_length = 109 ∷ 105 ∷ 110 ∷ 76 ∷ 101 ∷ 110 ∷ 103 ∷ 116 ∷ 104 ∷ []

-- maxLength
abbrev pub max_length : List ℕ
max_length = 109 ∷ 97 ∷ 120 ∷ 76 ∷ 101 ∷ 110 ∷ 103 ∷ 116 ∷ 104 ∷ []

-- pattern
abbrev pub pattern_name : List ℕ
pattern_name = 112 ∷ 97 ∷ 116 ∷ 116 ∷ 101 ∷ 114 ∷ 110 ∷ []

-- enum
abbrev pub enum_name : List ℕ
enum_name = 101 ∷ 110 ∷ 117 ∷ 109 ∷ []

-- type
abbrev pub type_name : List ℕ
type_name = 116 ∷ 121 ∷ 112 ∷ 101 ∷ []

-- items
abbrev pub items_name : List ℕ
items_name = 105 ∷ 116 ∷ 101 ∷ 109 ∷ 115 ∷ []

-- additionalItems
abbrev pub additional_items : List ℕ
additional_items = 97 ∷ 100 ∷ 100 ∷ 105 ∷ 116 ∷ 105 ∷ 111 ∷ 110 ∷ 97 ∷ 108 ∷ 73 ∷ 116 ∷ 101 ∷ 109 ∷ 115 ∷ []

-- minItems
abbrev pub min_items : List ℕ
min_items = 109 ∷ 105 ∷ 110 ∷ 73 ∷ 116 ∷ 101 ∷ 109 ∷ 115 ∷ []

-- maxItems
abbrev pub max_items : List ℕ
max_items = 109 ∷ 97 ∷ 120 ∷ 73 ∷ 116 ∷ 101 ∷ 109 ∷ 115 ∷ []

-- uniqueItems
abbrev pub unique_items : List ℕ
unique_items = 117 ∷ 110 ∷ 105 ∷ 113 ∷ 117 ∷ 101 ∷ 73 ∷ 116 ∷ 101 ∷ 109 ∷ 115 ∷ []

-- properties
abbrev pub properties_name : List ℕ
properties_name = 112 ∷ 114 ∷ 111 ∷ 112 ∷ 101 ∷ 114 ∷ 116 ∷ 105 ∷ 101 ∷ 115 ∷ []

-- additionalProperties
abbrev pub additional_properties : List ℕ
additional_properties = 97 ∷ 100 ∷ 100 ∷ 105 ∷ 116 ∷ 105 ∷ 111 ∷ 110 ∷ 97 ∷ 108 ∷ 80 ∷ 114 ∷ 111 ∷ 112 ∷ 101 ∷ 114 ∷ 116 ∷ 105 ∷ 101 ∷ 115 ∷ []

-- required
abbrev pub required : List ℕ
required = 114 ∷ 101 ∷ 113 ∷ 117 ∷ 105 ∷ 114 ∷ 101 ∷ 100 ∷ []

-- minProperties
abbrev pub min_properties : List ℕ
min_properties = 109 ∷ 105 ∷ 110 ∷ 80 ∷ 114 ∷ 111 ∷ 112 ∷ 101 ∷ 114 ∷ 116 ∷ 105 ∷ 101 ∷ 115 ∷ []

-- maxProperties
abbrev pub max_properties : List ℕ
max_properties = 109 ∷ 97 ∷ 120 ∷ 80 ∷ 114 ∷ 111 ∷ 112 ∷ 101 ∷ 114 ∷ 116 ∷ 105 ∷ 101 ∷ 115 ∷ []

-- allOf
abbrev pub all_of : List ℕ
all_of = 97 ∷ 108 ∷ 108 ∷ 79 ∷ 102 ∷ []

-- anyOf
abbrev pub any_of : List ℕ
any_of = 97 ∷ 110 ∷ 121 ∷ 79 ∷ 102 ∷ []

-- oneOf
abbrev pub one_of : List ℕ
one_of = 111 ∷ 110 ∷ 101 ∷ 79 ∷ 102 ∷ []

-- not
abbrev pub not_name : List ℕ
not_name = 110 ∷ 111 ∷ 116 ∷ []

-- definitions
abbrev pub definitions_name : List ℕ
definitions_name = 100 ∷ 101 ∷ 102 ∷ 105 ∷ 110 ∷ 105 ∷ 116 ∷ 105 ∷ 111 ∷ 110 ∷ 115 ∷ []

-- $ref
abbrev pub ref : List ℕ
ref = 36 ∷ 114 ∷ 101 ∷ 102 ∷ []

-- patternProperties
abbrev pub pattern_properties : List ℕ
pattern_properties = 112 ∷ 97 ∷ 116 ∷ 116 ∷ 101 ∷ 114 ∷ 110 ∷ 80 ∷ 114 ∷ 111 ∷ 112 ∷ 101 ∷ 114 ∷ 116 ∷ 105 ∷ 101 ∷ 115 ∷ []

-- dependencies
abbrev pub dependencies : List ℕ
dependencies = 100 ∷ 101 ∷ 112 ∷ 101 ∷ 110 ∷ 100 ∷ 101 ∷ 110 ∷ 99 ∷ 105 ∷ 101 ∷ 115 ∷ []

abbrev pub number_word : List ℕ → Option Word
number_word x =
    if bytes_eq x minimum then Some words.Minimum
    else if bytes_eq x maximum then Some words.Maximum
    else if bytes_eq x exclusive_minimum then Some words.ExclusiveMinimum
    else if bytes_eq x exclusive_maximum then Some words.ExclusiveMaximum
    else if bytes_eq x multiple_of then Some words.MultipleOf
    else None

abbrev pub text_word : List ℕ → Option Word
text_word x =
    if bytes_eq x min_length then Some words.MinLength
    else if bytes_eq x max_length then Some words.MaxLength
    else if bytes_eq x pattern_name then Some words.Pattern
    else if bytes_eq x enum_name then Some words.Enum
    else if bytes_eq x type_name then Some words.Type
    else None

abbrev pub list_word : List ℕ → Option Word
list_word x =
    if bytes_eq x items_name then Some words.Items
    else if bytes_eq x additional_items then Some words.AdditionalItems
    else if bytes_eq x min_items then Some words.MinItems
    else if bytes_eq x max_items then Some words.MaxItems
    else if bytes_eq x unique_items then Some words.UniqueItems
    else None

abbrev pub object_word : List ℕ → Option Word
object_word x =
    if bytes_eq x properties_name then Some words.Properties
    else if bytes_eq x additional_properties then Some words.AdditionalProperties
    else if bytes_eq x required then Some words.Required
    else if bytes_eq x min_properties then Some words.MinProperties
    else if bytes_eq x max_properties then Some words.MaxProperties
    else None

abbrev pub schema_word : List ℕ → Option Word
schema_word x =
    if bytes_eq x all_of then Some words.AllOf
    else if bytes_eq x any_of then Some words.AnyOf
    else if bytes_eq x one_of then Some words.OneOf
    else if bytes_eq x not_name then Some words.Not
    else if bytes_eq x definitions_name then Some words.Definitions
    else None

abbrev pub other_word : List ℕ → Option Word
other_word x =
    if bytes_eq x ref then Some words.Ref
    else if bytes_eq x pattern_properties then Some words.PatternProperties
    else if bytes_eq x dependencies then Some words.Dependencies
    else None

abbrev pub first_word : Option Word → Option Word → Option Word
first_word None w = w
first_word (Some v) w = Some v

abbrev pub or_unknown : Option Word → Word
or_unknown None = words.Unknown
or_unknown (Some w) = w

-- the keyword of this name
abbrev pub word_of : List ℕ → Word
word_of x = or_unknown (first_word (number_word x) (first_word (text_word x) (first_word (list_word x) (first_word (object_word x) (first_word (schema_word x) (other_word x))))))

-- the type of this name (core, section 3.5)
abbrev pub type_of : List ℕ → Option TypeName
type_of x =
    if bytes_eq x (97 ∷ 114 ∷ 114 ∷ 97 ∷ 121 ∷ []) then Some types.Array
    else if bytes_eq x (98 ∷ 111 ∷ 111 ∷ 108 ∷ 101 ∷ 97 ∷ 110 ∷ []) then Some types.Boolean
    else if bytes_eq x (105 ∷ 110 ∷ 116 ∷ 101 ∷ 103 ∷ 101 ∷ 114 ∷ []) then Some types.Integer
    else if bytes_eq x (110 ∷ 117 ∷ 108 ∷ 108 ∷ []) then Some types.Null
    else if bytes_eq x (110 ∷ 117 ∷ 109 ∷ 98 ∷ 101 ∷ 114 ∷ []) then Some types.Number
    else if bytes_eq x (111 ∷ 98 ∷ 106 ∷ 101 ∷ 99 ∷ 116 ∷ []) then Some types.Object
    else if bytes_eq x (115 ∷ 116 ∷ 114 ∷ 105 ∷ 110 ∷ 103 ∷ []) then Some types.Text
    else None

-- #
abbrev pub root_name : List ℕ
root_name = 35 ∷ []

-- #/definitions/
abbrev pub definition_front : List ℕ
definition_front = 35 ∷ 47 ∷ 100 ∷ 101 ∷ 102 ∷ 105 ∷ 110 ∷ 105 ∷ 116 ∷ 105 ∷ 111 ∷ 110 ∷ 115 ∷ 47 ∷ []
