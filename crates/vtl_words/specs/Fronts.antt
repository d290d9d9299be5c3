-- What stands at the front, as the definitions name it.
use Rattle.std.specs.Prelude.{Bool, true, false}
use Rattle.vtl_words.specs.declared.references.Begun.{Begun}
use Rattle.vtl_words.specs.declared.references.Begun.TheVariants as begun
use Rattle.vtl_words.specs.declared.references.StepFront.{StepFront}
use Rattle.vtl_words.specs.declared.references.StepFront.TheVariants as step
use Rattle.vtl_words.specs.declared.references.Dots.{Dots}
use Rattle.vtl_words.specs.declared.references.Dots.TheVariants as dots
use Rattle.vtl_words.specs.declared.fronts.Hash.{Hash}
use Rattle.vtl_words.specs.declared.fronts.Hash.TheVariants as hash
use Rattle.vtl_words.specs.declared.fronts.Front.{Front}
use Rattle.vtl_words.specs.declared.fronts.Front.TheVariants as front
use Rattle.vtl_words.specs.declared.fronts.Piece.{Piece}
use Rattle.vtl_words.specs.declared.fronts.Piece.TheVariants as piece
use Rattle.vtl_grammar.specs.References as says
use Rattle.vtl_grammar.specs.Expressions as expr
use Rattle.vtl_words.specs.declared.leads.Lead.{Lead}
use Rattle.vtl_words.specs.declared.leads.Lead.TheVariants as lead
use Rattle.vtl_grammar.specs.Macros as scan
use Rattle.vtl_grammar.specs.Fronts as text
use Rattle.vtl_grammar.specs.Strings as string
use Rattle.vtl_words.specs.Views.{word_of}

abbrev pub begun_view : Begun → says.Begun
begun_view (begun.Reference quiet braced name rest) = says.a_reference quiet braced name.now rest.now
begun_view (begun.Nameless rest) = says.nameless rest.now

abbrev pub step_view : StepFront → says.StepFront
step_view (step.Name name rest) = says.a_name name.now rest.now
step_view (step.Call name rest) = says.a_call name.now rest.now
step_view (step.Index rest) = says.an_index rest.now
step_view (step.Dot rest) = says.a_dot rest.now
step_view step.Nothing = says.no_step

abbrev pub hash_view : Hash → scan.Hash
hash_view hash.Line = scan.a_line
hash_view hash.Comment = scan.a_comment
hash_view hash.Raw = scan.a_raw
hash_view hash.Word = scan.a_word

abbrev pub front_view : Front → text.Front
front_view front.Finish = text.finish
front_view (front.Plain b rest) = text.plain b rest.now
front_view (front.Raw raw rest) = text.raw raw.now rest.now
front_view front.Unclosed = text.unclosed
front_view front.Escape = text.bad_escape
front_view (front.Reference quiet braced name rest) = text.reference quiet braced name.now rest.now
front_view (front.LineComment rest) = text.line_comment rest.now
front_view (front.LongComment rest) = text.long_comment rest.now
front_view (front.Directive word rest) = text.directive (word_of word) rest.now

abbrev pub piece_view : Piece → string.Piece
piece_view piece.End = string.piece_end
piece_view piece.Byte = string.piece_byte
piece_view (piece.Reference quiet braced name rest) = string.piece_reference quiet braced name.now rest.now
piece_view (piece.Bad f) = string.piece_bad f

abbrev pub is_byte : Piece → Bool
is_byte piece.End = false
is_byte piece.Byte = true
is_byte (piece.Reference quiet braced name rest) = false
is_byte (piece.Bad f) = false

abbrev pub dots_view : Dots → says.Dots
dots_view dots.Free = says.free
dots_view dots.Strict = says.strict
dots_view dots.Ranged = says.ranged

abbrev pub lead_view : Lead → expr.Lead
lead_view lead.Exclamation = expr.an_exclamation
lead_view lead.Not = expr.an_n
lead_view lead.Dollar = expr.a_dollar
lead_view lead.Minus = expr.a_minus
lead_view lead.Digit = expr.a_digit
lead_view lead.Quote = expr.a_quote
lead_view lead.DoubleQuote = expr.a_double_quote
lead_view lead.Boolean = expr.a_t_or_f
lead_view lead.Round = expr.a_round
lead_view lead.Square = expr.a_square
lead_view lead.Brace = expr.a_brace
lead_view lead.Nothing = expr.no_lead
