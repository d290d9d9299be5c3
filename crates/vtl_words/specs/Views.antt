-- What the program's values say.
use Rattle.std.specs.Prelude.{ℕ, ◌+◌, length, List, [], ◌∷◌, ◌++◌, Option, Some, None}
use Rattle.vtl_grammar.specs.declared.fault.Fault.{Fault}
use Rattle.vtl_grammar.specs.declared.fault.Fault.TheVariants.{Unclosed, BadDirective, BadExpression}
use Rattle.vtl_grammar.specs.Tree as tree
use Rattle.vtl_grammar.specs.Operators as says
use Rattle.vtl_grammar.specs.Words as says_word
use Rattle.vtl_grammar.specs.Directives as says_left
use Rattle.vtl_words.specs.declared.directives.Left.{Left}
use Rattle.vtl_words.specs.declared.directives.Left.TheVariants as left
use Rattle.vtl_words.specs.declared.directives.Between.{Between}
use Rattle.vtl_words.specs.declared.directives.Between.TheVariants as between
use Rattle.vtl_words.specs.declared.words.Word.{Word}
use Rattle.vtl_words.specs.declared.words.Word.TheVariants as w
use Rattle.vtl_words.specs.declared.operators.Operator.{Operator}
use Rattle.vtl_words.specs.declared.operators.Operator.TheVariants as o
use Rattle.vtl_words.specs.declared.operators.How.{How}
use Rattle.vtl_words.specs.declared.operators.How.TheVariants as h
use Rattle.vtl_words.specs.declared.operators.Found.{Found}
use Rattle.vtl_words.specs.declared.operators.Found.TheVariants as f

abbrev pub op_of : Operator → tree.Operator
op_of o.Or = tree.or_
op_of o.And = tree.and_
op_of o.Equal = tree.equal
op_of o.Unequal = tree.unequal
op_of o.Less = tree.less
op_of o.Greater = tree.greater
op_of o.AtMost = tree.at_most
op_of o.AtLeast = tree.at_least
op_of o.Plus = tree.plus
op_of o.Minus = tree.minus
op_of o.Times = tree.times
op_of o.Divided = tree.divided
op_of o.Remainder = tree.remainder

abbrev pub option_of : Option Operator → Option tree.Operator
option_of None = None
option_of (Some o) = Some (op_of o)

abbrev pub found_of : Found → Option (tree.Operator × List ℕ)
found_of f.Nothing = None
found_of (f.One o rest) = Some (op_of o, rest.now)

abbrev pub how_of : How → says.How
how_of h.Alone = says.alone
how_of h.Ranging = says.ranging
how_of h.Argument = says.argument

-- where nothing goes on
abbrev pub bad_at : List ℕ → Fault
bad_at [] = Unclosed 0
bad_at (b ∷ bs) = BadExpression (length bs + 1)

-- bytes before the first of a pair
abbrev pub before : List ℕ → Option (List ℕ × List ℕ) → Option (List ℕ × List ℕ)
before x None = None
before x (Some p) = Some (x ++ p.0, p.1)

abbrev pub word_of : Word → says_word.Word
word_of w.Set = says_word.Set
word_of w.If = says_word.If
word_of w.ElseIf = says_word.ElseIf
word_of w.Else = says_word.Else
word_of w.End = says_word.End
word_of w.ForEach = says_word.ForEach
word_of w.Break = says_word.Break
word_of w.Stop = says_word.Stop
word_of w.Define = says_word.Define
word_of w.Refused = says_word.Refused
word_of (w.Macro x) = says_word.Macro x.now

abbrev pub words_option : Option Word → Option says_word.Word
words_option None = None
words_option (Some x) = Some (word_of x)

-- where a directive's form does not go on
abbrev pub bad_form_at : ℕ → List ℕ → Fault
bad_form_at at [] = Unclosed 0
bad_form_at at (b ∷ bs) = BadDirective at

abbrev pub left_view : Left → says_left.Left
left_view left.Parameter = says_left.parameter
left_view left.ContextPath = says_left.context_path
left_view left.Refused = says_left.refused
left_view left.Free = says_left.free_name

abbrev pub between_view : Between → says_left.Between
between_view (between.Close rest) = says_left.a_close rest.now
between_view (between.Comma rest) = says_left.a_comma rest.now
between_view between.Space = says_left.a_space
between_view between.Nothing = says_left.nothing
