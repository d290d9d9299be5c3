-- tests
use Rattle.std.proofs.Common.{◌≡◌, refl, [], ◌∷◌, Ok, Err}
use Rattle.std.specs.Prelude.{pos}
use Rattle.vtl_grammar.specs.Tree.{text, comment, define, macro_call, item, no_items, expr, no_exprs, whole}
use Rattle.vtl_grammar.specs.declared.fault.TemplateFault.TheVariants.{Unclosed, BadDirective, BadExpression, UnsupportedMethod, Escape, TooDeep, ParamAssigned}
use Rattle.vtl_grammar.specs.Templates.{read_of, limit}
use Rattle.vtl_grammar.specs.Items.{blocks}
use Rattle.vtl_grammar.specs.Expressions.{operand, ranked, links, inside}
use Rattle.vtl_grammar.specs.Loops.{gather}
use Rattle.vtl_grammar.specs.Fronts.{front_at, text_run}
use Rattle.vtl_grammar.specs.Macros.{scan}

-- '$x.y()'
t0 : read_of (36 ∷ 120 ∷ 46 ∷ 121 ∷ 40 ∷ 41 ∷ []) ≡ Err (UnsupportedMethod 3)
unfolding read_of limit gather blocks operand ranked links inside front_at text_run scan
t0 = refl

-- '#[[ ]]'
t1 : read_of (35 ∷ 91 ∷ 91 ∷ 32 ∷ 93 ∷ 93 ∷ []) ≡ Err (Unclosed 0)
unfolding read_of limit gather blocks operand ranked links inside front_at text_run scan
t1 = refl

-- '\\#'
t2 : read_of (92 ∷ 35 ∷ []) ≡ Err (Escape 0)
unfolding read_of limit gather blocks operand ranked links inside front_at text_run scan
t2 = refl

-- '\\\\$x'
t3 : read_of (92 ∷ 92 ∷ 36 ∷ 120 ∷ []) ≡ Err (Escape 1)
unfolding read_of limit gather blocks operand ranked links inside front_at text_run scan
t3 = refl

-- 'é\\$'
t4 : read_of (195 ∷ 169 ∷ 92 ∷ 36 ∷ []) ≡ Err (Escape 2)
unfolding read_of limit gather blocks operand ranked links inside front_at text_run scan
t4 = refl

-- '$a[x]'
t5 : read_of (36 ∷ 97 ∷ 91 ∷ 120 ∷ 93 ∷ []) ≡ Err (BadExpression 3)
unfolding read_of limit gather blocks operand ranked links inside front_at text_run scan
t5 = refl

-- '$a['
t6 : read_of (36 ∷ 97 ∷ 91 ∷ []) ≡ Err (Unclosed 2)
unfolding read_of limit gather blocks operand ranked links inside front_at text_run scan
t6 = refl

-- '$a[1'
t7 : read_of (36 ∷ 97 ∷ 91 ∷ 49 ∷ []) ≡ Err (Unclosed 2)
unfolding read_of limit gather blocks operand ranked links inside front_at text_run scan
t7 = refl

-- '${a[1'
t8 : read_of (36 ∷ 123 ∷ 97 ∷ 91 ∷ 49 ∷ []) ≡ Err (Unclosed 0)
unfolding read_of limit gather blocks operand ranked links inside front_at text_run scan
t8 = refl

-- '${a b}'
t9 : read_of (36 ∷ 123 ∷ 97 ∷ 32 ∷ 98 ∷ 125 ∷ []) ≡ Err (BadExpression 3)
unfolding read_of limit gather blocks operand ranked links inside front_at text_run scan
t9 = refl

-- '${a.}'
t10 : read_of (36 ∷ 123 ∷ 97 ∷ 46 ∷ 125 ∷ []) ≡ Err (BadExpression 4)
unfolding read_of limit gather blocks operand ranked links inside front_at text_run scan
t10 = refl

-- '${a.1}'
t11 : read_of (36 ∷ 123 ∷ 97 ∷ 46 ∷ 49 ∷ 125 ∷ []) ≡ Err (BadExpression 4)
unfolding read_of limit gather blocks operand ranked links inside front_at text_run scan
t11 = refl

-- '#if\n(true)x#end'
t12 : read_of (35 ∷ 105 ∷ 102 ∷ 10 ∷ 40 ∷ 116 ∷ 114 ∷ 117 ∷ 101 ∷ 41 ∷ 120 ∷ 35 ∷ 101 ∷ 110 ∷ 100 ∷ []) ≡ Err (BadDirective 0)
unfolding read_of limit gather blocks operand ranked links inside front_at text_run scan
t12 = refl

-- '#if'
t13 : read_of (35 ∷ 105 ∷ 102 ∷ []) ≡ Err (BadDirective 0)
unfolding read_of limit gather blocks operand ranked links inside front_at text_run scan
t13 = refl

-- '#end'
t14 : read_of (35 ∷ 101 ∷ 110 ∷ 100 ∷ []) ≡ Err (BadDirective 0)
unfolding read_of limit gather blocks operand ranked links inside front_at text_run scan
t14 = refl

-- 'ab#elseif(true)'
t15 : read_of (97 ∷ 98 ∷ 35 ∷ 101 ∷ 108 ∷ 115 ∷ 101 ∷ 105 ∷ 102 ∷ 40 ∷ 116 ∷ 114 ∷ 117 ∷ 101 ∷ 41 ∷ []) ≡ Err (BadDirective 2)
unfolding read_of limit gather blocks operand ranked links inside front_at text_run scan
t15 = refl

-- '#if(true)#else#else#end'
t16 : read_of (35 ∷ 105 ∷ 102 ∷ 40 ∷ 116 ∷ 114 ∷ 117 ∷ 101 ∷ 41 ∷ 35 ∷ 101 ∷ 108 ∷ 115 ∷ 101 ∷ 35 ∷ 101 ∷ 108 ∷ 115 ∷ 101 ∷ 35 ∷ 101 ∷ 110 ∷ 100 ∷ []) ≡ Err (BadDirective 14)
unfolding read_of limit gather blocks operand ranked links inside front_at text_run scan
t16 = refl

-- '#if(true)#else#elseif(true)#end'
t17 : read_of (35 ∷ 105 ∷ 102 ∷ 40 ∷ 116 ∷ 114 ∷ 117 ∷ 101 ∷ 41 ∷ 35 ∷ 101 ∷ 108 ∷ 115 ∷ 101 ∷ 35 ∷ 101 ∷ 108 ∷ 115 ∷ 101 ∷ 105 ∷ 102 ∷ 40 ∷ 116 ∷ 114 ∷ 117 ∷ 101 ∷ 41 ∷ 35 ∷ 101 ∷ 110 ∷ 100 ∷ []) ≡ Err (BadDirective 14)
unfolding read_of limit gather blocks operand ranked links inside front_at text_run scan
t17 = refl

-- "a#parse('x')"
t18 : read_of (97 ∷ 35 ∷ 112 ∷ 97 ∷ 114 ∷ 115 ∷ 101 ∷ 40 ∷ 39 ∷ 120 ∷ 39 ∷ 41 ∷ []) ≡ Err (BadDirective 1)
unfolding read_of limit gather blocks operand ranked links inside front_at text_run scan
t18 = refl

-- 'a#{parse}'
t19 : read_of (97 ∷ 35 ∷ 123 ∷ 112 ∷ 97 ∷ 114 ∷ 115 ∷ 101 ∷ 125 ∷ []) ≡ Err (BadDirective 1)
unfolding read_of limit gather blocks operand ranked links inside front_at text_run scan
t19 = refl

-- "a#evaluate('x')"
t20 : read_of (97 ∷ 35 ∷ 101 ∷ 118 ∷ 97 ∷ 108 ∷ 117 ∷ 97 ∷ 116 ∷ 101 ∷ 40 ∷ 39 ∷ 120 ∷ 39 ∷ 41 ∷ []) ≡ Err (BadDirective 1)
unfolding read_of limit gather blocks operand ranked links inside front_at text_run scan
t20 = refl

-- 'a#{evaluate}'
t21 : read_of (97 ∷ 35 ∷ 123 ∷ 101 ∷ 118 ∷ 97 ∷ 108 ∷ 117 ∷ 97 ∷ 116 ∷ 101 ∷ 125 ∷ []) ≡ Err (BadDirective 1)
unfolding read_of limit gather blocks operand ranked links inside front_at text_run scan
t21 = refl

-- '#set(x=1)'
t22 : read_of (35 ∷ 115 ∷ 101 ∷ 116 ∷ 40 ∷ 120 ∷ 61 ∷ 49 ∷ 41 ∷ []) ≡ Err (BadDirective 0)
unfolding read_of limit gather blocks operand ranked links inside front_at text_run scan
t22 = refl

-- '#set($x.y=1)'
t23 : read_of (35 ∷ 115 ∷ 101 ∷ 116 ∷ 40 ∷ 36 ∷ 120 ∷ 46 ∷ 121 ∷ 61 ∷ 49 ∷ 41 ∷ []) ≡ Err (BadDirective 0)
unfolding read_of limit gather blocks operand ranked links inside front_at text_run scan
t23 = refl

-- '#set($x[0]=1)'
t24 : read_of (35 ∷ 115 ∷ 101 ∷ 116 ∷ 40 ∷ 36 ∷ 120 ∷ 91 ∷ 48 ∷ 93 ∷ 61 ∷ 49 ∷ 41 ∷ []) ≡ Err (BadDirective 0)
unfolding read_of limit gather blocks operand ranked links inside front_at text_run scan
t24 = refl

-- '#set($x 1)'
t25 : read_of (35 ∷ 115 ∷ 101 ∷ 116 ∷ 40 ∷ 36 ∷ 120 ∷ 32 ∷ 49 ∷ 41 ∷ []) ≡ Err (BadDirective 0)
unfolding read_of limit gather blocks operand ranked links inside front_at text_run scan
t25 = refl

-- '#set($input=1)'
t26 : read_of (35 ∷ 115 ∷ 101 ∷ 116 ∷ 40 ∷ 36 ∷ 105 ∷ 110 ∷ 112 ∷ 117 ∷ 116 ∷ 61 ∷ 49 ∷ 41 ∷ []) ≡ Err (BadDirective 0)
unfolding read_of limit gather blocks operand ranked links inside front_at text_run scan
t26 = refl

-- '#set($util=1)'
t27 : read_of (35 ∷ 115 ∷ 101 ∷ 116 ∷ 40 ∷ 36 ∷ 117 ∷ 116 ∷ 105 ∷ 108 ∷ 61 ∷ 49 ∷ 41 ∷ []) ≡ Err (BadDirective 0)
unfolding read_of limit gather blocks operand ranked links inside front_at text_run scan
t27 = refl

-- '#set($x == 1)'
t28 : read_of (35 ∷ 115 ∷ 101 ∷ 116 ∷ 40 ∷ 36 ∷ 120 ∷ 32 ∷ 61 ∷ 61 ∷ 32 ∷ 49 ∷ 41 ∷ []) ≡ Err (BadExpression 9)
unfolding read_of limit gather blocks operand ranked links inside front_at text_run scan
t28 = refl

-- '#set($x = )'
t29 : read_of (35 ∷ 115 ∷ 101 ∷ 116 ∷ 40 ∷ 36 ∷ 120 ∷ 32 ∷ 61 ∷ 32 ∷ 41 ∷ []) ≡ Err (BadExpression 10)
unfolding read_of limit gather blocks operand ranked links inside front_at text_run scan
t29 = refl

-- '#set($x = 1 2)'
t30 : read_of (35 ∷ 115 ∷ 101 ∷ 116 ∷ 40 ∷ 36 ∷ 120 ∷ 32 ∷ 61 ∷ 32 ∷ 49 ∷ 32 ∷ 50 ∷ 41 ∷ []) ≡ Err (BadExpression 12)
unfolding read_of limit gather blocks operand ranked links inside front_at text_run scan
t30 = refl

-- '#foreach(${x} in $y)#end'
t31 : read_of (35 ∷ 102 ∷ 111 ∷ 114 ∷ 101 ∷ 97 ∷ 99 ∷ 104 ∷ 40 ∷ 36 ∷ 123 ∷ 120 ∷ 125 ∷ 32 ∷ 105 ∷ 110 ∷ 32 ∷ 36 ∷ 121 ∷ 41 ∷ 35 ∷ 101 ∷ 110 ∷ 100 ∷ []) ≡ Err (BadDirective 0)
unfolding read_of limit gather blocks operand ranked links inside front_at text_run scan
t31 = refl

-- '#foreach(x in $y)#end'
t32 : read_of (35 ∷ 102 ∷ 111 ∷ 114 ∷ 101 ∷ 97 ∷ 99 ∷ 104 ∷ 40 ∷ 120 ∷ 32 ∷ 105 ∷ 110 ∷ 32 ∷ 36 ∷ 121 ∷ 41 ∷ 35 ∷ 101 ∷ 110 ∷ 100 ∷ []) ≡ Err (BadDirective 0)
unfolding read_of limit gather blocks operand ranked links inside front_at text_run scan
t32 = refl

-- '#set($r=1+9223372036854775808)'
t33 : read_of (35 ∷ 115 ∷ 101 ∷ 116 ∷ 40 ∷ 36 ∷ 114 ∷ 61 ∷ 49 ∷ 43 ∷ 57 ∷ 50 ∷ 50 ∷ 51 ∷ 51 ∷ 55 ∷ 50 ∷ 48 ∷ 51 ∷ 54 ∷ 56 ∷ 53 ∷ 52 ∷ 55 ∷ 55 ∷ 53 ∷ 56 ∷ 48 ∷ 56 ∷ 41 ∷ []) ≡ Err (BadExpression 10)
unfolding read_of limit gather blocks operand ranked links inside front_at text_run scan
t33 = refl

-- '#set($r=99999999999999999999.5)'
t34 : read_of (35 ∷ 115 ∷ 101 ∷ 116 ∷ 40 ∷ 36 ∷ 114 ∷ 61 ∷ 57 ∷ 57 ∷ 57 ∷ 57 ∷ 57 ∷ 57 ∷ 57 ∷ 57 ∷ 57 ∷ 57 ∷ 57 ∷ 57 ∷ 57 ∷ 57 ∷ 57 ∷ 57 ∷ 57 ∷ 57 ∷ 57 ∷ 57 ∷ 46 ∷ 53 ∷ 41 ∷ []) ≡ Err (BadExpression 8)
unfolding read_of limit gather blocks operand ranked links inside front_at text_run scan
t34 = refl

-- '#set($r=- 1)'
t35 : read_of (35 ∷ 115 ∷ 101 ∷ 116 ∷ 40 ∷ 36 ∷ 114 ∷ 61 ∷ 45 ∷ 32 ∷ 49 ∷ 41 ∷ []) ≡ Err (BadExpression 9)
unfolding read_of limit gather blocks operand ranked links inside front_at text_run scan
t35 = refl

-- '#set($r=1 & 2)'
t36 : read_of (35 ∷ 115 ∷ 101 ∷ 116 ∷ 40 ∷ 36 ∷ 114 ∷ 61 ∷ 49 ∷ 32 ∷ 38 ∷ 32 ∷ 50 ∷ 41 ∷ []) ≡ Err (BadExpression 11)
unfolding read_of limit gather blocks operand ranked links inside front_at text_run scan
t36 = refl

-- '#set($r=1 ! 2)'
t37 : read_of (35 ∷ 115 ∷ 101 ∷ 116 ∷ 40 ∷ 36 ∷ 114 ∷ 61 ∷ 49 ∷ 32 ∷ 33 ∷ 32 ∷ 50 ∷ 41 ∷ []) ≡ Err (BadExpression 11)
unfolding read_of limit gather blocks operand ranked links inside front_at text_run scan
t37 = refl

-- '#set($r=1 eqx 2)'
t38 : read_of (35 ∷ 115 ∷ 101 ∷ 116 ∷ 40 ∷ 36 ∷ 114 ∷ 61 ∷ 49 ∷ 32 ∷ 101 ∷ 113 ∷ 120 ∷ 32 ∷ 50 ∷ 41 ∷ []) ≡ Err (BadExpression 12)
unfolding read_of limit gather blocks operand ranked links inside front_at text_run scan
t38 = refl

-- '#set($r=1 eq2)'
t39 : read_of (35 ∷ 115 ∷ 101 ∷ 116 ∷ 40 ∷ 36 ∷ 114 ∷ 61 ∷ 49 ∷ 32 ∷ 101 ∷ 113 ∷ 50 ∷ 41 ∷ []) ≡ Err (BadExpression 12)
unfolding read_of limit gather blocks operand ranked links inside front_at text_run scan
t39 = refl

-- '#set($r=truex)'
t40 : read_of (35 ∷ 115 ∷ 101 ∷ 116 ∷ 40 ∷ 36 ∷ 114 ∷ 61 ∷ 116 ∷ 114 ∷ 117 ∷ 101 ∷ 120 ∷ 41 ∷ []) ≡ Err (BadExpression 12)
unfolding read_of limit gather blocks operand ranked links inside front_at text_run scan
t40 = refl

-- '#set($r=tru)'
t41 : read_of (35 ∷ 115 ∷ 101 ∷ 116 ∷ 40 ∷ 36 ∷ 114 ∷ 61 ∷ 116 ∷ 114 ∷ 117 ∷ 41 ∷ []) ≡ Err (BadExpression 11)
unfolding read_of limit gather blocks operand ranked links inside front_at text_run scan
t41 = refl

-- '#set($r=null)'
t42 : read_of (35 ∷ 115 ∷ 101 ∷ 116 ∷ 40 ∷ 36 ∷ 114 ∷ 61 ∷ 110 ∷ 117 ∷ 108 ∷ 108 ∷ 41 ∷ []) ≡ Err (BadExpression 9)
unfolding read_of limit gather blocks operand ranked links inside front_at text_run scan
t42 = refl

-- '#set($r=foo)'
t43 : read_of (35 ∷ 115 ∷ 101 ∷ 116 ∷ 40 ∷ 36 ∷ 114 ∷ 61 ∷ 102 ∷ 111 ∷ 111 ∷ 41 ∷ []) ≡ Err (BadExpression 9)
unfolding read_of limit gather blocks operand ranked links inside front_at text_run scan
t43 = refl

-- '#set($r=$1)'
t44 : read_of (35 ∷ 115 ∷ 101 ∷ 116 ∷ 40 ∷ 36 ∷ 114 ∷ 61 ∷ 36 ∷ 49 ∷ 41 ∷ []) ≡ Err (BadExpression 9)
unfolding read_of limit gather blocks operand ranked links inside front_at text_run scan
t44 = refl

-- '#set($r=$x.)'
t45 : read_of (35 ∷ 115 ∷ 101 ∷ 116 ∷ 40 ∷ 36 ∷ 114 ∷ 61 ∷ 36 ∷ 120 ∷ 46 ∷ 41 ∷ []) ≡ Err (BadExpression 11)
unfolding read_of limit gather blocks operand ranked links inside front_at text_run scan
t45 = refl

-- '#set($r=$x..y)'
t46 : read_of (35 ∷ 115 ∷ 101 ∷ 116 ∷ 40 ∷ 36 ∷ 114 ∷ 61 ∷ 36 ∷ 120 ∷ 46 ∷ 46 ∷ 121 ∷ 41 ∷ []) ≡ Err (BadExpression 11)
unfolding read_of limit gather blocks operand ranked links inside front_at text_run scan
t46 = refl

-- '#set($r="a".length())'
t47 : read_of (35 ∷ 115 ∷ 101 ∷ 116 ∷ 40 ∷ 36 ∷ 114 ∷ 61 ∷ 34 ∷ 97 ∷ 34 ∷ 46 ∷ 108 ∷ 101 ∷ 110 ∷ 103 ∷ 116 ∷ 104 ∷ 40 ∷ 41 ∷ 41 ∷ []) ≡ Err (BadExpression 11)
unfolding read_of limit gather blocks operand ranked links inside front_at text_run scan
t47 = refl

-- '#set($r=[1, 2..3])'
t48 : read_of (35 ∷ 115 ∷ 101 ∷ 116 ∷ 40 ∷ 36 ∷ 114 ∷ 61 ∷ 91 ∷ 49 ∷ 44 ∷ 32 ∷ 50 ∷ 46 ∷ 46 ∷ 51 ∷ 93 ∷ 41 ∷ []) ≡ Err (BadExpression 13)
unfolding read_of limit gather blocks operand ranked links inside front_at text_run scan
t48 = refl

-- '#set($r=[1...2])'
t49 : read_of (35 ∷ 115 ∷ 101 ∷ 116 ∷ 40 ∷ 36 ∷ 114 ∷ 61 ∷ 91 ∷ 49 ∷ 46 ∷ 46 ∷ 46 ∷ 50 ∷ 93 ∷ 41 ∷ []) ≡ Err (BadExpression 12)
unfolding read_of limit gather blocks operand ranked links inside front_at text_run scan
t49 = refl

-- '#set($r=[(1..2)])'
t50 : read_of (35 ∷ 115 ∷ 101 ∷ 116 ∷ 40 ∷ 36 ∷ 114 ∷ 61 ∷ 91 ∷ 40 ∷ 49 ∷ 46 ∷ 46 ∷ 50 ∷ 41 ∷ 93 ∷ 41 ∷ []) ≡ Err (BadExpression 11)
unfolding read_of limit gather blocks operand ranked links inside front_at text_run scan
t50 = refl

-- '#set($r=[,])'
t51 : read_of (35 ∷ 115 ∷ 101 ∷ 116 ∷ 40 ∷ 36 ∷ 114 ∷ 61 ∷ 91 ∷ 44 ∷ 93 ∷ 41 ∷ []) ≡ Err (BadExpression 9)
unfolding read_of limit gather blocks operand ranked links inside front_at text_run scan
t51 = refl

-- '#set($r={1})'
t52 : read_of (35 ∷ 115 ∷ 101 ∷ 116 ∷ 40 ∷ 36 ∷ 114 ∷ 61 ∷ 123 ∷ 49 ∷ 125 ∷ 41 ∷ []) ≡ Err (BadExpression 10)
unfolding read_of limit gather blocks operand ranked links inside front_at text_run scan
t52 = refl

-- '#set($r="#end")'
t53 : read_of (35 ∷ 115 ∷ 101 ∷ 116 ∷ 40 ∷ 36 ∷ 114 ∷ 61 ∷ 34 ∷ 35 ∷ 101 ∷ 110 ∷ 100 ∷ 34 ∷ 41 ∷ []) ≡ Err (BadDirective 9)
unfolding read_of limit gather blocks operand ranked links inside front_at text_run scan
t53 = refl

-- '#set($r="#{set}")'
t54 : read_of (35 ∷ 115 ∷ 101 ∷ 116 ∷ 40 ∷ 36 ∷ 114 ∷ 61 ∷ 34 ∷ 35 ∷ 123 ∷ 115 ∷ 101 ∷ 116 ∷ 125 ∷ 34 ∷ 41 ∷ []) ≡ Err (BadDirective 9)
unfolding read_of limit gather blocks operand ranked links inside front_at text_run scan
t54 = refl

-- '#set($r="#parse")'
t55 : read_of (35 ∷ 115 ∷ 101 ∷ 116 ∷ 40 ∷ 36 ∷ 114 ∷ 61 ∷ 34 ∷ 35 ∷ 112 ∷ 97 ∷ 114 ∷ 115 ∷ 101 ∷ 34 ∷ 41 ∷ []) ≡ Err (BadDirective 9)
unfolding read_of limit gather blocks operand ranked links inside front_at text_run scan
t55 = refl

-- '#set($r="a\\#b")'
t56 : read_of (35 ∷ 115 ∷ 101 ∷ 116 ∷ 40 ∷ 36 ∷ 114 ∷ 61 ∷ 34 ∷ 97 ∷ 92 ∷ 35 ∷ 98 ∷ 34 ∷ 41 ∷ []) ≡ Err (Escape 10)
unfolding read_of limit gather blocks operand ranked links inside front_at text_run scan
t56 = refl

-- '#set($r="$a.get("k")")'
t57 : read_of (35 ∷ 115 ∷ 101 ∷ 116 ∷ 40 ∷ 36 ∷ 114 ∷ 61 ∷ 34 ∷ 36 ∷ 97 ∷ 46 ∷ 103 ∷ 101 ∷ 116 ∷ 40 ∷ 34 ∷ 107 ∷ 34 ∷ 41 ∷ 34 ∷ 41 ∷ []) ≡ Err (BadExpression 16)
unfolding read_of limit gather blocks operand ranked links inside front_at text_run scan
t57 = refl

-- '#set($r=!!!!!!!!!!!!!!!!!!!!!!!!!!!!!!!!!!!!!!!!!!!!!!!!!!!!!!!!!!!!!!!!!true)$r'
t58 : read_of (35 ∷ 115 ∷ 101 ∷ 116 ∷ 40 ∷ 36 ∷ 114 ∷ 61 ∷ 33 ∷ 33 ∷ 33 ∷ 33 ∷ 33 ∷ 33 ∷ 33 ∷ 33 ∷ 33 ∷ 33 ∷ 33 ∷ 33 ∷ 33 ∷ 33 ∷ 33 ∷ 33 ∷ 33 ∷ 33 ∷ 33 ∷ 33 ∷ 33 ∷ 33 ∷ 33 ∷ 33 ∷ 33 ∷ 33 ∷ 33 ∷ 33 ∷ 33 ∷ 33 ∷ 33 ∷ 33 ∷ 33 ∷ 33 ∷ 33 ∷ 33 ∷ 33 ∷ 33 ∷ 33 ∷ 33 ∷ 33 ∷ 33 ∷ 33 ∷ 33 ∷ 33 ∷ 33 ∷ 33 ∷ 33 ∷ 33 ∷ 33 ∷ 33 ∷ 33 ∷ 33 ∷ 33 ∷ 33 ∷ 33 ∷ 33 ∷ 33 ∷ 33 ∷ 33 ∷ 33 ∷ 33 ∷ 33 ∷ 33 ∷ 33 ∷ 116 ∷ 114 ∷ 117 ∷ 101 ∷ 41 ∷ 36 ∷ 114 ∷ []) ≡ Err (TooDeep 72)
unfolding read_of limit gather blocks operand ranked links inside front_at text_run scan
t58 = refl

-- '$a.length(1)'
t59 : read_of (36 ∷ 97 ∷ 46 ∷ 108 ∷ 101 ∷ 110 ∷ 103 ∷ 116 ∷ 104 ∷ 40 ∷ 49 ∷ 41 ∷ []) ≡ Err (UnsupportedMethod 3)
unfolding read_of limit gather blocks operand ranked links inside front_at text_run scan
t59 = refl

-- '$a.substring()'
t60 : read_of (36 ∷ 97 ∷ 46 ∷ 115 ∷ 117 ∷ 98 ∷ 115 ∷ 116 ∷ 114 ∷ 105 ∷ 110 ∷ 103 ∷ 40 ∷ 41 ∷ []) ≡ Err (UnsupportedMethod 3)
unfolding read_of limit gather blocks operand ranked links inside front_at text_run scan
t60 = refl

-- '$a.substring(1,2,3)'
t61 : read_of (36 ∷ 97 ∷ 46 ∷ 115 ∷ 117 ∷ 98 ∷ 115 ∷ 116 ∷ 114 ∷ 105 ∷ 110 ∷ 103 ∷ 40 ∷ 49 ∷ 44 ∷ 50 ∷ 44 ∷ 51 ∷ 41 ∷ []) ≡ Err (UnsupportedMethod 3)
unfolding read_of limit gather blocks operand ranked links inside front_at text_run scan
t61 = refl

-- '$a.b.c.foo()'
t62 : read_of (36 ∷ 97 ∷ 46 ∷ 98 ∷ 46 ∷ 99 ∷ 46 ∷ 102 ∷ 111 ∷ 111 ∷ 40 ∷ 41 ∷ []) ≡ Err (UnsupportedMethod 7)
unfolding read_of limit gather blocks operand ranked links inside front_at text_run scan
t62 = refl

-- '$foreach.hasNext()'
t63 : read_of (36 ∷ 102 ∷ 111 ∷ 114 ∷ 101 ∷ 97 ∷ 99 ∷ 104 ∷ 46 ∷ 104 ∷ 97 ∷ 115 ∷ 78 ∷ 101 ∷ 120 ∷ 116 ∷ 40 ∷ 41 ∷ []) ≡ Err (UnsupportedMethod 9)
unfolding read_of limit gather blocks operand ranked links inside front_at text_run scan
t63 = refl

-- '$a.get(1 2)'
t64 : read_of (36 ∷ 97 ∷ 46 ∷ 103 ∷ 101 ∷ 116 ∷ 40 ∷ 49 ∷ 32 ∷ 50 ∷ 41 ∷ []) ≡ Err (BadExpression 9)
unfolding read_of limit gather blocks operand ranked links inside front_at text_run scan
t64 = refl

-- '#macro(m $p)$p#end#m()'
t65 : read_of (35 ∷ 109 ∷ 97 ∷ 99 ∷ 114 ∷ 111 ∷ 40 ∷ 109 ∷ 32 ∷ 36 ∷ 112 ∷ 41 ∷ 36 ∷ 112 ∷ 35 ∷ 101 ∷ 110 ∷ 100 ∷ 35 ∷ 109 ∷ 40 ∷ 41 ∷ []) ≡ Err (BadDirective 18)
unfolding read_of limit gather blocks operand ranked links inside front_at text_run scan
t65 = refl

-- '#macro(m)#end#m'
t66 : read_of (35 ∷ 109 ∷ 97 ∷ 99 ∷ 114 ∷ 111 ∷ 40 ∷ 109 ∷ 41 ∷ 35 ∷ 101 ∷ 110 ∷ 100 ∷ 35 ∷ 109 ∷ []) ≡ Err (BadDirective 13)
unfolding read_of limit gather blocks operand ranked links inside front_at text_run scan
t66 = refl

-- '#macro(m $p)#set($p=1)#end'
t67 : read_of (35 ∷ 109 ∷ 97 ∷ 99 ∷ 114 ∷ 111 ∷ 40 ∷ 109 ∷ 32 ∷ 36 ∷ 112 ∷ 41 ∷ 35 ∷ 115 ∷ 101 ∷ 116 ∷ 40 ∷ 36 ∷ 112 ∷ 61 ∷ 49 ∷ 41 ∷ 35 ∷ 101 ∷ 110 ∷ 100 ∷ []) ≡ Err (ParamAssigned 18)
unfolding read_of limit gather blocks operand ranked links inside front_at text_run scan
t67 = refl

-- '#macro(m)#end#m(1)$x.put()'
t68 : read_of (35 ∷ 109 ∷ 97 ∷ 99 ∷ 114 ∷ 111 ∷ 40 ∷ 109 ∷ 41 ∷ 35 ∷ 101 ∷ 110 ∷ 100 ∷ 35 ∷ 109 ∷ 40 ∷ 49 ∷ 41 ∷ 36 ∷ 120 ∷ 46 ∷ 112 ∷ 117 ∷ 116 ∷ 40 ∷ 41 ∷ []) ≡ Err (UnsupportedMethod 21)
unfolding read_of limit gather blocks operand ranked links inside front_at text_run scan
t68 = refl

-- '#m()#macro(m)'
t69 : read_of (35 ∷ 109 ∷ 40 ∷ 41 ∷ 35 ∷ 109 ∷ 97 ∷ 99 ∷ 114 ∷ 111 ∷ 40 ∷ 109 ∷ 41 ∷ []) ≡ Err (Unclosed 4)
unfolding read_of limit gather blocks operand ranked links inside front_at text_run scan
t69 = refl

-- '#if(1)#macro(m)#end#end'
t70 : read_of (35 ∷ 105 ∷ 102 ∷ 40 ∷ 49 ∷ 41 ∷ 35 ∷ 109 ∷ 97 ∷ 99 ∷ 114 ∷ 111 ∷ 40 ∷ 109 ∷ 41 ∷ 35 ∷ 101 ∷ 110 ∷ 100 ∷ 35 ∷ 101 ∷ 110 ∷ 100 ∷ []) ≡ Err (BadDirective 6)
unfolding read_of limit gather blocks operand ranked links inside front_at text_run scan
t70 = refl

-- '#macro(m)#end#macro(m)#end'
t71 : read_of (35 ∷ 109 ∷ 97 ∷ 99 ∷ 114 ∷ 111 ∷ 40 ∷ 109 ∷ 41 ∷ 35 ∷ 101 ∷ 110 ∷ 100 ∷ 35 ∷ 109 ∷ 97 ∷ 99 ∷ 114 ∷ 111 ∷ 40 ∷ 109 ∷ 41 ∷ 35 ∷ 101 ∷ 110 ∷ 100 ∷ []) ≡ Err (BadDirective 13)
unfolding read_of limit gather blocks operand ranked links inside front_at text_run scan
t71 = refl

-- '#set($a='#macro(q)')#q()'
t72 : read_of (35 ∷ 115 ∷ 101 ∷ 116 ∷ 40 ∷ 36 ∷ 97 ∷ 61 ∷ 39 ∷ 35 ∷ 109 ∷ 97 ∷ 99 ∷ 114 ∷ 111 ∷ 40 ∷ 113 ∷ 41 ∷ 39 ∷ 41 ∷ 35 ∷ 113 ∷ 40 ∷ 41 ∷ []) ≡ Err (BadDirective 20)
unfolding read_of limit gather blocks operand ranked links inside front_at text_run scan
t72 = refl

-- '#macro(m $p)#foreach($p in [1])#end#end'
t73 : read_of (35 ∷ 109 ∷ 97 ∷ 99 ∷ 114 ∷ 111 ∷ 40 ∷ 109 ∷ 32 ∷ 36 ∷ 112 ∷ 41 ∷ 35 ∷ 102 ∷ 111 ∷ 114 ∷ 101 ∷ 97 ∷ 99 ∷ 104 ∷ 40 ∷ 36 ∷ 112 ∷ 32 ∷ 105 ∷ 110 ∷ 32 ∷ 91 ∷ 49 ∷ 93 ∷ 41 ∷ 35 ∷ 101 ∷ 110 ∷ 100 ∷ 35 ∷ 101 ∷ 110 ∷ 100 ∷ []) ≡ Err (ParamAssigned 22)
unfolding read_of limit gather blocks operand ranked links inside front_at text_run scan
t73 = refl

-- '#*#macro(m)*##m()'
t74 : read_of (35 ∷ 42 ∷ 35 ∷ 109 ∷ 97 ∷ 99 ∷ 114 ∷ 111 ∷ 40 ∷ 109 ∷ 41 ∷ 42 ∷ 35 ∷ 35 ∷ 109 ∷ 40 ∷ 41 ∷ []) ≡ Ok (item comment (item (text (35 ∷ 109 ∷ 40 ∷ 41 ∷ [])) no_items))
unfolding read_of limit gather blocks operand ranked links inside front_at text_run scan
t74 = refl

-- '#m(1 2)#macro(m $p $q)#end'
t75 : read_of (35 ∷ 109 ∷ 40 ∷ 49 ∷ 32 ∷ 50 ∷ 41 ∷ 35 ∷ 109 ∷ 97 ∷ 99 ∷ 114 ∷ 111 ∷ 40 ∷ 109 ∷ 32 ∷ 36 ∷ 112 ∷ 32 ∷ 36 ∷ 113 ∷ 41 ∷ 35 ∷ 101 ∷ 110 ∷ 100 ∷ []) ≡ Ok (item (macro_call 26 (109 ∷ []) (expr (whole (pos 1)) (expr (whole (pos 2)) no_exprs))) (item (define (109 ∷ []) ((112 ∷ []) ∷ (113 ∷ []) ∷ []) no_items) no_items))
unfolding read_of limit gather blocks operand ranked links inside front_at text_run scan
t75 = refl
