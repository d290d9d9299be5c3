-- Which tree a node stands for.
use Rattle.std.specs.Prelude.{◌≡◌, ℕ, zero, suc, ◌<◌, ◌≤◌, List, [], ◌∷◌, length, map, Option, Some, None, slice_get}
use Rattle.std.specs.List.{AllByRecursion}
use Rattle.vtl_grammar.specs.Loops.{folded}
use Rattle.vtl_grammar.specs.Tree as tree
use Rattle.vtl_grammar.specs.Tree.{Expr, Item}
use Rattle.vtl_grammar.specs.Lists.{with_pair}
use Rattle.vtl_grammar.specs.Items.{with_items, with_branch}
use Rattle.vtl_words.specs.Views.{op_of}
use Rattle.vtl_reader.specs.declared.nodes.Link.{Link}
use Rattle.vtl_reader.specs.declared.nodes.Pair.{Pair}
use Rattle.vtl_reader.specs.declared.nodes.Branch.{Branch}
use Rattle.vtl_reader.specs.declared.nodes.Step.{Step}
use Rattle.vtl_reader.specs.declared.nodes.Step.TheVariants as steps
use Rattle.vtl_reader.specs.declared.nodes.Part.{Part}
use Rattle.vtl_reader.specs.declared.nodes.Part.TheVariants as parts
use Rattle.vtl_reader.specs.declared.nodes.Target.{Target}
use Rattle.vtl_reader.specs.declared.nodes.Target.TheVariants as targets
use Rattle.vtl_reader.specs.declared.nodes.ExprNode.{ExprNode}
use Rattle.vtl_reader.specs.declared.nodes.ExprNode.TheVariants as n
use Rattle.vtl_reader.specs.declared.nodes.ItemNode.{ItemNode}
use Rattle.vtl_reader.specs.declared.nodes.ItemNode.TheVariants as i

-- the trees of expressions, where f gives those of their parts

abbrev pub exprs_made : (ℕ → Expr) → List ℕ → tree.Exprs
exprs_made f ids = folded tree.expr tree.no_exprs (map f ids)

abbrev pub step_made : (ℕ → Expr) → Step → tree.Step
step_made f (steps.Member x) = tree.member x
step_made f (steps.Call x ids) = tree.call x (exprs_made f ids.items)
step_made f (steps.Index k) = tree.index (f k)

abbrev pub steps_made : (ℕ → Expr) → List Step → tree.Steps
steps_made f xs = folded tree.step tree.no_steps (map (step_made f) xs)

abbrev pub part_made : (ℕ → Expr) → Part → tree.Part
part_made f (parts.Bytes t) = tree.bytes t
part_made f (parts.Printed source x ss) = tree.printed source (tree.named x) (steps_made f ss.items)

abbrev pub parts_made : (ℕ → Expr) → List Part → tree.Parts
parts_made f xs = folded tree.part tree.no_parts (map (part_made f) xs)

abbrev pub pair_made : (ℕ → Expr) → Pair → Expr × Expr
pair_made f p = (f p.key, f p.value)

abbrev pub pairs_made : (ℕ → Expr) → List Pair → tree.Pairs
pairs_made f ps = folded with_pair tree.no_pairs (map (pair_made f) ps)

-- a chain is joined to the left
abbrev pub chained : (ℕ → Expr) → Expr → List Link → Expr
chained f x [] = x
chained f x (l ∷ ls) = chained f (tree.binary (op_of l.operator) x (f l.operand)) ls

abbrev pub made : (ℕ → Expr) → ExprNode → Expr
made f (n.Whole z) = tree.whole z
made f (n.Boolean b) = tree.boolean b
made f (n.Text t) = tree.string t
made f (n.Joined ps) = tree.joined (parts_made f ps.items)
made f (n.Negated k) = tree.negated (f k)
made f (n.Chain k ls) = chained f (f k) ls.items
made f (n.List ids) = tree.listed (exprs_made f ids.items)
made f (n.Range a b) = tree.range (f a) (f b)
made f (n.Map ps) = tree.mapped (pairs_made f ps.items)
made f (n.Reference x ss) = tree.reference (tree.named x) (steps_made f ss.items)

-- the parts of a node stand before n

abbrev pub AllBelow : ℕ → List ℕ → Type 0
AllBelow n ids = AllByRecursion (λ k. k < n) ids

abbrev pub StepBelow : ℕ → Step → Type 0
StepBelow n (steps.Member x) = Unit {0}
StepBelow n (steps.Call x ids) = AllBelow n ids.items
StepBelow n (steps.Index k) = k < n

abbrev pub StepsBelow : ℕ → List Step → Type 0
StepsBelow n xs = AllByRecursion (StepBelow n) xs

abbrev pub PartBelow : ℕ → Part → Type 0
PartBelow n (parts.Bytes t) = Unit {0}
PartBelow n (parts.Printed source x ss) = StepsBelow n ss.items

abbrev pub PartsBelow : ℕ → List Part → Type 0
PartsBelow n xs = AllByRecursion (PartBelow n) xs

abbrev pub PairBelow : ℕ → Pair → Type 0
PairBelow n p = (p.key < n) × (p.value < n)

abbrev pub PairsBelow : ℕ → List Pair → Type 0
PairsBelow n ps = AllByRecursion (PairBelow n) ps

abbrev pub LinksBelow : ℕ → List Link → Type 0
LinksBelow n ls = AllByRecursion (λ l. l.operand < n) ls

abbrev pub IsBelow : ℕ → ExprNode → Type 0
IsBelow k (n.Whole z) = Unit {0}
IsBelow k (n.Boolean b) = Unit {0}
IsBelow k (n.Text t) = Unit {0}
IsBelow k (n.Joined ps) = PartsBelow k ps.items
IsBelow k (n.Negated j) = j < k
IsBelow k (n.Chain j ls) = (j < k) × LinksBelow k ls.items
IsBelow k (n.List ids) = AllBelow k ids.items
IsBelow k (n.Range a b) = (a < k) × (b < k)
IsBelow k (n.Map ps) = PairsBelow k ps.items
IsBelow k (n.Reference x ss) = StepsBelow k ss.items

abbrev pub there : (ℕ → Expr) → Option ExprNode → Expr
there f None = tree.listed tree.no_exprs
there f (Some x) = made f x

unfoldable pub expr_within : ℕ → List ExprNode → ℕ → Expr
expr_within zero ns k = tree.listed tree.no_exprs
expr_within (suc d) ns k = there (expr_within d ns) (slice_get ns k)

-- the tree of the expression with this number
abbrev pub expr_of : List ExprNode → ℕ → Expr
expr_of ns k = expr_within (suc k) ns k

-- items, where e gives the trees of expressions and f those of the items inside

abbrev pub items_made : (ℕ → Item) → List ℕ → tree.Items
items_made f ids = with_items (map f ids) tree.no_items

abbrev pub target_of : Target → tree.Target
target_of (targets.Variable x) = tree.variable x
target_of (targets.Context xs) = tree.context xs.items

abbrev pub branch_made : (ℕ → Expr) → (ℕ → Item) → Branch → Expr × tree.Items
branch_made e f b = (e b.condition, items_made f b.items.items)

abbrev pub branches_made : (ℕ → Expr) → (ℕ → Item) → List Branch → tree.Items → tree.Branches
branches_made e f bs is = folded with_branch (tree.otherwise is) (map (branch_made e f) bs)

abbrev pub item_made : (ℕ → Expr) → (ℕ → Item) → ItemNode → Item
item_made e f (i.Text t) = tree.text t
item_made e f i.Comment = tree.comment
item_made e f (i.Output source x ss) = tree.output source (tree.named x) (steps_made e ss.items)
item_made e f (i.Set target k) = tree.set (target_of target) (e k)
item_made e f (i.If bs is) = tree.choose (branches_made e f bs.items (items_made f is.items))
item_made e f (i.ForEach x k is) = tree.foreach x (e k) (items_made f is.items)
item_made e f i.Break = tree.break_
item_made e f i.Stop = tree.stop
item_made e f (i.Define x ps is) = tree.define x ps (items_made f is.items)
item_made e f (i.MacroCall at x ids) = tree.macro_call at x (exprs_made e ids.items)

-- the expressions of an item stand before n, and its items before k
abbrev pub BranchBelow : ℕ → ℕ → Branch → Type 0
BranchBelow n k b = (b.condition < n) × AllBelow k b.items.items

abbrev pub BranchesBelow : ℕ → ℕ → List Branch → Type 0
BranchesBelow n k bs = AllByRecursion (BranchBelow n k) bs

abbrev pub ItemIsBelow : ℕ → ℕ → ItemNode → Type 0
ItemIsBelow n k (i.Text t) = Unit {0}
ItemIsBelow n k i.Comment = Unit {0}
ItemIsBelow n k (i.Output source x ss) = StepsBelow n ss.items
ItemIsBelow n k (i.Set target j) = j < n
ItemIsBelow n k (i.If bs is) = BranchesBelow n k bs.items × AllBelow k is.items
ItemIsBelow n k (i.ForEach x j is) = (j < n) × AllBelow k is.items
ItemIsBelow n k i.Break = Unit {0}
ItemIsBelow n k i.Stop = Unit {0}
ItemIsBelow n k (i.Define x ps is) = AllBelow k is.items
ItemIsBelow n k (i.MacroCall at x ids) = AllBelow n ids.items

abbrev pub item_there : (ℕ → Expr) → (ℕ → Item) → Option ItemNode → Item
item_there e f None = tree.comment
item_there e f (Some x) = item_made e f x

unfoldable pub item_within : (ℕ → Expr) → ℕ → List ItemNode → ℕ → Item
item_within e zero ns k = tree.comment
item_within e (suc d) ns k = item_there e (item_within e d ns) (slice_get ns k)

-- expressions and items
pub record Nodes : Type 0 where
  pub exprs : List ExprNode
  pub items : List ItemNode

-- the tree of the item with this number
abbrev pub item_of : Nodes → ℕ → Item
item_of ns k = item_within (expr_of ns.exprs) (suc k) ns.items k

-- the parts of each node stand before it
pub record AreOrdered (ns : Nodes) : Type 0 where
  pub exprs : (k : ℕ) (x : ExprNode) → slice_get ns.exprs k ≡ Some x → IsBelow k x
  pub items : (k : ℕ) (x : ItemNode) → slice_get ns.items k ≡ Some x → ItemIsBelow (length ns.exprs) k x

-- the trees of the old nodes stand
pub record Keeps (old new : Nodes) : Type 0 where
  pub more_exprs : length old.exprs ≤ length new.exprs
  pub more_items : length old.items ≤ length new.items
  pub same_exprs : (k : ℕ) → k < length old.exprs → expr_of new.exprs k ≡ expr_of old.exprs k
  pub same_items : (k : ℕ) → k < length old.items → item_of new k ≡ item_of old k
