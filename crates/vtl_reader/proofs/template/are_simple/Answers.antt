use Rattle.std.proofs.Common.{◌≡◌, ◌∙◌, sym, ap, arith, true, false, get_or}
use Rattle.vtl_grammar.specs.Uses.{is_simple_item}
use Rattle.vtl_reader.specs.Nodes.{item_of, expr_of}
use Rattle.vtl_reader.proofs.Simple.{simple_goes_on, simple_stops, simple_made, below_at}
use Rattle.vtl_reader.proofs.template.are_simple.Goals as goal

pub item-requires : goal.item-requires
item-requires c = record { stands = below_at _ c.args.items.now c.loop-n.n 0 c.requires.below c.loop-n-test.true }

pub loop-n-preserved : goal.loop-n-preserved
loop-n-preserved c =
    let simple : is_simple_item (item_of c.args.arena.now (get_or c.args.items.now c.loop-n.n 0)) ≡ true =
    ap is_simple_item c.item.ensures.opened ∙ simple_made (expr_of c.args.arena.now.exprs) (item_of c.args.arena.now) c.item.result.now ∙ sym c.if-not-is_simple_node.ensures in
    (omega (arith, c.loop-n-test.true), simple_goes_on (item_of c.args.arena.now) c.args.items.now c.loop-n.n 0 _ c.loop-n-test.true c.loop-n.invariant.1 simple)

pub returns-then-not-is_simple_node : goal.returns-then-not-is_simple_node
returns-then-not-is_simple_node c =
    let simple : is_simple_item (item_of c.args.arena.now (get_or c.args.items.now c.loop-n.n 0)) ≡ false =
    ap is_simple_item c.item.ensures.opened ∙ simple_made (expr_of c.args.arena.now.exprs) (item_of c.args.arena.now) c.item.result.now ∙ sym c.if-not-is_simple_node.ensures in
    simple_stops (item_of c.args.arena.now) c.args.items.now c.loop-n.n 0 _ c.loop-n-test.true c.loop-n.invariant.1 simple
