use Rattle.std.proofs.Common.{◌≡◌, ◌+◌, ◌-◌, ◌*◌, length, map}
use Rattle.vtl_grammar.specs.Tree.{expr, step, part}
use Rattle.vtl_grammar.specs.Loops.{first, gather}
use Rattle.vtl_grammar.specs.Expressions.{operand, ranked, links, inside, reader}
use Rattle.vtl_grammar.specs.Lists.{element_turn, elements, pair_turn, pairs, with_pair}
use Rattle.vtl_grammar.specs.References.{argument_turn, arguments_after, step_turn}
use Rattle.vtl_grammar.specs.Strings.{part_turn}
use Rattle.vtl_words.specs.Fronts.{dots_view}
use Rattle.vtl_words.specs.Views.{how_of}
use Rattle.vtl_reader.specs.Nodes.{expr_of, step_made, part_made, pair_made, chained, LinksBelow, AllBelow, StepsBelow, PartsBelow, PairsBelow, Keeps}
use Rattle.vtl_reader.specs.Views.{joined}
use Rattle.vtl_reader.proofs.exprs.+exprs.Given as goal

abbrev pub decreases-read_rank : goal.decreases-read_rank
decreases-read_rank l = 40 * l.level + 2 * l.order + 22

abbrev pub decreases-read_links : goal.decreases-read_links
decreases-read_links l = 40 * l.level + 2 * l.order + 21

abbrev pub decreases-read_links-loop-fuel : goal.decreases-read_links-loop-fuel
decreases-read_links-loop-fuel l = l.fuel

abbrev pub invariant-read_links-loop-fuel : goal.invariant-read_links-loop-fuel
invariant-read_links-loop-fuel l = record {
  so_far :
      links (ranked (operand l.names (inside l.names l.level)) (l.order - 1) (how_of l.how)) (how_of l.how) l.order l.fuel (chained (expr_of l.arena.exprs) (expr_of l.arena.exprs l.first) l.further.items) l.rest
      ≡ links (ranked (operand l.names (inside l.names l.level)) (l.order - 1) (how_of l.how)) (how_of l.how) l.order (length l.bs + 1) (expr_of l.fn.arena.exprs l.first) l.bs;
  kept : Keeps l.fn.arena l.arena;
  below : LinksBelow (length l.arena.exprs) l.further.items;
}

abbrev pub decreases-read_operand : goal.decreases-read_operand
decreases-read_operand l = 40 * l.level + 20

abbrev pub decreases-read_negation : goal.decreases-read_negation
decreases-read_negation l = 40 * l.level

abbrev pub decreases-read_round : goal.decreases-read_round
decreases-read_round l = 40 * l.level

abbrev pub decreases-read_square : goal.decreases-read_square
decreases-read_square l = 40 * l.level

abbrev pub decreases-read_list : goal.decreases-read_list
decreases-read_list l = 40 * l.inner + 39

abbrev pub decreases-read_range : goal.decreases-read_range
decreases-read_range l = 40 * l.inner + 37

abbrev pub decreases-read_elements : goal.decreases-read_elements
decreases-read_elements l = 40 * l.inner + 37

abbrev pub decreases-read_element : goal.decreases-read_element
decreases-read_element l = 40 * l.inner + 36

abbrev pub decreases-read_elements-loop-fuel : goal.decreases-read_elements-loop-fuel
decreases-read_elements-loop-fuel l = l.fuel

abbrev pub invariant-read_elements-loop-fuel : goal.invariant-read_elements-loop-fuel
invariant-read_elements-loop-fuel l = record {
  so_far :
      joined expr (map (expr_of l.arena.exprs) l.ids.items) (gather (first expr) (element_turn (reader l.names (inside l.names l.inner))) l.fuel l.rest)
      ≡ elements (reader l.names (inside l.names l.inner)) (expr_of l.fn.arena.exprs l.first) l.bs;
  kept : Keeps l.fn.arena l.arena;
  below : AllBelow (length l.arena.exprs) l.ids.items;
}

abbrev pub decreases-read_brace : goal.decreases-read_brace
decreases-read_brace l = 40 * l.level

abbrev pub decreases-read_map : goal.decreases-read_map
decreases-read_map l = 40 * l.inner + 39

abbrev pub decreases-read_pair : goal.decreases-read_pair
decreases-read_pair l = 40 * l.inner + 36

abbrev pub decreases-read_next_pair : goal.decreases-read_next_pair
decreases-read_next_pair l = 40 * l.inner + 37

abbrev pub decreases-read_pairs : goal.decreases-read_pairs
decreases-read_pairs l = 40 * l.inner + 38

abbrev pub decreases-read_pairs-loop-fuel : goal.decreases-read_pairs-loop-fuel
decreases-read_pairs-loop-fuel l = l.fuel

abbrev pub invariant-read_pairs-loop-fuel : goal.invariant-read_pairs-loop-fuel
invariant-read_pairs-loop-fuel l = record {
  so_far :
      joined with_pair (map (pair_made (expr_of l.arena.exprs)) l.pairs.items) (gather (first with_pair) (pair_turn (reader l.names (inside l.names l.inner))) l.fuel l.rest)
      ≡ pairs (reader l.names (inside l.names l.inner)) (pair_made (expr_of l.fn.arena.exprs) l.fn.first) l.bs;
  kept : Keeps l.fn.arena l.arena;
  below : PairsBelow (length l.arena.exprs) l.pairs.items;
}

abbrev pub decreases-read_index : goal.decreases-read_index
decreases-read_index l = 40 * l.level

abbrev pub decreases-read_argument : goal.decreases-read_argument
decreases-read_argument l = 40 * l.inner + 36

abbrev pub decreases-read_arguments : goal.decreases-read_arguments
decreases-read_arguments l = 40 * l.inner + 37

abbrev pub decreases-read_arguments-loop-fuel : goal.decreases-read_arguments-loop-fuel
decreases-read_arguments-loop-fuel l = l.fuel

abbrev pub invariant-read_arguments-loop-fuel : goal.invariant-read_arguments-loop-fuel
invariant-read_arguments-loop-fuel l = record {
  so_far :
      joined expr (map (expr_of l.arena.exprs) l.ids.items) (gather (first expr) (argument_turn (reader l.names (inside l.names l.inner)) l.at) l.fuel (record { few = l.needed; many = l.allowed; rest = l.rest }))
      ≡ arguments_after (reader l.names (inside l.names l.inner)) l.at l.few l.many (expr_of l.fn.arena.exprs l.first) l.bs;
  kept : Keeps l.fn.arena l.arena;
  below : AllBelow (length l.arena.exprs) l.ids.items;
}

abbrev pub decreases-read_inside_call : goal.decreases-read_inside_call
decreases-read_inside_call l = 40 * l.inner + 38

abbrev pub decreases-read_call : goal.decreases-read_call
decreases-read_call l = 40 * l.level

abbrev pub decreases-read_step : goal.decreases-read_step
decreases-read_step l = 40 * l.level + 1

abbrev pub decreases-read_steps : goal.decreases-read_steps
decreases-read_steps l = 40 * l.level + 2

abbrev pub decreases-read_steps-loop-fuel : goal.decreases-read_steps-loop-fuel
decreases-read_steps-loop-fuel l = l.fuel

abbrev pub invariant-read_steps-loop-fuel : goal.invariant-read_steps-loop-fuel
invariant-read_steps-loop-fuel l = record {
  so_far :
      joined step (map (step_made (expr_of l.arena.exprs)) l.steps.items) (gather (first step) (step_turn (inside l.names l.level) (dots_view l.dots)) l.fuel l.rest)
      ≡ gather (first step) (step_turn (inside l.names l.level) (dots_view l.dots)) (length l.bs + 1) l.bs;
  kept : Keeps l.fn.arena l.arena;
  below : StepsBelow (length l.arena.exprs) l.steps.items;
}

abbrev pub decreases-read_steps_at : goal.decreases-read_steps_at
decreases-read_steps_at l = 40 * l.level + 3

abbrev pub decreases-read_dollar : goal.decreases-read_dollar
decreases-read_dollar l = 40 * l.level + 4

abbrev pub decreases-read_part : goal.decreases-read_part
decreases-read_part l = 40 * l.level + 4

abbrev pub decreases-read_parts : goal.decreases-read_parts
decreases-read_parts l = 40 * l.level + 5

abbrev pub decreases-read_parts-loop-fuel : goal.decreases-read_parts-loop-fuel
decreases-read_parts-loop-fuel l = l.fuel

abbrev pub invariant-read_parts-loop-fuel : goal.invariant-read_parts-loop-fuel
invariant-read_parts-loop-fuel l = record {
  so_far :
      joined part (map (part_made (expr_of l.arena.exprs)) l.parts.items) (gather (first part) (part_turn l.names (inside l.names l.level)) l.fuel l.rest)
      ≡ gather (first part) (part_turn l.names (inside l.names l.level)) (length l.bs + 1) l.bs;
  kept : Keeps l.fn.arena l.arena;
  below : PartsBelow (length l.arena.exprs) l.parts.items;
}

abbrev pub decreases-read_double : goal.decreases-read_double
decreases-read_double l = 40 * l.level + 6

abbrev pub decreases-read_behind_first : goal.decreases-read_behind_first
decreases-read_behind_first l = 40 * l.inner + 38
