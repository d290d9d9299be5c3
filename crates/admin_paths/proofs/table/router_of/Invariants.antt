use Rattle.std.proofs.Common.{length, ◌-◌, ◌≡◌, [], drop, map}
use Rattle.admin_paths.specs.Router.{with_routes, path_view}
use Rattle.admin_paths.proofs.table.router_of.Given as goal

abbrev pub invariant-loop-i : goal.invariant-loop-i
invariant-loop-i l = (with_routes l.router (map path_view (drop l.i l.paths)) ≡ with_routes [] (map path_view l.paths))

abbrev pub decreases-loop-i : goal.decreases-loop-i
decreases-loop-i l = length l.paths - l.i
