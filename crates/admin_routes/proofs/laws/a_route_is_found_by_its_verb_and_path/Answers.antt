use Rattle.admin_routes.proofs.Finding.{routes_are_found}
use Rattle.admin_routes.proofs.laws.a_route_is_found_by_its_verb_and_path.Goals as goal

pub returns : goal.returns
returns c = routes_are_found
