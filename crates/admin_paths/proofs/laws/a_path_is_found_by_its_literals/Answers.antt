use Rattle.admin_paths.proofs.Found.{paths_are_found}
use Rattle.admin_paths.proofs.laws.a_path_is_found_by_its_literals.Goals as goal

pub returns : goal.returns
returns c = paths_are_found
