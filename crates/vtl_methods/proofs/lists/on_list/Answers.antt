use Rattle.vtl_methods.proofs.lists.on_list.Goals as goal

pub returns-in-Contains : goal.returns-in-Contains
returns-in-Contains c = rw c.in-Contains.is c.contains.ensures
