use Rattle.outside_core.specs.Held.{IsUnusedLane}
use Rattle.tests_meeting.proofs.Telling.{of_both}
use Rattle.tests_meeting.proofs.lanes.lanes.Goals as goal

pub returns-clause-unused : goal.returns-clause-unused
returns-clause-unused g c = of_both IsUnusedLane c.in_ok-vec.field-0.items c.in_ok-cat.cat c.in_ok-dog.dog c.in_ok-vec.ensures.items c.in_ok-cat.ensures c.in_ok-dog.ensures
