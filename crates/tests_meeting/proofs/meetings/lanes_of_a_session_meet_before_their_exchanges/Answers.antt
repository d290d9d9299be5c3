use Rattle.gate_session.specs.Posts.{IsOpen}
use Rattle.outside_core.specs.Held.{IsUnusedLane}
use Rattle.tests_meeting.proofs.Telling.{all_told}
use Rattle.tests_meeting.proofs.meetings.lanes_of_a_session_meet_before_their_exchanges.Goals as goal

pub serve_session-requires-clause-are_open : goal.serve_session-requires-clause-are_open
serve_session-requires-clause-are_open g c κs = all_told IsUnusedLane IsOpen _ c.in_ok-lanes.lanes.items (λ lane unused. (unused.0, unused.1)) c.in_ok-lanes.ensures.unused
