use Rattle.http_framing.proofs.TrailerLines.{finds_trailers}
use Rattle.http_framing.proofs.laws.trailers_are_found_by_their_lines.Goals as goal

pub returns : goal.returns
returns c = finds_trailers
