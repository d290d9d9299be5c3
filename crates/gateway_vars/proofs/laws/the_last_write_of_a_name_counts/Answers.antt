use Rattle.gateway_vars.proofs.LastWrites.{last_writes}
use Rattle.gateway_vars.proofs.laws.the_last_write_of_a_name_counts.Goals as goal

pub returns : goal.returns
returns c = last_writes
