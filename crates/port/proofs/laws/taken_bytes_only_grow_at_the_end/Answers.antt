use Rattle.port.proofs.Growth.{taken_bytes_only_grow}
use Rattle.port.proofs.laws.taken_bytes_only_grow_at_the_end.Goals as goal

pub returns : goal.returns
returns c = taken_bytes_only_grow
