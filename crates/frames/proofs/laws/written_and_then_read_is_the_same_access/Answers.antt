use Rattle.frames.proofs.RoundTrips.{written_is_read_back}
use Rattle.frames.proofs.laws.written_and_then_read_is_the_same_access.Goals as goal

pub returns : goal.returns
returns c = written_is_read_back
