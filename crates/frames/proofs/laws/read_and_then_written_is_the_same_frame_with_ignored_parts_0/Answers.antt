use Rattle.frames.proofs.RoundTrips.{read_is_written_plain}
use Rattle.frames.proofs.laws.read_and_then_written_is_the_same_frame_with_ignored_parts_0.Goals as goal

pub returns : goal.returns
returns c = read_is_written_plain
