use Rattle.frames.proofs.Rows.{one_byte_one_frame}
use Rattle.frames.proofs.laws.one_byte_goes_in_one_frame.Goals as goal

pub returns : goal.returns
returns c = one_byte_one_frame
