use Rattle.frames.proofs.Rows.{pieces_are_filled}
use Rattle.frames.proofs.laws.frames_are_filled.Goals as goal

pub returns : goal.returns
returns c = pieces_are_filled
