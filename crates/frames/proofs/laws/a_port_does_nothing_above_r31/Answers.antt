use Rattle.frames.proofs.Rows.{nothing_above_31}
use Rattle.frames.proofs.laws.a_port_does_nothing_above_r31.Goals as goal

pub returns : goal.returns
returns c = nothing_above_31
