use Rattle.port.proofs.Endings.{launches_end_idle}
use Rattle.port.proofs.laws.every_launch_ends_idle.Goals as goal

pub returns : goal.returns
returns c = launches_end_idle
