use Rattle.port.proofs.Others.{lost_changes_no_device}
use Rattle.port.proofs.laws.a_lost_launch_changes_no_device.Goals as goal

pub returns : goal.returns
returns c = lost_changes_no_device
