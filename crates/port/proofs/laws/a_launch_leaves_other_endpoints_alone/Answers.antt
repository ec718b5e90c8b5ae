use Rattle.port.proofs.Others.{other_endpoints_stay}
use Rattle.port.proofs.laws.a_launch_leaves_other_endpoints_alone.Goals as goal

pub returns : goal.returns
returns c = other_endpoints_stay
