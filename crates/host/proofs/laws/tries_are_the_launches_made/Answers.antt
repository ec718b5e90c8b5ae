use Rattle.host.proofs.Reaches.{tries_are_launches}
use Rattle.host.proofs.laws.tries_are_the_launches_made.Goals as goal

pub returns : goal.returns
returns c = tries_are_launches
