use Rattle.host.proofs.Reaches.{tries_of_a_fetch_are_launches}
use Rattle.host.proofs.laws.tries_of_a_fetch_are_the_launches_made.Goals as goal

pub returns : goal.returns
returns c = tries_of_a_fetch_are_launches
