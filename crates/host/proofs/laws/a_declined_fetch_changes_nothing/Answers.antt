use Rattle.host.proofs.Declines.{declined_fetches_change_nothing}
use Rattle.host.proofs.laws.a_declined_fetch_changes_nothing.Goals as goal

pub returns : goal.returns
returns c = declined_fetches_change_nothing
