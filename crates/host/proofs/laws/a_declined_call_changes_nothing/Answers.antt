use Rattle.host.proofs.Declines.{declined_calls_change_nothing}
use Rattle.host.proofs.laws.a_declined_call_changes_nothing.Goals as goal

pub returns : goal.returns
returns c = declined_calls_change_nothing
