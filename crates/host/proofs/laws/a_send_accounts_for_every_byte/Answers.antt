use Rattle.host.proofs.Accounted.{sends_are_accounted_for}
use Rattle.host.proofs.laws.a_send_accounts_for_every_byte.Goals as goal

pub returns : goal.returns
returns c = sends_are_accounted_for
