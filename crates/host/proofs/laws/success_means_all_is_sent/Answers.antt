use Rattle.host.proofs.Sent.{success_sends_all}
use Rattle.host.proofs.laws.success_means_all_is_sent.Goals as goal

pub returns : goal.returns
returns c = success_sends_all
