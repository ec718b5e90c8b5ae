use Rattle.host.proofs.Sent.{answers_stay_within}
use Rattle.host.proofs.laws.sent_and_doubtful_stay_within_the_message.Goals as goal

pub returns : goal.returns
returns c = answers_stay_within
