use Rattle.host.proofs.Accounted.{sends_keep_step}
use Rattle.host.proofs.laws.a_pipe_shown_in_step_after_a_send_is_in_step.Goals as goal

pub returns : goal.returns
returns c = sends_keep_step
